-- What is told from the list of the placed instructions, and from searches over it.
use Rattle.std.specs.Prelude.{◌≡◌, ◌↔◌, ℕ, ◌==◌, Bool, true, false, not, ◌&&◌, ◌||◌, List, [], ◌∷◌, map, reverse, Option, Some, None, if◌then◌else◌}
use Rattle.std.specs.List.{filter, flat_map}
use Rattle.std.specs.Option.{is_some}
use Rattle.ev_graph.specs.Places.{StandsIn}
use Rattle.x64_syntax.specs.declared.placed.Placed.{Placed}
use Rattle.x64_syntax.specs.declared.instr_slots.InstrSlot.{InstrSlot}
use Rattle.x64_syntax.specs.declared.instr_slots.SlotPlace.{SlotPlace}
use Rattle.x64_syntax.specs.declared.instr_slots.SlotPlace.TheVariants as place
use Rattle.x64_syntax.specs.declared.slots.Slot.{Slot}
use Rattle.x64_syntax.specs.declared.slots.SlotKind.{SlotKind}
use Rattle.x64_syntax.specs.declared.slots.SlotKind.TheVariants as kind
use Rattle.x64_syntax.specs.Slots.{slots}
use Rattle.graph_reach.specs.Backwards.{IsTurned}
use Rattle.graph_reach.specs.Reach.{From, IsFirst}
use Rattle.graph_reach.specs.Sources.{source_of}
use Rattle.cfg_walk.specs.Reach.{end_of}
use Rattle.cfg_walk.specs.Code.{IsIncreasing}
use Rattle.cfg_walk.specs.Ends.{EndLow}
use Rattle.cfg_walk.specs.Machine.{placed_at}
use Rattle.frame_marks.specs.declared.prologue.Prologue.{Prologue}
use Rattle.frame_marks.specs.declared.witnesses.Sign.{Sign}
use Rattle.frame_marks.specs.declared.witnesses.Sign.TheVariants as sign
use Rattle.frame_marks.specs.declared.witnesses.Both.{Both}
use Rattle.frame_marks.specs.declared.frames.Frames.{Frames}
use Rattle.frame_marks.specs.Operands.{rsp, rbp, is_beside}
use Rattle.frame_marks.specs.Bodies.{goes_on}
use Rattle.frame_marks.specs.Uses.{saves_pointer, sets_pointer, is_endbr, changes_pointer, exposes, exposes_framed}

-- ---- the graph of bodies

-- the address of an instruction
abbrev pub address_of : Placed → ℕ
address_of p = p.address

-- instructions in the order of their addresses, each of which ends low
pub record AreOrdered (placed : List Placed) : Type 0 where
  pub sorted : IsIncreasing (map address_of placed)
  pub low : EndLow placed

-- where a function goes on after an instruction, if there is one
abbrev pub goes_on_after : Option Placed → List ℕ
goes_on_after None = []
goes_on_after (Some p) = goes_on p

-- where a function goes on from an address
abbrev pub goes_on_at : List Placed → ℕ → List ℕ
goes_on_at placed address = goes_on_after (placed_at placed address)

-- each node weighs 1
abbrev pub one_each : List Placed → ℕ → ℕ
one_each placed node = 1

-- ---- where functions set a frame pointer up

-- the prologue at an address, if these two instructions are one
abbrev pub pair_at : ℕ → Placed → Option Placed → Option Prologue
pair_at address first None = None
pair_at address first (Some second) =
    if saves_pointer first.instr && sets_pointer second.instr then Some (record { push = address; set = end_of first }) else None

abbrev pub frame_behind : List Placed → ℕ → Option Placed → Option Prologue
frame_behind placed address None = None
frame_behind placed address (Some first) = pair_at address first (placed_at placed (end_of first))

-- the prologue that stands from an address on, if one does
abbrev pub frame_from : List Placed → ℕ → Option Prologue
frame_from placed address = frame_behind placed address (placed_at placed address)

abbrev pub prologue_behind : List Placed → ℕ → Option Placed → Option Prologue
prologue_behind placed function None = None
prologue_behind placed function (Some first) = if is_endbr first.instr then frame_from placed (end_of first) else frame_from placed function

-- the prologue with which a function begins, after an optional ENDBR64, if it does
abbrev pub prologue_of : List Placed → ℕ → Option Prologue
prologue_of placed function = prologue_behind placed function (placed_at placed function)

-- ---- witnesses: the instructions that spoil a frame pointer, or expose a frame

-- whether an instruction shows a sign; what changes rbp is no further sign in a function with a frame pointer
abbrev pub shows : Sign → Placed → Bool
shows sign.ChangesPointer p = changes_pointer p.instr
shows sign.ExposesFramed p = exposes_framed p.instr p.flow && not (changes_pointer p.instr)
shows sign.Exposes p = exposes p.instr p.flow

-- the address of an instruction, where it shows a sign
abbrev pub shown : Sign → Placed → List ℕ
shown s p = if shows s p then p.address ∷ [] else []

-- the addresses of the instructions that show a sign
abbrev pub witnesses : Sign → List Placed → List ℕ
witnesses s placed = flat_map (shown s) placed

-- whether a witness is none, or this one
abbrev pub is_none_or : ℕ → Option ℕ → Bool
is_none_or one None = true
is_none_or one (Some found) = found == one

-- whether the first and the last witness of a function are none, or this one
abbrev pub is_only : Both → (function one : ℕ) → Bool
is_only both function one = is_none_or one (source_of both.first function) && is_none_or one (source_of both.last function)

-- for each node the first of the witnesses that it is reached from, and the last
pub record AreBoth (back : ℕ → List ℕ) (addresses : List ℕ) (both : Both) : Type 0 where
  pub first : (a : ℕ) → IsFirst (From back a) addresses (source_of both.first a)
  pub last : (a : ℕ) → IsFirst (From back a) (reverse addresses) (source_of both.last a)

-- what was found against the edges from all witnesses
pub record AreFrames (back : ℕ → List ℕ) (placed : List Placed) (frames : Frames) : Type 0 where
  pub changes : AreBoth back (witnesses sign.ChangesPointer placed) frames.changes
  pub framed : AreBoth back (witnesses sign.ExposesFramed placed) frames.framed
  pub plain : (a : ℕ) → IsFirst (From back a) (witnesses sign.Exposes placed) (source_of frames.plain a)

-- this was found against the edges of the bodies of these instructions
pub record HasFrames (placed : List Placed) (frames : Frames) : Type 0 where
  pub nodes : List ℕ
  pub exact : (a : ℕ) → StandsIn nodes a ↔ StandsIn (map address_of placed) a
  pub back : ℕ → List ℕ
  pub turned : IsTurned (goes_on_at placed) nodes back
  pub are : AreFrames back placed frames

-- ---- functions

-- a prologue, unless the function's body changes rbp elsewhere
abbrev pub unless_changed : Frames → (function : ℕ) → Option Prologue → Option Prologue
unless_changed frames function None = None
unless_changed frames function (Some own) = if is_only frames.changes function own.set then Some own else None

-- the prologue of a function with a frame pointer
abbrev pub pointer_of : Frames → List Placed → ℕ → Option Prologue
pointer_of frames placed function = unless_changed frames function (prologue_of placed function)

abbrev pub is_exposed_by : Frames → (function : ℕ) → Option Prologue → Bool
is_exposed_by frames function None = is_some (source_of frames.plain function)
is_exposed_by frames function (Some own) = not (is_only frames.framed function own.push)

-- whether a function exposes its frame
abbrev pub is_exposed : Frames → List Placed → ℕ → Bool
is_exposed frames placed function = is_exposed_by frames function (pointer_of frames placed function)

-- whether a function has no frame pointer
abbrev pub is_pointerless : Frames → List Placed → ℕ → Bool
is_pointerless frames placed function = not (is_some (pointer_of frames placed function))

-- ---- accesses

abbrev pub is_locked : SlotKind → Bool
is_locked kind.Locked = true
is_locked k = false

-- whether an access is a frame access, in functions with a frame pointer or without one
abbrev pub is_in_frame : (pointerless : Bool) → SlotPlace → Bool
is_in_frame pointerless place.Stack = true
is_in_frame pointerless (place.Operand m) = is_beside rsp m || (not pointerless && is_beside rbp m)

-- whether an access is private, where some function that has it exposes its frame, and some has no frame pointer
abbrev pub is_private : (exposed pointerless : Bool) → InstrSlot → Bool
is_private exposed pointerless access = not (is_locked access.kind) && (not exposed && is_in_frame pointerless access.place)

-- the slot of an access
abbrev pub slot_of : ℕ → InstrSlot → Slot
slot_of address access = record { address = address; kind = access.kind }

-- the slot of an access, where it is private
abbrev pub kept : (exposed pointerless : Bool) → ℕ → InstrSlot → List Slot
kept exposed pointerless address access = if is_private exposed pointerless access then slot_of address access ∷ [] else []

-- the private slots of an instruction
abbrev pub kept_of : (exposed pointerless : Bool) → Placed → List Slot
kept_of exposed pointerless p = flat_map (kept exposed pointerless p.address) (slots p.instr p.flow)

-- the same, where these functions that expose their frames and functions without a frame pointer were found
abbrev pub kept_by : List (ℕ × ℕ) → List (ℕ × ℕ) → Placed → List Slot
kept_by exposed pointerless p = kept_of (is_some (source_of exposed p.address)) (is_some (source_of pointerless p.address)) p

-- these slots were kept, where these functions were searched along the bodies of these instructions
pub record AreKept (placed : List Placed) (functions : List ℕ) (frames : Frames) (slots : List Slot) : Type 0 where
  pub exposed : List (ℕ × ℕ)
  pub pointerless : List (ℕ × ℕ)
  pub exposed_first : (a : ℕ) → IsFirst (From (goes_on_at placed) a) (filter (is_exposed frames placed) functions) (source_of exposed a)
  pub pointerless_first : (a : ℕ) → IsFirst (From (goes_on_at placed) a) (filter (is_pointerless frames placed) functions)
      (source_of pointerless a)
  pub are : slots ≡ flat_map (kept_by exposed pointerless) placed
