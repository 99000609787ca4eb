-- Functions' frames: frame pointers, frame accesses, what exposes a frame, and private slots.
use Rattle.std.specs.Prelude.{◌≡◌, ◌≢◌, ◌⊎◌, ℕ, true, IsTrue}
use Rattle.ev_graph.specs.Places.{StandsIn}
use Rattle.x64_syntax.specs.declared.instr_slots.InstrSlot.{InstrSlot}
use Rattle.x64_syntax.specs.declared.instr_slots.SlotPlace.{SlotPlace}
use Rattle.x64_syntax.specs.declared.instr_slots.SlotPlace.TheVariants as place
use Rattle.x64_syntax.specs.declared.placed.Placed.{Placed}
use Rattle.x64_syntax.specs.declared.slots.Slot.{Slot}
use Rattle.x64_syntax.specs.declared.slots.SlotKind.TheVariants as kind
use Rattle.x64_syntax.specs.Slots.{slots}
use Rattle.code_at.specs.Code.{Program}
use Rattle.cfg_walk.specs.Reach.{IsPlaced, end_of}
use Rattle.cfg_walk.specs.Blocks.{IsFunction}
use Rattle.frame_marks.specs.Operands.{rsp, rbp, is_beside}
use Rattle.frame_marks.specs.Uses.{exposes, exposes_framed, saves_pointer, sets_pointer, is_endbr, changes_pointer}
use Rattle.frame_marks.specs.Bodies.{IsInBody}

-- ---- frame pointers

-- at the address stands push rbp, and behind it mov rbp, rsp
pub record SetsUp (program : Program) (address push set : ℕ) : Type 0 where
  pub first : Placed
  pub first_placed : IsPlaced program first
  pub at : first.address ≡ address
  pub saves : saves_pointer first.instr ≡ true
  pub is_push : push ≡ address
  pub second : Placed
  pub second_placed : IsPlaced program second
  pub behind : second.address ≡ end_of first
  pub sets : sets_pointer second.instr ≡ true
  pub is_set : set ≡ end_of first

-- at the address stands ENDBR64, and behind it the two
pub record SetsUpMarked (program : Program) (address push set : ℕ) : Type 0 where
  pub mark : Placed
  pub placed : IsPlaced program mark
  pub at : mark.address ≡ address
  pub marks : is_endbr mark.instr ≡ true
  pub sets_up : SetsUp program (end_of mark) push set

-- a function begins with push rbp and mov rbp, rsp, after an optional ENDBR64; they stand at these addresses
abbrev pub BeginsFrame : Program → (function push set : ℕ) → Type 0
BeginsFrame program function push set = SetsUp program function push set ⊎ SetsUpMarked program function push set

-- a function has a frame pointer: it begins so, and its body changes rbp otherwise only by LEAVE or POP RBP
pub record HasFramePointer (program : Program) (function : ℕ) : Type 0 where
  pub push : ℕ
  pub set : ℕ
  pub begins : BeginsFrame program function push set
  pub only : (p : Placed) → IsPlaced program p → IsInBody program function p.address → changes_pointer p.instr ≡ true → p.address ≡ set

-- ---- exposure

-- A function exposes its frame: its body uses rsp in a way that is not listed, or, where it has a frame pointer, rsp or rbp.
-- Its own first push rbp and mov rbp, rsp are exempt, also where its body comes back to them.
pub data Exposes (program : Program) (function : ℕ) : Type 0 where
  plainly : (p : Placed) → IsPlaced program p → IsInBody program function p.address → (HasFramePointer program function → ⊥)
      → exposes p.instr p.flow ≡ true → Exposes program function
  framed : (p : Placed) → IsPlaced program p → IsInBody program function p.address → (has : HasFramePointer program function)
      → exposes_framed p.instr p.flow ≡ true → p.address ≢ has.push → p.address ≢ has.set → Exposes program function

-- ---- private slots

-- An access in the body of a function is a frame access: on the stack without being named, as of PUSH, POP, CALL, RET, a
-- jump to a listed function and LEAVE, or at rsp and an offset, or, with a frame pointer, at rbp and an offset.
abbrev pub IsFrameAccess : Program → (function : ℕ) → SlotPlace → Type 0
IsFrameAccess program function place.Stack = Unit {0}
IsFrameAccess program function (place.Operand m) =
    IsTrue (is_beside rsp m) ⊎ (IsTrue (is_beside rbp m) × HasFramePointer program function)

-- An access of a placed instruction is private: it is not locked, and each function whose body has the instruction accesses
-- its frame by it and does not expose its frame.
pub record IsPrivateAccess (program : Program) (p : Placed) (access : InstrSlot) : Type 0 where
  pub unlocked : access.kind ≢ kind.Locked
  pub each : (function : ℕ) → IsFunction program function → IsInBody program function p.address
      → IsFrameAccess program function access.place × (Exposes program function → ⊥)

-- a slot is private: it is that of a private access of the instruction at its address
pub record IsPrivate (program : Program) (slot : Slot) : Type 0 where
  pub p : Placed
  pub placed : IsPlaced program p
  pub here : p.address ≡ slot.address
  pub access : InstrSlot
  pub makes : StandsIn (slots p.instr p.flow) access
  pub kind : access.kind ≡ slot.kind
  pub private : IsPrivateAccess program p access
