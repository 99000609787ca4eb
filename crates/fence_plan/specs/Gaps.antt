-- Which fences a block needs: its slots that are not private cut it into gaps, from edge to edge, and a gap holds the fences
-- that the slots at its ends ask for.
use Rattle.std.specs.Prelude.{Bool, true, false, ◌||◌, List, [], ◌∷◌, ◌++◌, Option, Some, None, if◌then◌else◌}
use Rattle.ev_graph.specs.declared.events.FenceKind.{FenceKind}
use Rattle.ev_graph.specs.declared.events.FenceKind.TheVariants.{Frm, Fww, Fsc}
use Rattle.x64_syntax.specs.declared.slots.SlotKind.{SlotKind}
use Rattle.x64_syntax.specs.declared.slots.SlotKind.TheVariants.{Read, Write, Locked}
use Rattle.fence_plan.specs.declared.gap.Gap.{Gap}

-- whether a slot stands at a gap's end, and is of this kind
abbrev pub is_read : Option SlotKind → Bool
is_read None = false
is_read (Some Read) = true
is_read (Some Write) = false
is_read (Some Locked) = false

abbrev pub is_write : Option SlotKind → Bool
is_write None = false
is_write (Some Read) = false
is_write (Some Write) = true
is_write (Some Locked) = false

abbrev pub is_locked : Option SlotKind → Bool
is_locked None = false
is_locked (Some Read) = false
is_locked (Some Write) = false
is_locked (Some Locked) = true

-- A gap holds Fsc where an MFENCE stands in it or a locked slot is at one of its ends. Else it holds Frm where the slot
-- before it is a read, and Fww where the slot after it is a write. It holds nothing more.
abbrev pub gap : (before : Option SlotKind) → (fenced : Bool) → (after : Option SlotKind) → Gap
gap before fenced after =
    if fenced || is_locked before || is_locked after
    then record { frm = false; fww = false; fsc = true }
    else record { frm = is_read before; fww = is_write after; fsc = false }

-- what counts in a block for its fences: a slot that is not private, by its kind, and MFENCE
pub data Station : Type 0 where
  Shared : SlotKind → Station
  Strong : Station

-- the gaps from here to the block's end, behind this slot, with an MFENCE in the first one or not
abbrev pub gaps_from : (before : Option SlotKind) → (fenced : Bool) → List Station → List Gap
gaps_from before fenced [] = gap before fenced None ∷ []
gaps_from before fenced (Strong ∷ stations) = gaps_from before true stations
gaps_from before fenced (Shared kind ∷ stations) = gap before fenced (Some kind) ∷ gaps_from (Some kind) false stations

-- the gaps of a block with these stations, from edge to edge
abbrev pub gaps : List Station → List Gap
gaps stations = gaps_from None false stations

-- a fence, where the gap holds it
abbrev pub fence_if : Bool → FenceKind → List FenceKind
fence_if true kind = kind ∷ []
fence_if false kind = []

-- the fences of a gap: Fsc, or else Frm and then Fww
abbrev pub fences_of : Gap → List FenceKind
fences_of g = fence_if g.frm Frm ++ (fence_if g.fww Fww ++ fence_if g.fsc Fsc)
