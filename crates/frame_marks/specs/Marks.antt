-- The marks of a program: its private slots, in order.
use Rattle.std.specs.Prelude.{◌≡◌, ◌<◌, ◌↔◌, ◌⊎◌, ℕ, List, Some, slice_get}
use Rattle.ev_graph.specs.Places.{StandsIn}
use Rattle.x64_syntax.specs.declared.slots.Slot.{Slot}
use Rattle.x64_syntax.specs.declared.slots.SlotKind.TheVariants as kind
use Rattle.code_at.specs.Code.{Program}
use Rattle.frame_marks.specs.Frames.{IsPrivate}

-- one slot comes before another: at a lower address, or as the read and the write of one instruction
abbrev pub Before : Slot → Slot → Type 0
Before a b = (a.address < b.address) ⊎ ((a.address ≡ b.address) × (a.kind ≡ kind.Read) × (b.kind ≡ kind.Write))

-- each slot comes before those behind it
abbrev pub IsInOrder : List Slot → Type 0
IsInOrder slots = (i j : ℕ) (a b : Slot) → i < j → slice_get slots i ≡ Some a → slice_get slots j ≡ Some b → Before a b

-- the list has just the private slots, in order
pub record ArePrivate (program : Program) (slots : List Slot) : Type 0 where
  pub exact : (slot : Slot) → StandsIn slots slot ↔ IsPrivate program slot
  pub sorted : IsInOrder slots
