-- Slots that are marked, and the order in which marks have them.
use Rattle.std.specs.Prelude.{◌≡◌, ℕ, ◌+◌, ◌*◌, ◌<◌, ◌==◌, ◌&&◌, ◌||◌, Bool, false, List, [], ◌∷◌, ◌⊎◌}
use Rattle.std.specs.List.{AllByRecursion}
use Rattle.x64_syntax.specs.declared.slots.Slot.{Slot}
use Rattle.x64_syntax.specs.declared.slots.SlotKind.{SlotKind}
use Rattle.x64_syntax.specs.declared.slots.SlotKind.TheVariants.{Read, Write, Locked}

-- kinds in their order
abbrev pub kind_number : SlotKind → ℕ
kind_number Read = 0
kind_number Write = 1
kind_number Locked = 2

-- a number that rises with the order of slots
abbrev pub slot_key : Slot → ℕ
slot_key slot = 4 * slot.address + kind_number slot.kind

-- two slots have one address and one kind
abbrev pub same_slot : Slot → Slot → Bool
same_slot a b = (a.address == b.address) && (kind_number a.kind == kind_number b.kind)

-- a slot is one of these
abbrev pub marked : List Slot → Slot → Bool
marked [] slot = false
marked (one ∷ slots) slot = same_slot one slot || marked slots slot

-- one slot comes before another: at a lower address, or at the same and of an earlier kind
abbrev pub Before : Slot → Slot → Type 0
Before a b = (a.address < b.address) ⊎ ((a.address ≡ b.address) × (kind_number a.kind < kind_number b.kind))

-- each slot comes before all behind it
abbrev pub IsSorted : List Slot → Type 0
IsSorted [] = Unit {0}
IsSorted (slot ∷ slots) = AllByRecursion (Before slot) slots × IsSorted slots
