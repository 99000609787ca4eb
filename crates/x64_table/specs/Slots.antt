-- The accesses that items make, as slots.
use Rattle.std.specs.Prelude.{Bool, true, false, List, [], ◌∷◌}
use Rattle.ev_graph.specs.declared.events.Item.{Item}
use Rattle.ev_graph.specs.declared.events.Item.TheVariants as items
use Rattle.ev_graph.specs.declared.events.AccessKind.{AccessKind}
use Rattle.ev_graph.specs.declared.events.AccessKind.TheVariants as kinds
use Rattle.x64_syntax.specs.declared.slots.SlotKind.{SlotKind}
use Rattle.x64_syntax.specs.declared.slots.SlotKind.TheVariants.{Read, Write, Locked}

-- the slot to which an access belongs, before the others: a locked write belongs to the locked read before it
abbrev pub slot_of : (locked : Bool) → AccessKind → List SlotKind → List SlotKind
slot_of false kinds.Read rest = Read ∷ rest
slot_of false kinds.Write rest = Write ∷ rest
slot_of true kinds.Read rest = Locked ∷ rest
slot_of true kinds.Write rest = rest

-- the slots that items belong to
abbrev pub slots_made : List Item → List SlotKind
slots_made [] = []
slots_made (items.Access a ∷ is) = slot_of a.locked a.kind (slots_made is)
slots_made (items.Fence f ∷ is) = slots_made is
slots_made (items.Input t ∷ is) = slots_made is
slots_made (items.Output t ∷ is) = slots_made is
