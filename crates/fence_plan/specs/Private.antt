-- Which accesses are private: those of unlocked slots that are said to be.
use Rattle.std.specs.Prelude.{Bool, false, not, ◌&&◌, ◌||◌, List, [], ◌∷◌}
use Rattle.ev_graph.specs.declared.events.Access.{Access}
use Rattle.ev_graph.specs.declared.events.AccessKind.{AccessKind}
use Rattle.ev_graph.specs.declared.events.AccessKind.TheVariants as access
use Rattle.ev_graph.specs.declared.events.Item.{Item}
use Rattle.ev_graph.specs.declared.events.Item.TheVariants as items
use Rattle.x64_syntax.specs.declared.slots.Slot.{Slot}
use Rattle.x64_syntax.specs.declared.slots.SlotKind.{SlotKind}
use Rattle.x64_syntax.specs.declared.slots.SlotKind.TheVariants as slot

-- the kind of the slot in which an unlocked access is made
abbrev pub slot_kind : AccessKind → SlotKind
slot_kind access.Read = slot.Read
slot_kind access.Write = slot.Write

-- no locked slot is private
abbrev pub hides_kind : SlotKind → Bool → Bool
hides_kind slot.Read private = private
hides_kind slot.Write private = private
hides_kind slot.Locked private = false

-- whether an access is private: it is unlocked, and the slot that makes it is a private one
abbrev pub is_private : (private : Slot → Bool) → Access → Bool
is_private private a = not a.locked && private (record { address = a.place; kind = slot_kind a.kind })

-- whether a slot is private: it is not locked, and among the private ones
abbrev pub hides : (private : Slot → Bool) → Slot → Bool
hides private slot = hides_kind slot.kind (private slot)

-- whether items have an access that is not private
abbrev pub has_shared : (private : Slot → Bool) → List Item → Bool
has_shared private [] = false
has_shared private (items.Access a ∷ is) = not (is_private private a) || has_shared private is
has_shared private (items.Fence f ∷ is) = has_shared private is
has_shared private (items.Input t ∷ is) = has_shared private is
has_shared private (items.Output t ∷ is) = has_shared private is

-- for each access, in order, whether it is private
abbrev pub privacy : (private : Slot → Bool) → List Item → List Bool
privacy private [] = []
privacy private (items.Access a ∷ is) = is_private private a ∷ privacy private is
privacy private (items.Fence f ∷ is) = privacy private is
privacy private (items.Input t ∷ is) = privacy private is
privacy private (items.Output t ∷ is) = privacy private is
