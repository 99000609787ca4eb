-- Items with the planned fences among them, as a list says them.
use Rattle.std.specs.Prelude.{Bool, false, not, ◌&&◌, List, [], ◌∷◌, ◌++◌, if◌then◌else◌}
use Rattle.ev_graph.specs.declared.events.Access.{Access}
use Rattle.ev_graph.specs.declared.events.Item.{Item}
use Rattle.ev_graph.specs.declared.events.Item.TheVariants as items
use Rattle.ev_graph.specs.WellFormed.{is_write}
use Rattle.x64_syntax.specs.declared.slots.Slot.{Slot}
use Rattle.fence_plan.specs.declared.gap.Gap.{Gap}
use Rattle.fence_plan.specs.Private.{is_private}
use Rattle.fence_plan.specs.Planned.{first_given, later_gaps}

-- whether the first item that is no fence is the write of a locked pair
abbrev pub starts_with_locked_write : List Item → Bool
starts_with_locked_write [] = false
starts_with_locked_write (items.Access a ∷ is) = a.locked && is_write a.kind
starts_with_locked_write (items.Fence f ∷ is) = starts_with_locked_write is
starts_with_locked_write (items.Input t ∷ is) = false
starts_with_locked_write (items.Output t ∷ is) = false

-- whether a gap begins behind an access: it is not private, and is not the read of a locked pair whose write comes next
abbrev pub begins_gap : (private : Slot → Bool) → Access → (behind : List Item) → Bool
begins_gap private a behind = not (is_private private a) && not (starts_with_locked_write behind)

-- The items with the fences of gaps: behind each slot that is not private, a locked pair being one, those of the next gap.
abbrev pub dressed : (private : Slot → Bool) → List Gap → List Item → List Item
dressed private gs [] = []
dressed private gs (items.Access a ∷ is) =
    if begins_gap private a is then items.Access a ∷ (first_given gs ++ dressed private (later_gaps gs) is) else items.Access a ∷ dressed private gs is
dressed private gs (items.Fence f ∷ is) = items.Fence f ∷ dressed private gs is
dressed private gs (items.Input t ∷ is) = items.Input t ∷ dressed private gs is
dressed private gs (items.Output t ∷ is) = items.Output t ∷ dressed private gs is
