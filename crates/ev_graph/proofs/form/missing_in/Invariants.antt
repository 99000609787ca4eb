use Rattle.std.proofs.Common.{◌≡◌, ◌<◌, ℕ, Some, None}
use Rattle.std.specs.List.{slice_get}
use Rattle.ev_graph.specs.declared.events.Item.{Item}
use Rattle.ev_graph.specs.Places.{StandsIn}
use Rattle.ev_graph.specs.Faults.{IsFirstPresent}
use Rattle.ev_graph.specs.Giving.{item_writes}
use Rattle.ev_graph.proofs.form.missing_in.Given as goal

abbrev pub invariant-loop-one : goal.invariant-loop-one
invariant-loop-one l = (j : ℕ) (one : Item) → j < l.one-index → slice_get l.items j ≡ Some one → IsFirstPresent (StandsIn l.co) (item_writes one) None
