use Rattle.std.proofs.Common.{◌≡◌, ◌≤◌}
use Rattle.ev_graph.specs.Events.{accesses_before}
use Rattle.ev_graph.proofs.finder.walk.Given as goal

abbrev pub invariant-loop-place : goal.invariant-loop-place
invariant-loop-place l = record { counted : accesses_before l.items l.place ≡ l.number; ahead : l.number ≤ l.index }
