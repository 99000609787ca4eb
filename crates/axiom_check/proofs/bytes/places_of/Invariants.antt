use Rattle.axiom_check.specs.Bytes.{ArePlaces}
use Rattle.axiom_check.proofs.bytes.places_of.Given as goal

abbrev pub invariant-loop-place : goal.invariant-loop-place
invariant-loop-place l = ArePlaces l.events.accesses.items l.co l.place l.places.items
