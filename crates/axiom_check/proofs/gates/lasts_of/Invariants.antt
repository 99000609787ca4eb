use Rattle.axiom_check.specs.Gates.{IsListing}
use Rattle.axiom_check.proofs.gates.lasts_of.Given as goal

abbrev pub invariant-loop-one : goal.invariant-loop-one
invariant-loop-one l = IsListing l.fence l.items l.one-index l.listing.count l.listing.value l.listing.lasts.items
