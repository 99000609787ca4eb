use Rattle.std.proofs.Common.{◌≡◌, ◌+◌, List, Some, sym, subst}
use Rattle.std.specs.List.{slice_get}
use Rattle.ev_graph.specs.declared.execution.Source.{Source}
use Rattle.axiom_check.specs.Atomic.{AreTold}
use Rattle.axiom_check.proofs.AtomicLemmas.{triple_here}
use Rattle.axiom_check.proofs.atomic.triple_at.Goals as goal

pub returns-then-are_halves : goal.returns-then-are_halves
returns-then-are_halves c = λ co told few gains.
    let all = c.args.events.now.accesses.items in
    let found = c.in-Some.found in
    let write = c.in-Some-access_after.write in
    let halves = c.are_halves.ensures.0 c.if-are_halves.true in
    let told_here = subst (λ (l : List Source). AreTold all co c.args.writes.now.places.items l) (sym c.as_slice-bytes.ensures) told in
    let next : slice_get all (found.number + 1) ≡ Some write = sym c.in-Some-access_after.ensures in
    let of = c.triple_of.ensures co (found.number + 1) told_here few gains halves.writes next in
    triple_here all c.args.events.now.firsts.items c.requires.numbered co c.args.entry.now c.as_slice-bytes.result.now c.as_slice-bytes.ensures found.number found.access write
    c.in-Some.ensures.some next halves c.triple_of.result of
