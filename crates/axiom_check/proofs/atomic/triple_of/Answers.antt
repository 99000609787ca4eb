use Rattle.std.proofs.Common.{ℕ, List, length, sym, subst}
use Rattle.axiom_check.specs.Atomic.{AreTold}
use Rattle.axiom_check.specs.Bytes.{ArePlaces}
use Rattle.axiom_check.proofs.AtomicLemmas.{none_between}
use Rattle.axiom_check.proofs.atomic.triple_of.Goals as goal

pub returns-then-is_overwritten : goal.returns-then-is_overwritten
returns-then-is_overwritten c = λ co m told few gains writes there.
    let told_here = subst (λ (l : List ℕ). AreTold c.args.events.now.accesses.items co l c.args.bytes.now) (sym c.as_slice-places.ensures.value) told in
    (c.first_between-found.result, c.first_between-found.ensures co m told_here writes there, c.named_with.ensures)

pub returns : goal.returns
returns c = λ co m told few gains writes there.
    let all = c.args.events.now.accesses.items in
    let listed = subst (λ (l : List ℕ). ArePlaces all co (length co) l) (sym c.as_slice-places.ensures.value) told.listed in
    let end = c.start_of-end.ensures co listed (told.writes m c.args.write.now there writes) in
    none_between all co c.args.bytes.now c.args.read.now c.args.write.now c.start_of-end.result told.once few end
    (λ n place w here thread other at before over.
    let found = c.is_overwritten.ensures co told gains n place w here thread other at before over in
    let not_found = c.if-is_overwritten.false in
    cc)
