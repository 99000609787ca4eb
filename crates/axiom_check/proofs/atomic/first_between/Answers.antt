use Rattle.std.proofs.Common.{◌≡◌, ℕ, List, Some, length, ap, subst, below_more, arith}
use Rattle.std.specs.List.{slice_get}
use Rattle.ev_graph.specs.declared.events.Access.{Access}
use Rattle.order_models.proofs.LocalLemmas.{never}
use Rattle.axiom_check.specs.Atomic.{ComesBetween}
use Rattle.axiom_check.proofs.LanesLemmas.{place_below}
use Rattle.axiom_check.proofs.atomic.first_between.Goals as goal

pub loop-number-preserved : goal.loop-number-preserved
loop-number-preserved c = λ co m told writes there. below_more _ _ (c.loop-number.invariant co m told writes there) (λ a here between.
    let at = subst (λ (l : List Access). slice_get l c.loop-number.number ≡ Some c.at-other.result) c.as_slice-accesses.ensures.value c.at-other.ensures in
    let same : a ≡ c.at-other.result = cc in
    never _ (c.comes_between.ensures co m c.loop-number.number told writes there at) c.if-comes_between.false
    (subst (λ (b : Access). ComesBetween co c.args.bytes.now c.args.read.now c.args.write.now b) same between))

pub returns-then-comes_between : goal.returns-then-comes_between
returns-then-comes_between c = λ co m told writes there.
    let at = subst (λ (l : List Access). slice_get l c.loop-number.number ≡ Some c.at-other.result) c.as_slice-accesses.ensures.value c.at-other.ensures in (
      c.loop-number.number,
      at,
      (c.comes_between.ensures co m c.loop-number.number told writes there at).0 c.if-comes_between.true,
      (λ n a less here between. c.loop-number.invariant co m told writes there n less a here between),
    )

pub returns : goal.returns
returns c = λ co m told writes there n a here between.
    let count = ap {B = ℕ} (λ (l : List Access). length l) c.as_slice-accesses.ensures.value in
    let within = place_below c.args.events.now.accesses.items n a here in
    c.loop-number.invariant co m told writes there n (omega arith) a here between
