use Rattle.std.proofs.Common.{◌≡◌, refl, subst, below_more, arith}
use Rattle.ev_graph.specs.declared.execution.Source.{Source}
use Rattle.order_models.proofs.LocalLemmas.{never}
use Rattle.axiom_check.specs.Atomic.{OverwritesByte}
use Rattle.axiom_check.proofs.LanesLemmas.{place_below}
use Rattle.axiom_check.proofs.atomic.overwrites.Goals as goal

pub loop-k-preserved : goal.loop-k-preserved
loop-k-preserved c = λ co told from. below_more _ _ (c.loop-k.invariant co told from) (λ source here over.
    let there = c.at.ensures in
    let same : source ≡ c.at.result = cc in
    let known = told.sources c.loop-k.k c.at.result there in
    never _ (c.overwrites_byte.ensures co told.once told.listed known from) c.if-overwrites_byte.false
    (subst (λ (s : Source). OverwritesByte co c.args.read.now c.args.write.now c.loop-k.k s) same over))

pub returns-then-overwrites_byte : goal.returns-then-overwrites_byte
returns-then-overwrites_byte c = λ co told from.
    let known = told.sources c.loop-k.k c.at.result c.at.ensures in
    let over = (c.overwrites_byte.ensures co told.once told.listed known from).0 c.if-overwrites_byte.true in
    ((λ holds. (c.loop-k.k, c.at.result, c.at.ensures, over)), (λ some. refl))

pub returns : goal.returns
returns c = λ co told from. (
  (λ holds. absurd cc),
  (λ (k, source, here, over).
      let within = place_below c.args.bytes.now k source here in
      absurd (c.loop-k.invariant co told from k (omega arith) source here over)),
)
