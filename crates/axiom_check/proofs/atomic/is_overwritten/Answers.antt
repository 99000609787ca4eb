use Rattle.std.proofs.Common.{◌≡◌, subst, below_more, arith}
use Rattle.ev_graph.specs.declared.execution.Source.{Source}
use Rattle.axiom_check.specs.Atomic.{OverwritesByte}
use Rattle.axiom_check.proofs.LanesLemmas.{place_below}
use Rattle.axiom_check.proofs.atomic.is_overwritten.Goals as goal

pub loop-k-preserved : goal.loop-k-preserved
loop-k-preserved c = λ co told slots n place w there few other listed before. below_more _ _ (c.loop-k.invariant co told slots n place w there few other listed before) (λ source here over.
    let at = c.at.ensures in
    let same : source ≡ c.at.result = cc in
    let known = told.sources c.loop-k.k c.at.result at in
    let found = c.is_byte_overwritten.ensures co told.once told.listed known slots n place w there few other listed before
    (subst (λ (s : Source). OverwritesByte co c.args.read.now w c.loop-k.k s) same over) in
    let not_found = c.if-is_byte_overwritten.false in
    cc)

pub returns : goal.returns
returns c = λ co told slots n place w there few other listed before (k, source, here, over).
    let within = place_below c.args.bytes.now k source here in
    absurd (c.loop-k.invariant co told slots n place w there few other listed before k (omega arith) source here over)
