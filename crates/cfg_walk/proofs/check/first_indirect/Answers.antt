use Rattle.std.proofs.Common.{sym, ◌∙◌, arith}
use Rattle.std.proofs.lemmas.Option.{slice_get-get_or}
use Rattle.cfg_walk.proofs.Scans.{direct_more, least_indirect, none_indirect}
use Rattle.cfg_walk.proofs.check.first_indirect.Goals as goal

pub returns-then-is_indirect : goal.returns-then-is_indirect
returns-then-is_indirect c =
    λ program. least_indirect program c.args.placed.now c.loop-p.p-index _ (slice_get-get_or c.args.placed.now c.loop-p.p-index _ c.loop-p-test.true)
    (sym c.is_indirect.ensures ∙ c.if-is_indirect.true) c.loop-p.invariant

pub loop-p-preserved : goal.loop-p-preserved
loop-p-preserved c =
    direct_more c.args.placed.now c.loop-p.p-index _ (slice_get-get_or c.args.placed.now c.loop-p.p-index _ c.loop-p-test.true) (sym c.is_indirect.ensures ∙ c.if-is_indirect.false)
    c.loop-p.invariant

pub returns : goal.returns
returns c = λ program. none_indirect program c.args.placed.now c.loop-p.p-index (omega (arith, c.loop-p-test.false)) c.loop-p.invariant
