use Rattle.std.proofs.Common.{arith}
use Rattle.std.proofs.lemmas.Option.{slice_get-get_or}
use Rattle.flag_use.proofs.Readings.{first_least, none_least, none_more}
use Rattle.flag_use.proofs.check.first_reading.Goals as goal

pub returns-then-reads_some_found : goal.returns-then-reads_some_found
returns-then-reads_some_found c =
    first_least c.args.nodes.now c.args.placed.now c.requires.sorted c.loop-p.p-index _
    (slice_get-get_or c.args.placed.now c.loop-p.p-index _ c.loop-p-test.true)
    (c.reads_some_found.ensures.0 c.if-reads_some_found.true) c.loop-p.invariant

pub loop-p-preserved : goal.loop-p-preserved
loop-p-preserved c =
    none_more c.args.nodes.now c.args.placed.now c.loop-p.p-index _
    (slice_get-get_or c.args.placed.now c.loop-p.p-index _ c.loop-p-test.true)
    (λ reading. let holds = c.reads_some_found.ensures.1 reading in absurd (let no = c.if-reads_some_found.false in cc)) c.loop-p.invariant

pub returns : goal.returns
returns c = none_least c.args.nodes.now c.args.placed.now c.loop-p.p-index (omega (arith, c.loop-p-test.false)) c.loop-p.invariant
