use Rattle.elf_format.proofs.SymbolSteps.{drop_at}
use Rattle.elf_write.proofs.Steps.{headers_step}
use Rattle.elf_write.proofs.parts.push_program_headers.Goals as goal

pub loop-segment-preserved : goal.loop-segment-preserved
loop-segment-preserved c =
    let segments = c.args.segments.now in
    let i = c.loop-segment.segment-index in
    let here = drop_at segments i c.segment-item.result c.loop-segment-test.true c.segment-item.is in
    headers_step _ _ _ _ _ i segments _ c.in_ok-header.header here c.in_ok-header.ensures c.in_ok-push_program_header.ensures c.in_ok-end.ensures.value c.loop-segment.invariant
