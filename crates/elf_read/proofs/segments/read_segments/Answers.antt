use Rattle.std.proofs.Common.{arith}
use Rattle.elf_read.proofs.SegmentLemmas.{read_more, read_other}
use Rattle.elf_read.proofs.segments.read_segments.Goals as goal

pub loop-number-preserved-then-program_header-ne-PT_LOAD : goal.loop-number-preserved-then-program_header-ne-PT_LOAD
loop-number-preserved-then-program_header-ne-PT_LOAD c =
    read_other c.args.bytes.now c.loop-number.number _ _ (omega arith) (λ load. c.if-program_header-ne-PT_LOAD.true (cc)) c.loop-number.invariant

pub loop-number-preserved : goal.loop-number-preserved
loop-number-preserved c =
    let pushed = c.in_ok-push.ensures.items in
    rw pushed (read_more c.args.bytes.now c.loop-number.number _ _ _ (omega arith) (cc) c.in_ok-segment.ensures c.loop-number.invariant)
