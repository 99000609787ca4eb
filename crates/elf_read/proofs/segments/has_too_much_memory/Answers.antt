use Rattle.std.proofs.Common.{arith, refl}
use Rattle.elf_read.proofs.SegmentLemmas.{size_load, size_other, size_none, size_all}
use Rattle.elf_read.proofs.segments.has_too_much_memory.Goals as goal

pub loop-number-init : goal.loop-number-init
loop-number-init c = record { counted = omega (arith, size_all c.args.bytes.now); low = omega arith }

pub loop-number-preserved-then-header-ne-PT_LOAD : goal.loop-number-preserved-then-header-ne-PT_LOAD
loop-number-preserved-then-header-ne-PT_LOAD c =
    let step = size_other c.args.bytes.now c.loop-number.number (omega arith) (λ load. c.if-header-ne-PT_LOAD.true (cc)) in
    record { counted = omega arith; low = omega arith }

pub returns-then-header-total : goal.returns-then-header-total
returns-then-header-total c =
    let step = size_load c.args.bytes.now c.loop-number.number (omega arith) (cc) in
    (λ _. omega arith, λ _. refl)

pub loop-number-preserved : goal.loop-number-preserved
loop-number-preserved c =
    let step = size_load c.args.bytes.now c.loop-number.number (omega arith) (cc) in
    record { counted = omega arith; low = omega arith }

pub returns : goal.returns
returns c =
    let none = size_none c.args.bytes.now c.loop-number.number (omega arith) in
    (λ wrong. cc, λ big. absurd (omega arith))
