use Rattle.std.proofs.Common.{ap}
use Rattle.a64_code.specs.declared.instr.XReg.{XReg}
use Rattle.a64_block.specs.declared.block.ABlock.{ABlock}
use Rattle.code_layout.proofs.SmallPrograms.{stop_is_begun}
use Rattle.code_layout.proofs.tests.stop_blocks.Goals as goal

pub returns-clause-sites : goal.returns-clause-sites
returns-clause-sites c =
    stop_is_begun c.in_ok-divides.divides c.in_ok-invalid.invalid c.in_ok-returns.returns c.in_ok-jumps.jumps c.in_ok-from_array.field-0.items
    (ap (λ (b : ABlock XReg). b.first) c.in_ok-divides.ensures) (ap (λ (b : ABlock XReg). b.first) c.in_ok-invalid.ensures)
    (ap (λ (b : ABlock XReg). b.first) c.in_ok-jumps.ensures) c.in_ok-from_array.ensures.items
