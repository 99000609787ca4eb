-- What selection keeps.
use Rattle.std.specs.Prelude.{◌≡◌, ℕ, ◌+◌, ◌^◌, ◌<◌, List}
use Rattle.behavior.specs.Acts.{Permission}
use Rattle.behavior.specs.Leaving.{SameLeft}
use Rattle.behavior.specs.Seen.{lowered}
use Rattle.behavior.specs.Kept.{SameNext, Keeps}
use Rattle.limm_ir.specs.Costs.{step_cost}
use Rattle.limm_ir.specs.Steps.{IrState}
use Rattle.limm_ir.specs.Blocks.{ir_block}
use Rattle.limm_ir.specs.declared.block.IrEnd.{IrEnd}
use Rattle.limm_ir.specs.declared.step.IrStep.{IrStep}
use Rattle.a64_code.specs.declared.instr.A64.{A64}
use Rattle.a64_table.specs.State.{AState}
use Rattle.a64_block.specs.Registers.{numbers}
use Rattle.a64_block.specs.Blocks.{a64_block}
use Rattle.a64_block.specs.declared.block.AEnd.{AEnd}

-- The numbers hold what registers and flags of x86 hold, and each number holds 64 bits.
pub record SameNumbered (i : IrState) (s : AState) : Type 0 where
  pub regs : (r : ℕ) → r < 16 → s.regs r ≡ i.regs r
  pub flags : (f : ℕ) → f < 4 → s.regs (16 + f) ≡ i.flags f
  pub fit : (n : ℕ) → s.regs n < 2 ^ 64

-- The words do what the steps do, with each fence as a barrier, and are begun as often as the steps cost at most.
abbrev pub MeansSteps : List IrStep → IrEnd → List (A64 ℕ) → AEnd ℕ → Type 0
MeansSteps xs end ws fin = (may : Permission) (at : ℕ) (i : IrState) (s : AState) → SameNumbered i s
    → Keeps lowered 1 0 (SameNext (SameLeft SameNumbered)) (ir_block step_cost may xs end i) (a64_block numbers may at ws fin s)
