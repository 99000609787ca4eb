-- What the allocation of registers keeps.
use Rattle.std.specs.Prelude.{◌≡◌, ℕ, List}
use Rattle.behavior.specs.Acts.{Permission}
use Rattle.behavior.specs.Leaving.{SameLeft}
use Rattle.behavior.specs.Seen.{lowered}
use Rattle.behavior.specs.Kept.{SameNext, Keeps}
use Rattle.a64_code.specs.declared.instr.A64.{A64}
use Rattle.a64_code.specs.declared.instr.XReg.{XReg}
use Rattle.a64_table.specs.State.{AState, xregs}
use Rattle.a64_block.specs.Registers.{numbers}
use Rattle.a64_block.specs.Blocks.{a64_block, SameNamed}
use Rattle.a64_block.specs.declared.block.AEnd.{AEnd}

-- The words over registers do what those over numbers do, where both begin with the same flags of the machine.
abbrev pub MeansNumbers : List (A64 ℕ) → AEnd ℕ → List (A64 XReg) → AEnd XReg → Type 0
MeansNumbers ws end xs fin = (may : Permission) (at : ℕ) (s t : AState) → t.nzcv ≡ s.nzcv → SameNamed s t
    → Keeps lowered 1 0 (SameNext (SameLeft SameNamed)) (a64_block numbers may at ws end s) (a64_block xregs may at xs fin t)
