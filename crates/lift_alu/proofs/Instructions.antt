-- What it means that the steps of an instruction do what its row does, and what instructions share.
use Rattle.std.proofs.Common.{◌≡◌, ℕ, ◌<◌, false, []}
use Rattle.behavior.specs.Tree.{Tree, Next, ◌then◌}
use Rattle.behavior.specs.Acts.{Permission}
use Rattle.behavior.specs.Leaving.{Left}
use Rattle.x64_syntax.specs.Formed.{IsRegister}
use Rattle.x64_syntax.specs.declared.instr.Instr.{Instr}
use Rattle.x64_syntax.specs.declared.operand.Reg.{Reg}
use Rattle.x64_syntax.specs.declared.operand.Width.{Width}
use Rattle.x64_syntax.specs.declared.placed.Flow.{Flow}
use Rattle.x64_table.specs.State.{Thread}
use Rattle.x64_table.specs.Rows.{Exit, acts}
use Rattle.x64_table.specs.Blocks.{goes_on, x64_block}
use Rattle.limm_ir.specs.Steps.{IrState}
use Rattle.lift_alu.specs.Lifted.{lifts, lifts_with}
use Rattle.lift_alu.specs.Meant.{SameThread, end_from}
use Rattle.lift_alu.proofs.FlagValues.{HasFlags}
use Rattle.lift_alu.proofs.Rules.{Does}

-- what follows the row of an instruction that is the last of its block
abbrev pub Follows : Permission → (table : ℕ) → Exit → Tree (Next (Left Thread))
Follows may table = goes_on table (x64_block may table [])

-- The steps of an instruction do what its row does, from a thread that has the address after it.
abbrev pub Means : Permission → (table place after temps : ℕ) → Instr → Type 0
Means may table place after temps i = (f : Flow) (t : Thread) (s : IrState) → t.at ≡ after → SameThread t s
    → Does may (end_from i f after temps) (acts may place i f t then Follows may table) (lifts place after i temps) s

-- the same of an instruction with its flow
abbrev pub MeansWith : Permission → (table place after temps : ℕ) → Flow → Instr → Type 0
MeansWith may table place after temps f i = (t : Thread) (s : IrState) → t.at ≡ after → SameThread t s
    → Does may (end_from i f after temps) (acts may place i f t then Follows may table) (lifts_with place after f i temps) s

-- a thread at another address has the same registers and flags
pub same_elsewhere : (s : Thread) (i : IrState) (at : ℕ) → SameThread s i → SameThread (record s { at = at }) i
same_elsewhere s i at same = record { regs = same.regs; fit = same.fit; cf = same.cf; zf = same.zf; sf = same.sf; of = same.of }

-- the flags of a thread and of the steps
pub has_flags : (s : Thread) (i : IrState) → SameThread s i → HasFlags s.flags i
has_flags s i same = record { cf = same.cf; zf = same.zf; sf = same.sf; of = same.of }

-- a low part of a register
pub low_register : (w : Width) (r : Reg) → r.high ≡ false → r.number < 16 → IsRegister w r
low_register w r low lt = record { number = lt; high = λ high. cc }
