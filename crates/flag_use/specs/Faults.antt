-- The fault of code that reads an undefined flag.
use Rattle.std.specs.Prelude.{◌≡◌, ◌+◌, ℕ, true}
use Rattle.x64_syntax.specs.declared.placed.Placed.{Placed}
use Rattle.elf_read.specs.declared.fault.FileFault.{FileFault}
use Rattle.elf_read.specs.declared.fault.FileFault.TheVariants.{UndefinedFlag}
use Rattle.elf_read.specs.FirstFault.{Clear, rank}
use Rattle.code_at.specs.Code.{Program}
use Rattle.cfg_walk.specs.Reach.{IsPlaced}
use Rattle.flag_use.specs.declared.flag.Flag.{Flag}
use Rattle.flag_use.specs.Instructions.{reads}
use Rattle.flag_use.specs.Paths.{PathTo}

-- the instruction that is placed at the address reads a flag that some path to there leaves undefined
pub record ReadsUndefined (program : Program) (a : ℕ) : Type 0 where
  pub p : Placed
  pub placed : IsPlaced program p
  pub here : p.address ≡ a
  pub flag : Flag
  pub reading : reads flag p.instr ≡ true
  pub undefined : PathTo program flag a true

-- when a fault of this kind holds of a program's code
abbrev pub Holds : Program → FileFault → Type 0
Holds program (UndefinedFlag a) = ReadsUndefined program a
Holds program f = ⊥

-- no instruction reads an undefined flag, as in each program that `check_flags` accepts
abbrev pub ReadsNoUndefined : Program → Type 0
ReadsNoUndefined program = Clear (Holds program) (rank (UndefinedFlag 0)) (rank (UndefinedFlag 0) + 1)
