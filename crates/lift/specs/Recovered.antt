-- The code that is lifted block by block, and the instructions of its blocks.
use Rattle.std.specs.Prelude.{◌≡◌, ℕ, List, Some, slice_get}
use Rattle.x64_syntax.specs.declared.placed.Placed.{Placed}
use Rattle.elf_read.specs.Elf.{IsProgram}
use Rattle.code_at.specs.Code.{Program}
use Rattle.cfg_walk.specs.declared.code.Block.{Block}
use Rattle.cfg_walk.specs.declared.code.Code.{Code}
use Rattle.cfg_walk.specs.Blocks.{AreOf}
use Rattle.cfg_walk.specs.Code.{IsCodeOf}

-- the code of a program, which has no fault
pub record IsRecovered (code : Code) : Type 0 where
  pub program : Program
  pub is_program : IsProgram program.parts program.entries
  pub is_code : IsCodeOf program code

-- the block of this number
abbrev pub IsBlockAt : Code → (k : ℕ) → Block → Type 0
IsBlockAt code k block = slice_get code.blocks k ≡ Some block

-- the instructions of the block of this number
pub record AreOfBlock (code : Code) (k : ℕ) (ps : List Placed) : Type 0 where
  pub block : Block
  pub here : IsBlockAt code k block
  pub are : AreOf code.placed block ps
