-- The code of a program, as lists that are exact both ways and sorted by address.
use Rattle.std.specs.Prelude.{◌≡◌, ◌<◌, ◌↔◌, ℕ, List, map, slice_get, Some}
use Rattle.ev_graph.specs.Places.{StandsIn}
use Rattle.x64_syntax.specs.declared.placed.Placed.{Placed}
use Rattle.elf_read.specs.declared.fault.FileFault.TheVariants.{TooMuchCode, UndefinedFlag}
use Rattle.elf_read.specs.FirstFault.{Clear, rank}
use Rattle.code_at.specs.Code.{Program, program_in}
use Rattle.cfg_walk.specs.declared.code.Block.{Block}
use Rattle.cfg_walk.specs.declared.code.Code.{Code}
use Rattle.cfg_walk.specs.Reach.{IsPlaced}
use Rattle.cfg_walk.specs.Faults.{Holds}
use Rattle.cfg_walk.specs.Blocks.{IsBlock, IsSite, IsFunction}

-- each number is below those behind it
abbrev pub IsIncreasing : List ℕ → Type 0
IsIncreasing xs = (i j a b : ℕ) → i < j → slice_get xs i ≡ Some a → slice_get xs j ≡ Some b → a < b

-- the list has just the addresses of which P holds, in order
pub record AreJust (P : ℕ → Type 0) (xs : List ℕ) : Type 0 where
  pub exact : (a : ℕ) → StandsIn xs a ↔ P a
  pub sorted : IsIncreasing xs

-- the list has just the placed instructions, by their addresses
pub record AreInstructions (program : Program) (placed : List Placed) : Type 0 where
  pub exact : (p : Placed) → StandsIn placed p ↔ IsPlaced program p
  pub sorted : IsIncreasing (map (λ (p : Placed). p.address) placed)

-- the list has just the blocks, by their first addresses
pub record AreBlocks (program : Program) (blocks : List Block) : Type 0 where
  pub exact : (b : Block) → StandsIn blocks b ↔ IsBlock program b
  pub sorted : IsIncreasing (map (λ (b : Block). b.first) blocks)

-- this is the code of a program, which has no fault
pub record IsCodeOf (program : Program) (code : Code) : Type 0 where
  pub clear : Clear (Holds program) (rank TooMuchCode) (rank (UndefinedFlag 0))
  pub placed : AreInstructions program code.placed
  pub blocks : AreBlocks program code.blocks
  pub sites : AreJust (IsSite program) code.sites
  pub functions : AreJust (IsFunction program) code.functions

-- this is the code of the program that a file's bytes say
abbrev pub IsFileCode : List ℕ → Code → Type 0
IsFileCode bytes code = IsCodeOf (program_in bytes) code
