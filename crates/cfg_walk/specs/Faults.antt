-- The faults of a program's reached code. Which is the first is said by the order of all faults.
use Rattle.std.specs.Prelude.{◌≡◌, ◌<◌, ℕ, ◌+◌, Bool, true, false, List, map, sum_by, Option, Some, None, IfSome}
use Rattle.ev_graph.specs.Places.{StandsIn, IsDistinct}
use Rattle.x64_syntax.specs.declared.instr.Instr.{Instr}
use Rattle.x64_syntax.specs.declared.instr.Instr.TheVariants as instr
use Rattle.x64_syntax.specs.declared.placed.Placed.{Placed}
use Rattle.elf_read.specs.declared.fault.CodeFault.{CodeFault}
use Rattle.elf_read.specs.declared.fault.FileFault.{FileFault}
use Rattle.elf_read.specs.declared.fault.FileFault.TheVariants.{TooMuchCode, BadCode, Indirect, Overlap}
use Rattle.code_at.specs.Code.{Program, IsBad}
use Rattle.jump_table.specs.declared.entries.Table.{Table}
use Rattle.jump_table.specs.Pattern.{Begins}
use Rattle.cfg_walk.specs.Reach.{IsReached, IsPlaced, end_of}

-- what an address counts for: itself, and the entries of a table
abbrev pub weight_with : Option Table → ℕ
weight_with None = 1
weight_with (Some table) = 1 + table.count

-- an address that is counted, and a table whose entries are counted with it
pub record Counted : Type 0 where
  pub address : ℕ
  pub table : Option Table

abbrev pub weight : Counted → ℕ
weight counted = weight_with counted.table

-- the most that all reached addresses together may count for
abbrev pub code_limit : ℕ
code_limit = 65536

-- some reached addresses, each once, and the entries of the tables whose patterns begin there are more than the limit
pub record IsTooMuch (program : Program) : Type 0 where
  pub some : List Counted
  pub reached : (c : Counted) → StandsIn some c → IsReached program c.address
  pub begins : (c : Counted) → StandsIn some c → IfSome c.table (Begins program c.address)
  pub once : IsDistinct (map (λ (c : Counted). c.address) some)
  pub more : code_limit < sum_by weight some

-- no instruction stands at this reached address, for this reason
pub record IsBadCode (program : Program) (fault : CodeFault) : Type 0 where
  pub reached : IsReached program fault.address
  pub bad : IsBad program fault.address fault.kind

-- whether an instruction is an indirect call or jump
abbrev pub is_indirect : Instr → Bool
is_indirect (instr.CallInd to) = true
is_indirect (instr.JmpInd to) = true
is_indirect i = false

-- an indirect call or jump is placed at the address; no jump through a table is translated so far
pub record IsIndirect (program : Program) (a : ℕ) : Type 0 where
  pub p : Placed
  pub placed : IsPlaced program p
  pub here : p.address ≡ a
  pub indirect : is_indirect p.instr ≡ true

-- the instruction that is placed at the address begins inside another one that is placed
pub record IsOverlapping (program : Program) (a : ℕ) : Type 0 where
  pub p : Placed
  pub placed : IsPlaced program p
  pub here : p.address ≡ a
  pub other : Placed
  pub other_placed : IsPlaced program other
  pub behind : other.address < a
  pub inside : a < end_of other

-- When a fault holds of a program's code: TooMuchCode to TableEntered, of which the last holds of none, since no jump through a
-- table is translated so far.
abbrev pub Holds : Program → FileFault → Type 0
Holds program TooMuchCode = IsTooMuch program
Holds program (BadCode fault) = IsBadCode program fault
Holds program (Indirect a) = IsIndirect program a
Holds program (Overlap a) = IsOverlapping program a
Holds program f = ⊥
