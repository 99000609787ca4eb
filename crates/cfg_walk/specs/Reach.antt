-- Which addresses of a program's code are reached from its threads' entries, and the instructions that are placed there.
use Rattle.std.specs.Prelude.{ℕ, ◌+◌, List, [], ◌∷◌}
use Rattle.ev_graph.specs.Places.{StandsIn}
use Rattle.x64_syntax.specs.declared.instr.Instr.{Instr}
use Rattle.x64_syntax.specs.declared.instr.Instr.TheVariants as instr
use Rattle.x64_syntax.specs.declared.placed.Flow.{Flow}
use Rattle.x64_syntax.specs.declared.placed.Flow.TheVariants as flow
use Rattle.x64_syntax.specs.declared.placed.Placed.{Placed}
use Rattle.code_at.specs.Code.{Program, StandsAt, target_from}
use Rattle.jump_table.specs.declared.entries.Table.{Table}
use Rattle.jump_table.specs.Entries.{entries_from}
use Rattle.jump_table.specs.Pattern.{Begins}

-- where an instruction ends
abbrev pub end_of : Placed → ℕ
end_of p = p.address + p.length

-- a call leads to its target and, as it returns, behind itself; a listed call only behind itself
abbrev pub after_call : Flow → (target end : ℕ) → List ℕ
after_call flow.Plain target end = target ∷ end ∷ []
after_call f target end = end ∷ []

-- a jump leads to its target; a jump to a listed call returns
abbrev pub after_jump : Flow → (target : ℕ) → List ℕ
after_jump flow.Plain target = target ∷ []
after_jump f target = []

-- where control may go on after an instruction with this flow that ends at this address, tables aside
abbrev pub after : Instr → Flow → (end : ℕ) → List ℕ
after (instr.Jmp displacement) f end = after_jump f (target_from end displacement)
after (instr.Jcc condition displacement) f end = target_from end displacement ∷ end ∷ []
after (instr.Call displacement) f end = after_call f (target_from end displacement) end
after instr.Ret f end = []
after instr.Ud2 f end = []
after (instr.CallInd to) f end = []
after (instr.JmpInd to) f end = []
after i f end = end ∷ []

-- the successors of an instruction
abbrev pub successors : Placed → List ℕ
successors p = after p.instr p.flow (end_of p)

-- the entries of a table
abbrev pub entries_of : Program → Table → List ℕ
entries_of program table = entries_from program.parts table.base table.count

-- an entry of the table whose pattern begins at the address
pub record HasEntry (program : Program) (address entry : ℕ) : Type 0 where
  pub table : Table
  pub begins : Begins program address table
  pub stands : StandsIn (entries_of program table) entry

-- An address is reached: a thread begins there, or it is a successor of the instruction at a reached address, or an entry
-- of the table whose pattern begins at one.
pub data IsReached (program : Program) : ℕ → Type 0 where
  at-entry : {a : ℕ} → StandsIn program.entries a → IsReached program a
  at-next : {a b : ℕ} (p : Placed) → IsReached program a → StandsAt program a p → StandsIn (successors p) b → IsReached program b
  at-table : {a b : ℕ} → IsReached program a → HasEntry program a b → IsReached program b

-- the instruction stands at its address, which is reached
pub record IsPlaced (program : Program) (p : Placed) : Type 0 where
  pub reached : IsReached program p.address
  pub stands : StandsAt program p.address p
