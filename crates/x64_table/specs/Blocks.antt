-- What instructions do that stand one behind the other, up to where the last of them leads.
use Rattle.std.specs.Prelude.{ℕ, List, [], ◌∷◌}
use Rattle.behavior.specs.Tree.{Tree, Begins, Next, ◌then◌}
use Rattle.behavior.specs.Acts.{Permission}
use Rattle.behavior.specs.Leaving.{ToBlock, ToReturn, ToEntry, Left, leaves}
use Rattle.x64_syntax.specs.declared.placed.Placed.{Placed}
use Rattle.x64_table.specs.State.{Thread}
use Rattle.x64_table.specs.Rows.{Exit, State, Return, Indexed, row_of}

-- what follows an exit: instructions go on from a state, and a block ends by a return or a jump through the table of this name
abbrev pub goes_on : (table : ℕ) → (Thread → Tree (Next (Left Thread))) → Exit → Tree (Next (Left Thread))
goes_on table f (State t) = f t
goes_on table f (Return t target) = leaves (ToReturn target) t
goes_on table f (Indexed t index) = leaves (ToEntry table index) t

-- the instructions of a block, one behind the other, from a state on
abbrev pub x64_block : Permission → (table : ℕ) → List Placed → Thread → Tree (Next (Left Thread))
x64_block may table [] s = leaves (ToBlock s.at) s
x64_block may table (p ∷ ps) s = Begins (row_of may p.instr p.length p.flow s) then goes_on table (x64_block may table ps)
