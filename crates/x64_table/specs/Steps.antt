-- Parts of rows as the interpreter takes them; only contracts of private functions cite this.
use Rattle.std.specs.Prelude.{ℕ, Bool, true, Option, Some, None}
use Rattle.ev_graph.specs.declared.rows.RowItems.{RowItems}
use Rattle.behavior.specs.Tree.{Goes}
use Rattle.behavior.specs.Acts.{Permission, locked_write}
use Rattle.x64_syntax.specs.declared.operand.Operand.{Operand}
use Rattle.x64_syntax.specs.declared.operand.Operand.TheVariants as operand
use Rattle.x64_syntax.specs.declared.operand.Width.{Width}
use Rattle.x64_table.specs.State.{Thread, bytes, address}
use Rattle.x64_table.specs.Rows.{State, stores}
use Rattle.x64_table.specs.Answers.{Answer, Done, Given, answer, input_unless_read, with_items}

-- The answer of a change whose read has been made: the locked write belongs to the read's act, and another is made now.
unfoldable pub ends_change : Permission → (place : ℕ) → Given → RowItems → (locked : Bool) → Width → Operand → Thread → (value : ℕ) → (after : Thread) → Answer
ends_change may place given made true w (operand.Mem m) t value after =
    Done (with_items made (locked_write place (address m t) (bytes w) (Some value))) (Goes (State after))
ends_change may place given made locked w to t value after = answer given made (stores may place w to t value after)

-- the answer after an input, from that which comes where it is given
abbrev pub after_input : (input : Option ℕ) → Answer → Answer
after_input None row = input_unless_read row
after_input (Some v) row = row
