-- What the interpreter answers of a row, from the values that it is given.
use Rattle.std.specs.Prelude.{ℕ, ◌%◌, true, false, List, [], ◌∷◌, Option, Some, None}
use Rattle.ev_graph.specs.declared.events.Access.{Access}
use Rattle.ev_graph.specs.declared.events.AccessKind.{AccessKind}
use Rattle.ev_graph.specs.declared.events.AccessKind.TheVariants.{Read, Write}
use Rattle.ev_graph.specs.declared.events.Item.{Item}
use Rattle.ev_graph.specs.declared.events.Item.TheVariants as items
use Rattle.ev_graph.specs.declared.rows.RowItems.{RowItems}
use Rattle.ev_graph.specs.declared.rows.Wanted.{Wanted}
use Rattle.behavior.specs.Tree.{Gives, Begins, Acts, Next}
use Rattle.x64_table.specs.Rows.{Exit, Row}

-- an answer: a value is missing, or the row is done, with its items and how it leaves
pub data Answer : Type 0 where
  WantsRead : Wanted → Answer
  WantsInput : Answer
  Done : RowItems → Next Exit → Answer

-- the values that a row is given, for its read and for its input
pub record Given : Type 0 where
  pub read : Option ℕ
  pub input : Option ℕ

abbrev pub given : (read input : Option ℕ) → Given
given read input = record { read = read; input = input }

-- ---- items one by one

abbrev pub no_items : RowItems
no_items = record { input = None; output = None; read = None; write = None; fence = false }

abbrev pub with_access : AccessKind → Access → RowItems → RowItems
with_access Read a made = record made { read = Some a }
with_access Write a made = record made { write = Some a }

-- with one more item
abbrev pub with_item : RowItems → Item → RowItems
with_item made (items.Access a) = with_access a.kind a made
with_item made (items.Fence f) = record made { fence = true }
with_item made (items.Input t) = record made { input = Some t.value }
with_item made (items.Output t) = record made { output = Some t.value }

-- with more items, one after another
abbrev pub with_items : RowItems → List Item → RowItems
with_items made [] = made
with_items made (i ∷ is) = with_items (with_item made i) is

-- ---- the answer

-- what an act takes from outside
pub data Takes : Type 0 where
  TakesNothing : Takes
  TakesRead : Wanted → Takes
  TakesInput : Takes

abbrev pub taken_by : AccessKind → Access → Takes
taken_by Read a = TakesRead (record { address = a.address; size = a.size; locked = a.locked })
taken_by Write a = TakesNothing

-- what an act takes shows in its first item
abbrev pub taken : List Item → Takes
taken (items.Access a ∷ is) = taken_by a.kind a
taken (items.Input t ∷ is) = TakesInput
taken _ = TakesNothing

-- by the value that is given, or an answer where none is
abbrev pub with_value : Option ℕ → (missing : Answer) → (ℕ → Answer) → Answer
with_value None missing by = missing
with_value (Some v) missing by = by v

-- an input is wanted, unless a read is
abbrev pub input_unless_read : Answer → Answer
input_unless_read (WantsRead w) = WantsRead w
input_unless_read _ = WantsInput

-- the answer at an act, from what the answer is by the value that it takes
abbrev pub answer_at : Takes → Given → (ℕ → Answer) → Answer
answer_at TakesNothing given by = by 0
answer_at (TakesRead w) given by = with_value given.read (WantsRead w) by
answer_at TakesInput given by = with_value given.input (input_unless_read (by 0)) by

-- The answer of a row that has made some items. A value that does not fit counts by its low bytes.
unfoldable pub answer : Given → RowItems → Row → Answer
answer given made (Gives next) = Done made next
answer given made (Begins t) = answer given made t
answer given made (Acts range act next) =
    answer_at (taken (act 0)) given (λ v. answer given (with_items made (act (v % range))) (next (v % range)))
