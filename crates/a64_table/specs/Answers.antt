-- What `row` answers: the word's tree, walked on the values that were given.
use Rattle.std.specs.Prelude.{ℕ, false, List, [], ◌∷◌, ◌++◌, slice_set, Option, Some, None}
use Rattle.ev_graph.specs.declared.events.Item.{Item}
use Rattle.ev_graph.specs.declared.events.Item.TheVariants as items
use Rattle.ev_graph.specs.declared.events.Access.{Access}
use Rattle.ev_graph.specs.declared.events.AccessKind.{AccessKind}
use Rattle.ev_graph.specs.declared.events.AccessKind.TheVariants.{Read, Write}
use Rattle.ev_graph.specs.declared.rows.Wanted.{Wanted}
use Rattle.ev_graph.specs.declared.rows.RowItems.{RowItems}
use Rattle.behavior.specs.Tree.{Tree, Gives, Begins, Acts, Next, Goes, Stops}
use Rattle.behavior.specs.Acts.{Permission}
use Rattle.a64_code.specs.declared.instr.XReg.{XReg}
use Rattle.a64_code.specs.declared.instr.A64.{A64}
use Rattle.a64_table.specs.declared.state.A64State.{A64State}
use Rattle.a64_table.specs.declared.rows.ANext.{ANext}
use Rattle.a64_table.specs.declared.rows.ANext.TheVariants as nexts
use Rattle.a64_table.specs.declared.rows.ARow.{ARow}
use Rattle.a64_table.specs.declared.rows.ARow.TheVariants as rows
use Rattle.a64_table.specs.declared.rows.FenceChoice.{FenceChoice}
use Rattle.a64_table.specs.declared.rows.FenceChoice.TheVariants as choices
use Rattle.a64_table.specs.declared.state.Done.{Done}
use Rattle.a64_table.specs.State.{xregs, value, held, moved}
use Rattle.a64_table.specs.Rows.{a64_row, a64_result}

-- what an act takes from outside: the value of a read, an input, or nothing
pub data Need : Type 0 where
  ValueRead : Wanted → Need
  ValueIn : Need
  NoValue : Need

-- the value of an access comes from outside where it reads
abbrev pub need_of_access : AccessKind → Access → Need
need_of_access Read a = ValueRead (record { address = a.address; size = a.size; locked = a.locked })
need_of_access Write a = NoValue

-- An act shows what it takes from outside in the first item that it makes.
abbrev pub need_of : List Item → Need
need_of [] = NoValue
need_of (items.Access a ∷ is) = need_of_access a.kind a
need_of (items.Fence f ∷ is) = NoValue
need_of (items.Input t ∷ is) = ValueIn
need_of (items.Output t ∷ is) = NoValue

-- what a tree comes to on given values: a value is wanted, or all of it is made
pub data Answer (S : Type 0) : Type 0 where
  NeedsRead : Wanted → Answer S
  NeedsInput : Answer S
  Makes : List Item → Next S → Answer S

-- the answer of an act, by the value that it needs
abbrev pub supplied : {S : Type 0} → Need → (read input : Option ℕ) → (ℕ → Answer S) → Answer S
supplied (ValueRead w) None input go = NeedsRead w
supplied (ValueRead w) (Some v) input go = go v
supplied ValueIn read None go = NeedsInput
supplied ValueIn read (Some v) go = go v
supplied NoValue read input go = go 0

-- the answer of a tree, before which these items were made
abbrev pub answered : {S : Type 0} → Tree (Next S) → (read input : Option ℕ) → (before : List Item) → Answer S
answered (Gives next) read input before = Makes before next
answered (Begins t) read input before = answered t read input before
answered (Acts range made next) read input before =
    supplied (need_of (made 0)) read input (λ v. answered (next v) read input (before ++ made v))

-- no item
abbrev pub no_items : RowItems
no_items = record { input = None; output = None; read = None; write = None; fence = false }

-- an access among the items of a row
abbrev pub with_access : AccessKind → Access → RowItems → RowItems
with_access Read a made = record made { read = Some a }
with_access Write a made = record made { write = Some a }

-- the items of a row but for fences, each in its place
abbrev pub row_items : List Item → RowItems
row_items [] = no_items
row_items (items.Access a ∷ is) = with_access a.kind a (row_items is)
row_items (items.Fence f ∷ is) = row_items is
row_items (items.Input t ∷ is) = record (row_items is) { input = Some t.value }
row_items (items.Output t ∷ is) = record (row_items is) { output = Some t.value }

-- the fence of a row
abbrev pub fence_choice : List Item → FenceChoice
fence_choice [] = choices.None
fence_choice (items.Access a ∷ is) = fence_choice is
fence_choice (items.Fence f ∷ is) = choices.Dmb f.kind
fence_choice (items.Input t ∷ is) = fence_choice is
fence_choice (items.Output t ∷ is) = fence_choice is

-- the registers after a value for the result register, if there is one; there is none of the number 31
abbrev pub with_result : Option XReg → ℕ → List ℕ → List ℕ
with_result None v regs = regs
with_result (Some r) v regs = slice_set regs r.number v

-- the state after a row, whose result register this is
abbrev pub next_state : Option XReg → Done → A64State → A64State
next_state result d s = record {
  regs = with_result result d.value s.regs;
  n = d.nzcv.n;
  z = d.nzcv.z;
  c = d.nzcv.c;
  v = d.nzcv.v;
  at = moved s.at d.distance;
}

-- where a row leads
abbrev pub next_of : Option XReg → A64State → Next Done → ANext
next_of result s (Goes d) = nexts.State (next_state result d s)
next_of result s (Stops end) = nexts.End end

-- the answer of a row that makes these items and this fence and goes on
abbrev pub row_done : RowItems → FenceChoice → Option XReg → Done → A64State → ARow
row_done made fence result d s = rows.Done made fence (nexts.State (next_state result d s))

-- an answer of a row's tree as `row` gives it
abbrev pub told : Option XReg → A64State → Answer Done → ARow
told result s (NeedsRead w) = rows.WantsRead w
told result s NeedsInput = rows.WantsInput
told result s (Makes made next) = rows.Done (row_items made) (fence_choice made) (next_of result s next)

-- what `row` answers for a tree, on given values
abbrev pub shown : Option XReg → A64State → Tree (Next Done) → (read input : Option ℕ) → ARow
shown result s t read input = told result s (answered t read input [])

-- what `row` answers for a word in a state, with these permissions and given values
abbrev pub row_answer : A64 XReg → A64State → Permission → (read input : Option ℕ) → ARow
row_answer w s may read input = shown (a64_result xregs w) s (a64_row xregs may s.at w (value xregs (held s)) (held s).nzcv) read input
