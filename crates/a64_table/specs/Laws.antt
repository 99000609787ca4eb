-- What `row` answers for a word, and the paths through the word's tree, tell the same.
use Rattle.std.specs.Prelude.{◌≡◌, ℕ, ◌<◌, ◌^◌, List, [], ◌∷◌, Option, Some, None}
use Rattle.ev_graph.specs.declared.events.Item.{Item}
use Rattle.ev_graph.specs.declared.events.Item.TheVariants as items
use Rattle.ev_graph.specs.declared.events.AccessKind.{AccessKind}
use Rattle.ev_graph.specs.declared.events.AccessKind.TheVariants.{Read, Write}
use Rattle.ev_graph.specs.declared.rows.Wanted.{Wanted}
use Rattle.behavior.specs.Tree.{Tree, At, Path, Next}
use Rattle.behavior.specs.Acts.{Permission}
use Rattle.behavior.specs.Explained.{IsOpen}
use Rattle.a64_code.specs.declared.instr.XReg.{XReg}
use Rattle.a64_code.specs.declared.instr.A64.{A64}
use Rattle.a64_code.specs.declared.instr.A64.TheVariants.{Ldr, Cas, Swp, Ldadd, Ldclr, Ldeor, Ldset}
use Rattle.a64_table.specs.declared.state.A64State.{A64State}
use Rattle.a64_table.specs.declared.state.Done.{Done}
use Rattle.a64_table.specs.State.{xregs, value, held}
use Rattle.a64_table.specs.Rows.{a64_row}
use Rattle.a64_table.specs.Answers.{ValueRead, ValueIn, need_of, NeedsRead, NeedsInput, Makes, answered}

-- how many bytes a word reads; 8 where it reads none
abbrev pub read_size : A64 XReg → ℕ
read_size (Ldr size t n number) = size
read_size (Cas size s t n) = size
read_size (Swp size s t n) = size
read_size (Ldadd size s t n) = size
read_size (Ldclr size s t n) = size
read_size (Ldeor size s t n) = size
read_size (Ldset size s t n) = size
read_size w = 8

-- a value that was given fits so many bytes
abbrev pub FitsIn : ℕ → Option ℕ → Type 0
FitsIn size None = Unit {0}
FitsIn size (Some v) = v < 256 ^ size

-- an access's value where it reads, and else another one
abbrev pub read_by : AccessKind → ℕ → Option ℕ → Option ℕ
read_by Read v else_value = Some v
read_by Write v else_value = else_value

-- the value of the first read among items
abbrev pub value_read : List Item → Option ℕ
value_read [] = None
value_read (items.Access a ∷ is) = read_by a.kind a.value (value_read is)
value_read (items.Fence f ∷ is) = value_read is
value_read (items.Input t ∷ is) = value_read is
value_read (items.Output t ∷ is) = value_read is

-- the value of the first input among items
abbrev pub value_in : List Item → Option ℕ
value_in [] = None
value_in (items.Access a ∷ is) = value_in is
value_in (items.Fence f ∷ is) = value_in is
value_in (items.Input t ∷ is) = Some t.value
value_in (items.Output t ∷ is) = value_in is

-- A tree's answers and its paths tell the same. What is answered to values that fit is made on a path to that result; each
-- such path is answered on the values that it reads and takes in; a value is wanted where none was given and each such path
-- begins by it.
pub record AnswersPaths (t : Tree (Next Done)) (size : ℕ) : Type 0 where
  pub made : (read input : Option ℕ) → FitsIn size read → FitsIn 8 input → (is : List Item) (next : Next Done)
      → answered t read input [] ≡ Makes is next → Path t is (At next) 0
  pub told : (is : List Item) (next : Next Done) (n : ℕ) → Path t is (At next) n → answered t (value_read is) (value_in is) [] ≡ Makes is next
  pub wants_read : (read input : Option ℕ) (wanted : Wanted) → answered t read input [] ≡ NeedsRead wanted
      → (read ≡ None) × ((is : List Item) (next : Next Done) (n : ℕ) → Path t is (At next) n → need_of is ≡ ValueRead wanted)
  pub wants_input : (read input : Option ℕ) → answered t read input [] ≡ NeedsInput
      → (input ≡ None) × ((is : List Item) (next : Next Done) (n : ℕ) → Path t is (At next) n → need_of is ≡ ValueIn)

-- the tree of a word in a state
abbrev pub row_tree : A64 XReg → A64State → Permission → Tree (Next Done)
row_tree w s may = a64_row xregs may s.at w (value xregs (held s)) (held s).nzcv

-- of each word, in each state and with any permissions
abbrev pub RowsArePaths : Type 0
RowsArePaths = (w : A64 XReg) (s : A64State) (may : Permission) → AnswersPaths (row_tree w s may) (read_size w)

-- each value that a word takes from outside shows in its items
abbrev pub RowsAreOpen : Type 0
RowsAreOpen = (w : A64 XReg) (s : A64State) (may : Permission) → IsOpen (row_tree w s may)
