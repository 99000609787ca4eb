-- What rows are, said of whole runs of them.
use Rattle.std.specs.List.{AllByRecursion}
use Rattle.ev_graph.specs.WellFormed.{is_write}
use Rattle.std.specs.Prelude.{◌&&◌, ◌^◌, ◌<◌, true, false, ◌≡◌, ◌↔◌, ℕ, Bool, List, [], ◌∷◌, ◌++◌, map, Option, Some, None, IfSome, if◌then◌else◌, Contains}
use Rattle.ev_graph.specs.declared.events.Access.{Access}
use Rattle.ev_graph.specs.declared.events.AccessKind.TheVariants as kinds
use Rattle.ev_graph.specs.declared.events.FenceKind.TheVariants.{Mfence}
use Rattle.ev_graph.specs.declared.events.Item.{Item}
use Rattle.ev_graph.specs.declared.events.Item.TheVariants as items
use Rattle.ev_graph.specs.declared.rows.RowItems.{RowItems}
use Rattle.ev_graph.specs.declared.rows.Wanted.{Wanted}
use Rattle.behavior.specs.Tree.{Path, Point, At, Next, Goes}
use Rattle.behavior.specs.Acts.{Permission}
use Rattle.behavior.specs.Explained.{IsOpen}
use Rattle.x64_syntax.specs.Formed.{IsFormed}
use Rattle.x64_syntax.specs.Slots.{slots}
use Rattle.x64_syntax.specs.declared.instr.Instr.{Instr}
use Rattle.x64_syntax.specs.declared.instr_slots.InstrSlot.{InstrSlot}
use Rattle.x64_syntax.specs.declared.placed.Flow.{Flow}
use Rattle.x64_syntax.specs.declared.slots.SlotKind.{SlotKind}
use Rattle.x64_table.specs.Answers.{Done, WantsRead, WantsInput, Given, answer, no_items, with_items}
use Rattle.x64_table.specs.Rows.{Exit, Row, row_of}
use Rattle.x64_table.specs.Slots.{slots_made}
use Rattle.x64_table.specs.State.{Thread}

-- a law of each row of a formed instruction, of which `Law` says what it is
abbrev pub OfEachRow : ((place : ℕ) → Instr → Flow → Row → Type 0) → Type 0
OfEachRow Law = (may : Permission) (instr : Instr) (length : ℕ) (f : Flow) (s : Thread) → IsFormed instr → Law s.at instr f (row_of may instr length f s)

-- the kinds of an instruction's accesses
abbrev pub slot_kinds : Instr → Flow → List SlotKind
slot_kinds instr f = map (λ (slot : InstrSlot). slot.kind) (slots instr f)

-- What a row does is decided by the values that it reads and takes in.
abbrev pub RowsAreOpen : Type 0
RowsAreOpen = (may : Permission) (instr : Instr) (length : ℕ) (f : Flow) (s : Thread) → IsOpen (row_of may instr length f s)

-- Each time that a row goes on, it has made exactly the accesses that its instruction's slots list.
abbrev pub RowsMakeSlots : Type 0
RowsMakeSlots = OfEachRow (λ place instr f row. (made : List Item) (exit : Exit) (n : ℕ) → Path row made (At (Goes exit)) n → slots_made made ≡ slot_kinds instr f)

-- An item of a row at a place is one that the permission allows, and its value fits: a read where reading is allowed, a write
-- where writing is, and each of a locked pair where both are.
abbrev pub IsAllowed : Permission → (place : ℕ) → Item → Type 0
IsAllowed may place (items.Access a) =
    (a.place ≡ place) × (a.value < 256 ^ a.size) × (may (is_write a.kind) a.address a.size ≡ true) × (a.locked ≡ true → (may false a.address a.size && may true a.address a.size) ≡ true)
IsAllowed may place (items.Fence f) = f ≡ record { kind = Mfence; place = place }
IsAllowed may place (items.Input t) = (t.place ≡ place) × (t.value < 2 ^ 64)
IsAllowed may place (items.Output t) = t.place ≡ place

-- Each item of each run of a row, maybe cut, is one that is allowed.
abbrev pub RowsAreAllowed : Type 0
RowsAreAllowed = (may : Permission) (instr : Instr) (length : ℕ) (f : Flow) (s : Thread) → IsFormed instr
    → (made : List Item) (p : Point (Next Exit)) (n : ℕ) → Path (row_of may instr length f s) made p n → AllByRecursion (IsAllowed may s.at) made

-- the values of a row's read and input are those that are given
pub record HasGiven (given : Given) (made : RowItems) : Type 0 where
  pub read : IfSome made.read (λ a. given.read ≡ Some a.value)
  pub input : IfSome made.input (λ v. given.input ≡ Some v)

-- Each run of a row to its end is what the interpreter answers on the run's values.
abbrev pub RowsRun : Type 0
RowsRun = OfEachRow (λ place instr f row. (given : Given) (made : List Item) (next : Next Exit) (n : ℕ) → Path row made (At next) n
    → HasGiven given (with_items no_items made) → answer given no_items row ≡ Done (with_items no_items made) next)

-- an item, where there is one
abbrev pub access_item : Option Access → List Item
access_item None = []
access_item (Some a) = items.Access a ∷ []

abbrev pub input_item : (place : ℕ) → Option ℕ → List Item
input_item place None = []
input_item place (Some v) = items.Input (record { value = v; place = place }) ∷ []

abbrev pub output_item : (place : ℕ) → Option ℕ → List Item
output_item place None = []
output_item place (Some v) = items.Output (record { value = v; place = place }) ∷ []

abbrev pub fence_item : (place : ℕ) → Bool → List Item
fence_item place here = if here then items.Fence (record { kind = Mfence; place = place }) ∷ [] else []

-- what a row passes in or out
abbrev pub transfers : (place : ℕ) → RowItems → List Item
transfers place made = input_item place made.input ++ output_item place made.output

-- where a row writes, its transfer comes last, and else first
abbrev pub ordered : (place : ℕ) → RowItems → Option Access → List Item
ordered place made None = transfers place made ++ access_item made.read
ordered place made (Some a) = access_item made.read ++ (items.Access a ∷ transfers place made)

-- A row's items in their order: the read before the write, a transfer after the write of a listed call and before the read
-- of a listed jump.
abbrev pub listed : (place : ℕ) → RowItems → List Item
listed place made = fence_item place made.fence ++ ordered place made made.write

-- What the interpreter answers as done is a run of the row to its end, with these items in their order.
abbrev pub RowsRunOnly : Type 0
RowsRunOnly = OfEachRow (λ place instr f row. (given : Given) (made : RowItems) (next : Next Exit) → answer given no_items row ≡ Done made next
    → Path row (listed place made) (At next) 0)

-- some run of the row, maybe cut, makes this item
abbrev pub Makes : Row → Item → Type 0
Makes row item = (made : List Item) × (p : Point (Next Exit)) × (n : ℕ) × Path row made p n × Contains made item

-- some run of the row makes a read of this address and size, locked or not
abbrev pub MakesRead : Row → Wanted → Type 0
MakesRead row w = (a : Access) × (a.kind ≡ kinds.Read) × (a.address ≡ w.address) × (a.size ≡ w.size) × (a.locked ≡ w.locked) × Makes row (items.Access a)

-- some run of the row takes an input
abbrev pub TakesAnInput : Row → Type 0
TakesAnInput row = (value place : ℕ) × Makes row (items.Input (record { value = value; place = place }))

-- A read is wanted exactly where none is given and the row makes it; runs make only reads that are allowed. An input is wanted
-- exactly where none is given, the row takes one, and no read is wanted.
pub record WantsExactly (row : Row) (given : Given) : Type 0 where
  pub read : (w : Wanted) → (answer given no_items row ≡ WantsRead w) ↔ ((given.read ≡ None) × MakesRead row w)
  pub input : (answer given no_items row ≡ WantsInput) ↔ ((given.input ≡ None) × TakesAnInput row × ((w : Wanted) → answer given no_items row ≡ WantsRead w → ⊥))

abbrev pub RowsWant : Type 0
RowsWant = OfEachRow (λ place instr f row. (given : Given) → WantsExactly row given)
