-- Where the walk of a thread stands.
use Rattle.std.specs.Prelude.{◌≡◌, ◌≢◌, ◌⊎◌, Bool, true, false, ℕ, ◌+◌, ◌<◌, ◌≤◌, ◌^◌, List, [], ◌∷◌, ◌++◌, drop, length, Option, Some, None, IfSome, IsSomeAnd, Result, Ok, Err}
use Rattle.ev_graph.specs.declared.events.Access.{Access}
use Rattle.ev_graph.specs.declared.events.End.{End}
use Rattle.ev_graph.specs.declared.events.End.TheVariants.{Running}
use Rattle.ev_graph.specs.declared.events.Item.{Item}
use Rattle.ev_graph.specs.declared.events.Item.TheVariants as items
use Rattle.ev_graph.specs.declared.execution.ThreadRun.{ThreadRun}
use Rattle.ev_graph.specs.declared.rows.RowItems.{RowItems}
use Rattle.ev_graph.specs.Events.{accesses}
use Rattle.behavior.specs.Tree.{Tree, Gives, Next, Stops}
use Rattle.behavior.specs.Rest.{ComesTo}
use Rattle.behavior.specs.Seen.{counted}
use Rattle.behavior.specs.Numbered.{numbered}
use Rattle.a64_table.specs.declared.rows.FenceChoice.{FenceChoice}
use Rattle.a64_table.specs.declared.rows.FenceChoice.TheVariants as choices
use Rattle.a64_table.specs.Machine.{AThread, Shows}
use Rattle.exec_text.specs.declared.exec_file.Given.{Given}
use Rattle.exec_text.specs.declared.exec_file.Given.TheVariants as given
use Rattle.exec_text.specs.declared.exec_file.GivenThread.{GivenThread}
use Rattle.arm_replay.specs.declared.fault.ReplayFault.{ReplayFault}
use Rattle.arm_replay.specs.declared.fault.ReplayFault.TheVariants.{LayoutThreads, Layout, Run, NoMemory}
use Rattle.arm_replay.specs.declared.fault.ReplayKind.{ReplayKind}
use Rattle.arm_replay.specs.declared.fault.ReplayKind.TheVariants.{Values, Sources, Wide, Early, Split, Left, More, End as OtherEnd, Steps}
use Rattle.arm_replay.specs.declared.made.Made.{Made}
use Rattle.arm_replay.specs.declared.walk.Walk.{Walk}
use Rattle.arm_replay.specs.Values.{HasSources, Takes}
use Rattle.arm_replay.specs.Faults.{GoesOn, most_steps, IsThreadFault, EndsAtOnce}

-- ---- what a row makes, as items

abbrev pub option_item : {A : Type 0} → (A → Item) → Option A → List Item
option_item f None = []
option_item f (Some a) = f a ∷ []

abbrev pub fence_item : (place : ℕ) → FenceChoice → List Item
fence_item place choices.None = []
fence_item place (choices.Dmb kind) = items.Fence (record { kind = kind; place = place }) ∷ []

-- the items of a row at a place, of which the read stands before the write
abbrev pub listed : (place : ℕ) → RowItems → FenceChoice → List Item
listed place made fence =
    fence_item place fence
    ++ (option_item (λ v. items.Input (record { value = v; place = place })) made.input
    ++ (option_item (λ v. items.Output (record { value = v; place = place })) made.output
    ++ (option_item items.Access made.read ++ option_item items.Access made.write)))

abbrev pub one : {A : Type 0} → Option A → ℕ
one None = 0
one (Some a) = 1

-- how many accesses, inputs and outputs a row makes
abbrev pub count_in : RowItems → ℕ
count_in made = one made.input + one made.output + one made.read + one made.write

-- ---- what a value gives to a row

-- the value of a read's line, and of an input's
abbrev pub read_value : Option Given → Option ℕ
read_value None = None
read_value (Some (given.Read value sources)) = Some value
read_value (Some (given.Input value)) = None

abbrev pub input_value : Option Given → Option ℕ
input_value None = None
input_value (Some (given.Read value sources)) = None
input_value (Some (given.Input value)) = Some value

-- the line is of a read, with sources for so many bytes
abbrev pub LineHasSources : (size : ℕ) → Option Given → Type 0
LineHasSources size None = ⊥
LineHasSources size (Some (given.Read value sources)) = HasSources size sources
LineHasSources size (Some (given.Input value)) = ⊥

-- the read that a row has made, if it has made one, has sources in this line, and its value fits
abbrev pub ReadFits : Option Given → RowItems → Type 0
ReadFits line made = IfSome made.read (λ (a : Access). LineHasSources a.size line × (a.value < 256 ^ a.size))

-- What is wrong with the read that a row has made on this line.
abbrev pub IsMisread : Option Given → RowItems → ReplayKind → Type 0
IsMisread line made Sources = IsSomeAnd made.read (λ (a : Access). LineHasSources a.size line → ⊥)
IsMisread line made Wide = IsSomeAnd made.read (λ (a : Access). LineHasSources a.size line × (256 ^ a.size ≤ a.value))
IsMisread line made _ = ⊥

-- Of a thread that has made `have` of `count` accesses, inputs and outputs, a row that has made this on a line has this fault.
abbrev pub IsMisfit : (have count : ℕ) → Option Given → RowItems → ReplayKind → Type 0
IsMisfit have count line made More = (have ≡ count) × (0 < count_in made)
IsMisfit have count line made Split = (have < count) × ReadFits line made × (count < have + count_in made)
IsMisfit have count line made kind = (have < count) × IsMisread line made kind

-- the row has none of these faults
abbrev pub IsFitting : (have count : ℕ) → Option Given → RowItems → Type 0
IsFitting have count line made = (count_in made ≡ 0) ⊎ ((have + count_in made ≤ count) × ReadFits line made)

-- the item at which a fault is told
abbrev pub told_at : (have count : ℕ) → ReplayKind → ℕ
told_at have count Split = count
told_at have count kind = have

-- ---- where a walk stands

-- the counts of a walk are within what a thread is given
pub record IsWithin (thread : GivenThread) (walk : Walk) : Type 0 where
  pub made : walk.made.count ≤ thread.count
  pub taken : walk.taken ≤ length thread.values
  pub begun : walk.begun ≤ most_steps
  pub accesses : walk.made.accesses ≤ walk.made.count

-- these are the items of thread number k, which are kept with their names
pub record Keeps (k : ℕ) (is : List Item) (made : Made) : Type 0 where
  pub items : made.items.items ≡ numbered k is
  pub many : made.count ≡ counted is
  pub index : made.accesses ≡ length (accesses is)

-- the walk of thread k has come to where this tree stands next
pub record Reaches (step : AThread → Tree (Next AThread)) (start : AThread) (k : ℕ) (thread : GivenThread) (walk : Walk) (next : Tree (Next AThread)) : Type 0 where
  pub made : List Item
  pub keeps : Keeps k made walk.made
  pub comes : ComesTo step start made walk.begun next
  pub takes : Takes made thread.values (drop walk.taken thread.values)
  pub at_once : thread.end ≡ Running → walk.made.count ≡ thread.count → EndsAtOnce made

-- the walk stands between two words
pub record Stands (step : AThread → Tree (Next AThread)) (start : AThread) (k : ℕ) (thread : GivenThread) (walk : Walk) : Type 0 where
  pub state : AThread
  pub shows : Shows walk.state state
  pub reaches : Reaches step start k thread walk (step state)

-- why a thread's walk stops
abbrev pub IsWalkFault : (step : AThread → Tree (Next AThread)) → AThread → (k : ℕ) → GivenThread → ReplayFault → Type 0
IsWalkFault step start k thread (Run place) = (place.thread ≡ k) × IsThreadFault step start thread place.item place.kind
IsWalkFault step start k thread NoMemory = Unit {0}
IsWalkFault step start k thread LayoutThreads = ⊥
IsWalkFault step start k thread (Layout j) = ⊥

-- what one word more leads to: the walk stands behind it, or the thread's end stands next, or the thread has a fault
abbrev pub StepsTo : (step : AThread → Tree (Next AThread)) → AThread → (k : ℕ) → GivenThread → Walk → Result (Option End) ReplayFault → Type 0
StepsTo step start k thread walk (Ok None) = Stands step start k thread walk
StepsTo step start k thread walk (Ok (Some end)) =
    Reaches step start k thread walk (Gives (Stops end)) × GoesOn thread walk.made.count (drop walk.taken thread.values)
StepsTo step start k thread walk (Err fault) = IsWalkFault step start k thread fault

-- whether a thread that has made so much, with these values left, is cut; or the fault that values are left
abbrev pub IsCutHere : (k : ℕ) → GivenThread → (made : ℕ) → List Given → Result Bool ReplayFault → Type 0
IsCutHere k thread made left (Ok false) = GoesOn thread made left
IsCutHere k thread made left (Ok true) = (made ≡ thread.count) × (left ≡ []) × (thread.end ≡ Running)
IsCutHere k thread made left (Err fault) = (made ≡ thread.count) × (left ≢ []) × (fault ≡ Run (record { thread = k; item = made; kind = Left }))

-- the fault of a missing value: More where all is made, and else Values
abbrev pub IsMissingFault : (k have count : ℕ) → ReplayFault → Type 0
IsMissingFault k have count fault = (kind : ReplayKind)
    × (((have ≡ count) × (kind ≡ More)) ⊎ ((have ≢ count) × (kind ≡ Values))) × (fault ≡ Run (record { thread = k; item = have; kind = kind }))
