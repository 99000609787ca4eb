-- Where a thread leaves what it is given.
use Rattle.std.specs.Prelude.{◌≡◌, ◌≢◌, ◌⊎◌, ℕ, ◌+◌, ◌<◌, ◌≤◌, List, [], ◌∷◌}
use Rattle.ev_graph.specs.declared.events.End.TheVariants.{Running}
use Rattle.ev_graph.specs.declared.events.End.{End}
use Rattle.ev_graph.specs.declared.events.Item.{Item}
use Rattle.ev_graph.specs.declared.execution.Source.{Source}
use Rattle.ev_graph.specs.declared.execution.ThreadRun.{ThreadRun}
use Rattle.ev_graph.specs.declared.rows.Wanted.{Wanted}
use Rattle.behavior.specs.Tree.{Tree, Gives, Begins, Acts, Next, Stops}
use Rattle.behavior.specs.Run.{Run}
use Rattle.behavior.specs.Rest.{ComesTo}
use Rattle.behavior.specs.Seen.{counted}
use Rattle.behavior.specs.Numbered.{numbered}
use Rattle.a64_table.specs.Answers.{Need, ValueRead, ValueIn, NoValue, need_of}
use Rattle.exec_text.specs.declared.exec_file.Given.{Given}
use Rattle.exec_text.specs.declared.exec_file.Given.TheVariants as given
use Rattle.exec_text.specs.declared.exec_file.GivenThread.{GivenThread}
use Rattle.arm_replay.specs.declared.fault.ReplayKind.{ReplayKind}
use Rattle.arm_replay.specs.declared.fault.ReplayKind.TheVariants.{Values, Sources, Wide, Early, Split, Left, More, End as OtherEnd, Steps}
use Rattle.arm_replay.specs.Values.{HasSources, Takes}

-- how many instructions a thread may begin
abbrev pub most_steps : ℕ
most_steps = 1000000

-- a value comes from outside, and of those that are left the first is none or of the other sort
abbrev pub IsMissing : Need → List Given → Type 0
IsMissing (ValueRead wanted) [] = Unit {0}
IsMissing (ValueRead wanted) (given.Read value sources ∷ left) = ⊥
IsMissing (ValueRead wanted) (given.Input value ∷ left) = Unit {0}
IsMissing ValueIn [] = Unit {0}
IsMissing ValueIn (given.Read value sources ∷ left) = Unit {0}
IsMissing ValueIn (given.Input value ∷ left) = ⊥
IsMissing NoValue left = ⊥

-- The value with which an act is taken: a read's, which has sources, or an input's, the first of those that are left; 0 where
-- nothing comes from outside.
abbrev pub IsSupplied : Need → List Given → (value : ℕ) → Type 0
IsSupplied (ValueRead wanted) left value =
    (sources : List Source) × (rest : List Given) × (left ≡ given.Read value sources ∷ rest) × HasSources wanted.size sources
IsSupplied ValueIn left value = (rest : List Given) × (left ≡ given.Input value ∷ rest)
IsSupplied NoValue left value = value ≡ 0

-- A thread that has made so many accesses, inputs and outputs, and has these values left, is not cut here: it has fewer than
-- it is given, or as many, with no value left, and it is to come to an end.
abbrev pub GoesOn : GivenThread → (made : ℕ) → List Given → Type 0
GoesOn thread made left = (made < thread.count) ⊎ ((made ≡ thread.count) × (left ≡ []) × (thread.end ≢ Running))

-- it goes on although it has as many
abbrev pub IsPast : GivenThread → (made : ℕ) → List Given → Type 0
IsPast thread made left = (made ≡ thread.count) × (left ≡ []) × (thread.end ≢ Running)

-- A thread that has made so many accesses, inputs and outputs, begun so many instructions and has these values left, and
-- where this tree stands next, has this fault, told at this item.
pub data IsFaultAt {S : Type 0} (thread : GivenThread) (made begun : ℕ) (left : List Given) : Tree (Next S) → (item : ℕ) → ReplayKind → Type 0 where
  -- a read or input comes, and no value for it
  values : {range : ℕ} {make : ℕ → List Item} {next : ℕ → Tree (Next S)}
      → made < thread.count → IsMissing (need_of (make 0)) left → IsFaultAt thread made begun left (Acts range make next) made Values
  -- a read comes, and its value has neither one source nor one for each byte
  sources : {range : ℕ} {make : ℕ → List Item} {next : ℕ → Tree (Next S)} (wanted : Wanted) (value : ℕ) (list : List Source) (rest : List Given)
      → made < thread.count → need_of (make 0) ≡ ValueRead wanted → left ≡ given.Read value list ∷ rest → (HasSources wanted.size list → ⊥)
      → IsFaultAt thread made begun left (Acts range make next) made Sources
  -- a read comes, its value has its sources, and is too wide
  wide : {range : ℕ} {make : ℕ → List Item} {next : ℕ → Tree (Next S)} (value : ℕ)
      → made < thread.count → IsSupplied (need_of (make 0)) left value → range ≤ value → IsFaultAt thread made begun left (Acts range make next) made Wide
  -- the thread ends
  early : {end : End} → made < thread.count → IsFaultAt thread made begun left (Gives (Stops end)) made Early
  -- what comes is a locked read and its write, and the read is the last that is given
  split : {range : ℕ} {make : ℕ → List Item} {next : ℕ → Tree (Next S)} (value : ℕ)
      → made < thread.count → IsSupplied (need_of (make 0)) left value → value < range → thread.count < made + counted (make value)
      → IsFaultAt thread made begun left (Acts range make next) thread.count Split
  -- all is made that is given, and values are left
  left : {t : Tree (Next S)} → made ≡ thread.count → left ≢ [] → IsFaultAt thread made begun left t made Left
  -- the thread goes on, and would make another access, input or output
  more : {range : ℕ} {make : ℕ → List Item} {next : ℕ → Tree (Next S)}
      → IsPast thread made left → 0 < counted (make 0) → IsFaultAt thread made begun left (Acts range make next) made More
  -- the thread goes on, and has another end
  other_end : {end : End} → IsPast thread made left → end ≢ thread.end → IsFaultAt thread made begun left (Gives (Stops end)) made OtherEnd
  -- one instruction too many would be begun
  steps : {t : Tree (Next S)} → GoesOn thread made left → begun ≡ most_steps → IsFaultAt thread made begun left (Begins t) made Steps

-- The thread of this machine, from a state, comes on the values that it is given to a place where it has this fault.
pub record IsThreadFault {S : Type 0} (step : S → Tree (Next S)) (start : S) (thread : GivenThread) (item : ℕ) (kind : ReplayKind) : Type 0 where
  pub made : List Item
  pub begun : ℕ
  pub left : List Given
  pub next : Tree (Next S)
  pub comes : ComesTo step start made begun next
  pub takes : Takes made thread.values left
  pub few : begun ≤ most_steps
  pub fault : IsFaultAt thread (counted made) begun left next item kind

-- behind each of the items, or in its place, stands an access, an input or an output
abbrev pub EndsAtOnce : List Item → Type 0
EndsAtOnce [] = Unit {0}
EndsAtOnce (item ∷ is) = (0 < counted (item ∷ is)) × EndsAtOnce is

-- Thread number k of an execution is the run of this machine, from a state, on the values that the thread is given, all of which
-- it takes: with as many accesses, inputs and outputs, with this end, and its accesses named. A run that is cut is so as soon
-- as it has made as many.
pub record IsThreadReplay {S : Type 0} (step : S → Tree (Next S)) (start : S) (k : ℕ) (given : GivenThread) (thread : ThreadRun) : Type 0 where
  pub made : List Item
  pub begun : ℕ
  pub run : Run step start made thread.end begun
  pub items : thread.items ≡ numbered k made
  pub end : thread.end ≡ given.end
  pub takes : Takes made given.values []
  pub many : counted made ≡ given.count
  pub few : begun ≤ most_steps
  pub at_once : thread.end ≡ Running → EndsAtOnce made
