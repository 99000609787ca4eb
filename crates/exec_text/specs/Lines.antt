-- The lines of an execution's text: how each is written, and where it may come.
--
--     lasagne-exec 1
--     stack T LO HI          for each thread T from 0 on, 1 to 16 of them
--     thread T COUNT END     for each thread, and then its values:
--     r VALUE SOURCES
--     i VALUE
--     co EVENT EVENT ..      any number of events
--     end
--
-- A line's fields are the parts round its blanks.
use Rattle.std.specs.Prelude.{◌≡◌, ◌≢◌, ℕ, ◌+◌, ◌≤◌, ◌<◌, List, [], ◌∷◌, ◌++◌, length, sum_by, codes}
use Rattle.std.specs.List.{AllZip, AllByRecursion}
use Rattle.ev_graph.specs.declared.events.EventId.{EventId}
use Rattle.ev_graph.specs.declared.events.End.{End}
use Rattle.ev_graph.specs.declared.events.End.TheVariants.{Running, Halted, Trap}
use Rattle.ev_graph.specs.declared.events.TrapKind.TheVariants.{BadAccess, Divide, Invalid, BadReturn, BadJump}
use Rattle.ev_graph.specs.declared.execution.Source.{Source}
use Rattle.ev_graph.specs.declared.execution.Stack.{Stack}
use Rattle.exec_text.specs.declared.exec_file.ExecFile.{ExecFile}
use Rattle.exec_text.specs.declared.exec_file.Given.{Given}
use Rattle.exec_text.specs.declared.exec_file.Given.TheVariants as given
use Rattle.exec_text.specs.declared.exec_file.GivenThread.{GivenThread}
use Rattle.exec_text.specs.declared.lines.Word.{Word}
use Rattle.exec_text.specs.declared.lines.Word.TheVariants as word
use Rattle.exec_text.specs.declared.stage.Stage.{Stage}
use Rattle.exec_text.specs.declared.stage.Stage.TheVariants.{Begun, Stacks, Threads, Ordered, Ended}
use Rattle.exec_text.specs.Parts.{parts_at}
use Rattle.exec_text.specs.Numbers.{IsDecimal, IsHex}
use Rattle.exec_text.specs.Events.{IsEvent, IsSources, AreSmallSources, IsSmallOrder}

-- the first field of a line
abbrev pub spelled : Word → List ℕ
spelled word.Title = codes "lasagne-exec"
spelled word.Stack = codes "stack"
spelled word.Thread = codes "thread"
spelled word.Read = codes "r"
spelled word.Input = codes "i"
spelled word.Order = codes "co"
spelled word.End = codes "end"

-- how a thread's end is written; a jump to where no code is has no word
abbrev pub end_word : End → List ℕ
end_word Running = codes "running"
end_word Halted = codes "halted"
end_word (Trap BadAccess) = codes "badaccess"
end_word (Trap Divide) = codes "divide"
end_word (Trap Invalid) = codes "invalid"
end_word (Trap BadReturn) = codes "badreturn"
end_word (Trap BadJump) = []

-- the text is the word of this end
abbrev pub IsEndWord : List ℕ → End → Type 0
IsEndWord text end = (text ≡ end_word end) × (end ≢ Trap BadJump)

-- the fields T LO HI of a stack
pub record IsStack (number : ℕ) (fields : List (List ℕ)) (s : Stack) : Type 0 where
  pub thread : List ℕ
  pub lo : List ℕ
  pub hi : List ℕ
  pub fields_are : fields ≡ thread ∷ lo ∷ hi ∷ []
  pub is_thread : IsDecimal thread number
  pub is_lo : IsHex lo s.lo
  pub is_hi : IsHex hi s.hi

-- the fields T COUNT END of a thread, whose values are still to come
pub record IsThread (number : ℕ) (fields : List (List ℕ)) (t : GivenThread) : Type 0 where
  pub thread : List ℕ
  pub count : List ℕ
  pub end : List ℕ
  pub fields_are : fields ≡ thread ∷ count ∷ end ∷ []
  pub is_thread : IsDecimal thread number
  pub is_count : IsDecimal count t.count
  pub is_end : IsEndWord end t.end
  pub no_values : t.values ≡ []

-- the fields VALUE SOURCES of a read
pub record IsRead (fields : List (List ℕ)) (value : ℕ) (sources : List Source) : Type 0 where
  pub number : List ℕ
  pub list : List ℕ
  pub fields_are : fields ≡ number ∷ list ∷ []
  pub is_value : IsHex number value
  pub is_list : IsSources list sources

-- the field VALUE of an input
pub record IsInput (fields : List (List ℕ)) (value : ℕ) : Type 0 where
  pub number : List ℕ
  pub fields_are : fields ≡ number ∷ []
  pub is_value : IsHex number value

-- the fields of a value
abbrev pub IsGiven : Word → List (List ℕ) → Given → Type 0
IsGiven word.Read fields (given.Read value sources) = IsRead fields value sources
IsGiven word.Input fields (given.Input value) = IsInput fields value
IsGiven _ fields _ = ⊥

-- a line of this word gives a value
abbrev pub GivesValue : Word → Type 0
GivesValue word.Read = Unit {0}
GivesValue word.Input = Unit {0}
GivesValue _ = ⊥

-- the thread with one value more
abbrev pub with_value : GivenThread → Given → GivenThread
with_value t v = record t { values = t.values ++ v ∷ [] }

-- After what is said so far, a line of this word with these fields may come, and says so much more:
abbrev pub Rule : Stage → Word → List (List ℕ) → Stage → Type 0
-- the title, first
Rule Begun word.Title fields next = (fields ≡ codes "1" ∷ []) × (next ≡ Stacks [])
-- the stack of the next thread, at most 16 in all
Rule (Stacks stacks) word.Stack fields next =
    (length stacks < 16) × (s : Stack) × IsStack (length stacks) fields s × (next ≡ Stacks (stacks ++ s ∷ []))
-- the first thread, behind all the stacks
Rule (Stacks stacks) word.Thread fields next =
    (0 < length stacks) × (t : GivenThread) × IsThread 0 fields t × (next ≡ Threads stacks [] t)
-- the next thread
Rule (Threads stacks done t) word.Thread fields next =
    (length done + 1 < length stacks) × (u : GivenThread) × IsThread (length done + 1) fields u × (next ≡ Threads stacks (done ++ t ∷ []) u)
-- the next value of this thread
Rule (Threads stacks done t) word.Read fields next =
    (v : Given) × IsGiven word.Read fields v × (next ≡ Threads stacks done (with_value t v))
Rule (Threads stacks done t) word.Input fields next =
    (v : Given) × IsGiven word.Input fields v × (next ≡ Threads stacks done (with_value t v))
-- the order of writes, behind as many threads as stacks
Rule (Threads stacks done t) word.Order fields next =
    (length done + 1 ≡ length stacks) × (events : List EventId) × AllZip IsEvent fields events
    × (next ≡ Ordered (record { stacks = stacks; threads = done ++ t ∷ []; co = events }))
-- the end, last
Rule (Ordered file) word.End fields next = (fields ≡ []) × (next ≡ Ended file)
Rule _ _ _ _ = ⊥

-- this line may come, and what is said then
abbrev pub Next : Stage → List ℕ → Stage → Type 0
Next stage line next = (w : Word) × (fields : List (List ℕ)) × (parts_at 32 line ≡ spelled w ∷ fields) × Rule stage w fields next

-- the limits of a value
abbrev pub IsSmallGiven : Given → Type 0
IsSmallGiven (given.Read value sources) = AreSmallSources sources
IsSmallGiven (given.Input value) = Unit {0}

-- the limits of a thread's values
abbrev pub HasSmallValues : GivenThread → Type 0
HasSmallValues t = AllByRecursion IsSmallGiven t.values

-- the counts of threads, together
abbrev pub counts : List GivenThread → ℕ
counts threads = sum_by (λ t. t.count) threads

-- what a whole text says is within the limits
abbrev pub IsSmallFile : ExecFile → Type 0
IsSmallFile file = (counts file.threads ≤ 4096) × AllByRecursion HasSmallValues file.threads × IsSmallOrder file.co

-- what is said so far is within the limits
abbrev pub IsWithin : Stage → Type 0
IsWithin Begun = Unit {0}
IsWithin (Stacks stacks) = Unit {0}
IsWithin (Threads stacks done t) = (counts done + t.count ≤ 4096) × AllByRecursion HasSmallValues done × HasSmallValues t
IsWithin (Ordered file) = IsSmallFile file
IsWithin (Ended file) = IsSmallFile file
