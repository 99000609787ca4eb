-- What may come after what is said so far.
use Rattle.std.proofs.Common.{◌≡◌, ℕ, ◌+◌, ◌<◌, List, [], ◌∷◌, ◌++◌, length, Err, refl, subst, arith}
use Rattle.ev_graph.specs.declared.events.EventId.{EventId}
use Rattle.ev_graph.specs.declared.execution.Source.{Source}
use Rattle.ev_graph.specs.declared.execution.Stack.{Stack}
use Rattle.exec_text.specs.declared.exec_file.Given.{Given}
use Rattle.exec_text.specs.declared.exec_file.Given.TheVariants as given
use Rattle.exec_text.specs.declared.exec_file.GivenThread.{GivenThread}
use Rattle.exec_text.specs.declared.fault.LineFault.{LineFault}
use Rattle.exec_text.specs.declared.fault.LineFault.TheVariants.{Kind, NoMemory}
use Rattle.exec_text.specs.declared.fault.TextKind.TheVariants.{Shape, Number}
use Rattle.exec_text.specs.declared.lines.Word.{Word}
use Rattle.exec_text.specs.declared.lines.Word.TheVariants as word
use Rattle.exec_text.specs.declared.stage.Stage.{Stage}
use Rattle.exec_text.specs.declared.stage.Stage.TheVariants.{Stacks, Threads, Ordered}
use Rattle.exec_text.specs.Events.{IsEvent, IsSources, AreSmallSources, IsSmallOrder}
use Rattle.std.specs.List.{AllZip}
use Rattle.std.proofs.lemmas.List.Sums.{sum_by_push}
use Rattle.exec_text.specs.Numbers.{IsHex}
use Rattle.exec_text.specs.Reading.{Reads}
use Rattle.exec_text.specs.Lines.{IsGiven, IsSmallGiven, IsWithin, GivesValue, Rule, with_value, IsThread, counts}
use Rattle.exec_text.proofs.EventLemmas.{recursion-front}

-- a value that is not read is a line that is not read
pub value_fault : (stacks : List Stack) (done : List GivenThread) (t : GivenThread) (w : Word) (fields : List (List ℕ)) (fault : LineFault) → GivesValue w
    → Reads {A = Given} (IsGiven w fields) IsSmallGiven (Err fault) → Reads {A = Stage} (Rule (Threads stacks done t) w fields) IsWithin (Err fault)
value_fault stacks done t word.Read fields (Kind Shape) gives read = λ next rule. read rule.0 rule.1
value_fault stacks done t word.Read fields (Kind Number) gives read =
    (Threads stacks done (with_value t read.0), (read.0, read.1, refl), λ within. read.2 (recursion-front IsSmallGiven t.values read.0 within.2).1)
value_fault stacks done t word.Read fields NoMemory gives read = tt
value_fault stacks done t word.Input fields (Kind Shape) gives read = λ next rule. read rule.0 rule.1
value_fault stacks done t word.Input fields (Kind Number) gives read =
    (Threads stacks done (with_value t read.0), (read.0, read.1, refl), λ within. read.2 (recursion-front IsSmallGiven t.values read.0 within.2).1)
value_fault stacks done t word.Input fields NoMemory gives read = tt
value_fault stacks done t _ fields fault gives read = absurd gives

no_read : (fields : List (List ℕ)) (number list : List ℕ) → fields ≡ number ∷ list ∷ [] → ((sources : List Source) → IsSources list sources → ⊥) → (v : Given) → IsGiven word.Read fields v → ⊥
no_read fields number list is none (given.Read value sources) says =
    let same : says.list ≡ list = cc (is, says.fields_are) in
    let At : List ℕ → Type 0 = λ text. IsSources text sources in
    none sources (subst At same says.is_list)
no_read fields number list is none (given.Input value) says = says

-- sources that are not read are a read that is not read
pub read_fault : (fields : List (List ℕ)) (number list : List ℕ) (value : ℕ) (fault : LineFault) → fields ≡ number ∷ list ∷ [] → IsHex number value
    → Reads {A = List Source} (IsSources list) AreSmallSources (Err fault) → Reads {A = Given} (IsGiven word.Read fields) IsSmallGiven (Err fault)
read_fault fields number list value (Kind Shape) is hex read = no_read fields number list is read
read_fault fields number list value (Kind Number) is hex read =
    (given.Read value read.0, record { number = number; list = list; fields_are = is; is_value = hex; is_list = read.1 }, read.2)
read_fault fields number list value NoMemory is hex read = tt

-- an order that is not read is a line that is not read
pub order_fault : (stacks : List Stack) (done : List GivenThread) (t : GivenThread) (fields : List (List ℕ)) (fault : LineFault) → length done + 1 ≡ length stacks
    → Reads {A = List EventId} (AllZip IsEvent fields) IsSmallOrder (Err fault) → Reads {A = Stage} (Rule (Threads stacks done t) word.Order fields) IsWithin (Err fault)
order_fault stacks done t fields (Kind Shape) last read = λ next rule. read rule.1 rule.2
order_fault stacks done t fields (Kind Number) last read =
    (Ordered (record { stacks = stacks; threads = done ++ t ∷ []; co = read.0 }), (last, read.0, read.1, refl), λ within. read.2 within.2)
order_fault stacks done t fields NoMemory last read = tt

-- the counts are beyond the limit with the first thread's
pub first_beyond : (stacks : List Stack) (fields : List (List ℕ)) (t : GivenThread) → 0 < length stacks → IsThread 0 fields t → 4096 < t.count
    → Reads {A = Stage} (Rule (Stacks stacks) word.Thread fields) IsWithin (Err (Kind Number))
first_beyond stacks fields t some is beyond = (Threads stacks [] t, (some, t, is, refl), λ within. omega (arith, within.0, beyond))

-- or with the next thread's
pub next_beyond : (stacks : List Stack) (done : List GivenThread) (t : GivenThread) (fields : List (List ℕ)) (u : GivenThread) → length done + 1 < length stacks
    → IsThread (length done + 1) fields u → 4096 < counts done + t.count + u.count → Reads {A = Stage} (Rule (Threads stacks done t) word.Thread fields) IsWithin (Err (Kind Number))
next_beyond stacks done t fields u more is beyond =
    (Threads stacks (done ++ t ∷ []) u, (more, u, is, refl), λ within. omega (arith, within.0, beyond, sum_by_push (λ (v : GivenThread). v.count) done t))
