-- The last entry of co that covers an address, entry by entry.
use Rattle.std.proofs.Common.{◌≡◌, ◌<◌, ◌+◌, ◌-◌, ℕ, List, ◌⊎◌, inl, inr, length, Option, Some, None, IfSome, IfNone, IsSome, refl, subst, arith}
use Rattle.std.specs.List.{slice_get}
use Rattle.std.specs.Option.{option_or}
use Rattle.std.proofs.lemmas.Option.{slice_get_within}
use Rattle.ev_graph.specs.declared.events.EventId.{EventId}
use Rattle.ev_graph.specs.declared.execution.Execution.{Execution}
use Rattle.ev_graph.specs.declared.execution.ThreadRun.{ThreadRun}
use Rattle.ev_graph.specs.Memory.{Cell}
use Rattle.ev_graph.specs.Start.{start_at}
use Rattle.ev_graph.specs.WellFormed.{EachAccess, IsInMemory}
use Rattle.ev_graph.specs.FinalByte.{GivesByte, IsLastBefore, IsFinalByte}

-- an entry that gives no byte leaves the last as it is
pub last_same : (threads : List ThreadRun) (co : List EventId) (n m : ℕ) (w : EventId) (last : Option ℕ) → slice_get co m ≡ Some w
    → ((byte : ℕ) → GivesByte threads w n byte → ⊥) → IsLastBefore threads co n m last → IsLastBefore threads co n (m + 1) last
last_same threads co n m w (Some byte) here none (i, v, below, at, gives, rest) = (
  i,
  v,
  omega arith,
  at,
  gives,
  λ j u other after before there g.
      let cases : (j < m) ⊎ (j ≡ m) = grind arith in
      elim cases [ inl less ↦ rest j u other after less there g | inr same ↦ none other (let e : u ≡ w = (let moved : slice_get co m ≡ Some u = rw (← same) there in cc) in rw (← e) g) ],
)
last_same threads co n m w None here none last = λ j u byte before there g.
    let cases : (j < m) ⊎ (j ≡ m) = grind arith in
    elim cases [ inl less ↦ last j u byte less there g | inr same ↦ none byte (let e : u ≡ w = (let moved : slice_get co m ≡ Some u = rw (← same) there in cc) in rw (← e) g) ]

-- an entry that gives a byte is the last
pub last_more : (threads : List ThreadRun) (co : List EventId) (n m : ℕ) (w : EventId) (byte : ℕ) → slice_get co m ≡ Some w
    → GivesByte threads w n byte → IsLastBefore threads co n (m + 1) (Some byte)
last_more threads co n m w byte here gives = (m, w, omega arith, here, gives, λ j u other after before there g. omega arith)

-- one more entry
pub last_step : (threads : List ThreadRun) (co : List EventId) (n m : ℕ) (w : EventId) (given last : Option ℕ) → slice_get co m ≡ Some w
    → IfSome given (λ byte. GivesByte threads w n byte) → IfNone given ((byte : ℕ) → GivesByte threads w n byte → ⊥)
    → IsLastBefore threads co n m last → IsLastBefore threads co n (m + 1) (option_or given last)
last_step threads co n m w (Some byte) last here some none before = last_more threads co n m w byte here some
last_step threads co n m w None last here some none before = last_same threads co n m w last here none before

-- the last of all entries is the final byte
pub final_some : (cells : ℕ → Option Cell) (x : Execution) (n byte : ℕ) → IsLastBefore x.threads x.co n (length x.co) (Some byte) → IsFinalByte cells x n (Some byte)
final_some cells x n byte (i, w, below, at, gives, rest) = inl (
  byte,
  record {
    i = i;
    w = w;
    here = at;
    gives = gives;
    last = λ j v other after there g. rest j v other after (slice_get_within x.co j v there) there g;
  },
  refl,
)

pub final_none : (cells : ℕ → Option Cell) (x : Execution) (n : ℕ) (found : Option ℕ) → IsLastBefore x.threads x.co n (length x.co) None
    → found ≡ start_at cells x.stacks n → IsFinalByte cells x n found
final_none cells x n found last is = inr ((λ j v byte there g. last j v byte (slice_get_within x.co j v there) there g), is)

-- where the accesses lie in memory, what is written has a byte at the start
pub written_somewhere : (start : ℕ → Option ℕ) (threads : List ThreadRun) (w : EventId) (n byte : ℕ) → EachAccess (IsInMemory start) threads
    → GivesByte threads w n byte → start n ≡ None → ⊥
written_somewhere start threads w n byte inside (a, found, written) none =
    let covers = written.1 in
    let within = inside w.thread w.index a found (n - a.address) (omega arith) in
    let at : a.address + (n - a.address) ≡ n = omega arith in
    let here : IsSome (start n) = rw at at within in
    let nothing : IsSome {T = ℕ} None = rw none at here in
    cc

pub last_written : (start : ℕ → Option ℕ) (threads : List ThreadRun) (co : List EventId) (n m byte : ℕ) → EachAccess (IsInMemory start) threads
    → IsLastBefore threads co n m (Some byte) → start n ≡ None → ⊥
last_written start threads co n m byte inside (i, w, below, at, gives, rest) none = written_somewhere start threads w n byte inside gives none

-- the same lists, the same last byte
pub last_moved : (threads also : List ThreadRun) (co other : List EventId) (n m k : ℕ) (last : Option ℕ) → threads ≡ also → co ≡ other → m ≡ k
    → IsLastBefore threads co n m last → IsLastBefore also other n k last
last_moved threads also co other n m k last same_threads same_co same before =
    let Threads : List ThreadRun → Type 0 = λ all. IsLastBefore all co n m last in
    let Entries : List EventId → Type 0 = λ all. IsLastBefore also all n m last in
    let Count : ℕ → Type 0 = λ count. IsLastBefore also other n count last in
    subst Count same (subst Entries same_co (subst Threads same_threads before))
