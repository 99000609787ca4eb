-- What a source gives, and the faults of a byte, an entry and a read.
use Rattle.std.proofs.Common.{◌≡◌, ◌≤◌, ◌<◌, ◌+◌, ℕ, List, length, inl, inr, Option, Some, None, refl, sym, subst, arith}
use Rattle.std.specs.List.{slice_get, range_with_len}
use Rattle.ev_graph.specs.declared.events.Access.{Access}
use Rattle.ev_graph.specs.declared.events.EventId.{EventId}
use Rattle.ev_graph.specs.declared.execution.Execution.{Execution}
use Rattle.ev_graph.specs.declared.execution.FormFault.{FormFault}
use Rattle.ev_graph.specs.declared.execution.ReadFrom.{ReadFrom}
use Rattle.ev_graph.specs.declared.execution.Source.{Source}
use Rattle.ev_graph.specs.declared.execution.Source.TheVariants.{From}
use Rattle.ev_graph.specs.declared.execution.ThreadRun.{ThreadRun}
use Rattle.ev_graph.specs.declared.giving.Giving.{Giving}
use Rattle.ev_graph.specs.declared.giving.Giving.TheVariants.{SameByte, OtherByte, NoByte}
use Rattle.ev_graph.specs.Memory.{Cell}
use Rattle.ev_graph.specs.Start.{start_at}
use Rattle.ev_graph.specs.Places.{StandsIn}
use Rattle.ev_graph.specs.Events.{IsAccessOf}
use Rattle.ev_graph.specs.FinalByte.{GivesByte}
use Rattle.ev_graph.specs.WellFormed.{Gives, IsShaped}
use Rattle.ev_graph.specs.Faults.{MayGive, ByteOf, IsAbsent, IsFirstPresent, byte_faults, entry_faults}
use Rattle.ev_graph.specs.Giving.{IsGiving, fault_of}
use Rattle.ev_graph.proofs.FirstLemmas.{none_joined, first_joined, range_at, range_has}
use Rattle.ev_graph.proofs.Ids.{one_entry}

-- where the write gives the address no byte, it may not be the source
pub no_byte_given : (threads : List ThreadRun) (id : EventId) (r : Access) (k n : ℕ) → n ≡ r.address + k → ((byte : ℕ) → GivesByte threads id n byte → ⊥)
    → MayGive threads r k (From id) → ⊥
no_byte_given threads id r k n same none may =
    let Gone : ℕ → Type 0 = λ m. (byte : ℕ) → GivesByte threads id m byte → ⊥ in
    let gone = subst Gone same none in
    gone _ (may.0, may.1, (may.2, may.3, refl))

pub giving_moved : (start : ℕ → Option ℕ) (threads also : List ThreadRun) (r : Access) (k : ℕ) (s t : Source) (giving : Giving) → threads ≡ also → t ≡ s
    → IsGiving start threads r k s giving → IsGiving start also r k t giving
giving_moved start threads also r k s t giving same_threads same is =
    let Threads : List ThreadRun → Type 0 = λ all. IsGiving start all r k s giving in
    let At : Source → Type 0 = λ u. IsGiving start also r k u giving in
    subst At (sym same) (subst Threads same_threads is)

-- what rf says of a byte of a read is what its one entry says
pub byte_said : (x : Execution) → IsShaped x → (e : ReadFrom) (r : Access) (k : ℕ) (s : Source) → StandsIn x.rf e → IsAccessOf x.threads e.read r
    → slice_get e.bytes k ≡ Some s → (at : ByteOf x (record { read = e.read; byte = k })) → (at.read ≡ r) × (at.source ≡ s)
byte_said x shaped e r k s listed read here at =
    let same : at.entry ≡ e = one_entry x shaped at.entry e at.listed listed at.named in
    let moved : slice_get e.bytes k ≡ Some at.source = rw (← same) at.here in
    let found = at.found in
    (cc, cc)

may_said : (x : Execution) → IsShaped x → (e : ReadFrom) (r : Access) (k : ℕ) (s : Source) → StandsIn x.rf e → IsAccessOf x.threads e.read r
    → slice_get e.bytes k ≡ Some s → (at : ByteOf x (record { read = e.read; byte = k })) → MayGive x.threads r k s → MayGive x.threads at.read k at.source
may_said x shaped e r k s listed read here at may =
    let same = byte_said x shaped e r k s listed read here at in
    let Of : Access → Type 0 = λ a. MayGive x.threads a k s in
    let At : Source → Type 0 = λ u. MayGive x.threads at.read k u in
    subst At (sym same.1) (subst Of (sym same.0) may)

gives_said : (cells : ℕ → Option Cell) (x : Execution) → IsShaped x → (e : ReadFrom) (r : Access) (k : ℕ) (s : Source) → StandsIn x.rf e → IsAccessOf x.threads e.read r
    → slice_get e.bytes k ≡ Some s → (at : ByteOf x (record { read = e.read; byte = k })) → Gives (start_at cells x.stacks) x.threads r k s
    → Gives (start_at cells x.stacks) x.threads at.read k at.source
gives_said cells x shaped e r k s listed read here at gives =
    let same = byte_said x shaped e r k s listed read here at in
    let Of : Access → Type 0 = λ a. Gives (start_at cells x.stacks) x.threads a k s in
    let At : Source → Type 0 = λ u. Gives (start_at cells x.stacks) x.threads at.read k u in
    subst At (sym same.1) (subst Of (sym same.0) gives)

-- what rf says of the byte
abbrev said : (x : Execution) (e : ReadFrom) (r : Access) (k : ℕ) (s : Source) → StandsIn x.rf e → IsAccessOf x.threads e.read r → slice_get e.bytes k ≡ Some s
    → ByteOf x (record { read = e.read; byte = k })
said x e r k s listed read here = record { entry = e; listed = listed; named = refl; read = r; found = read; source = s; here = here }

-- the fault of a byte by what its source gives
pub byte_answer : (cells : ℕ → Option Cell) (x : Execution) → IsShaped x → (e : ReadFrom) (r : Access) (k : ℕ) (s : Source) (giving : Giving)
    → StandsIn x.rf e → IsAccessOf x.threads e.read r → slice_get e.bytes k ≡ Some s → IsGiving (start_at cells x.stacks) x.threads r k s giving
    → IsFirstPresent (IsAbsent cells x) (byte_faults e.read k) (fault_of giving e.read k)
byte_answer cells x shaped e r k s SameByte listed read here (may, gives) =
    inr ((λ at. may_said x shaped e r k s listed read here at may), inr ((λ at. gives_said cells x shaped e r k s listed read here at gives), refl))
byte_answer cells x shaped e r k s OtherByte listed read here (may, not) =
    inr ((λ at. may_said x shaped e r k s listed read here at may), inl ((λ absent. not (absent (said x e r k s listed read here))), refl))
byte_answer cells x shaped e r k s NoByte listed read here not = inl ((λ absent. not (absent (said x e r k s listed read here))), refl)

-- a read that is no access has no fault
pub no_read : (cells : ℕ → Option Cell) (x : Execution) (e : ReadFrom) → ((a : Access) → IsAccessOf x.threads e.read a → ⊥)
    → IsFirstPresent (IsAbsent cells x) (entry_faults e) None
no_read cells x e none = none_joined (IsAbsent cells x) (byte_faults e.read) (range_with_len 0 (length e.bytes))
    (λ j k here. inr ((λ at. absurd (none at.read at.found)), inr ((λ at. absurd (none at.read at.found)), refl)))

-- the first fault of an entry, byte by byte
pub entry_none : (cells : ℕ → Option Cell) (x : Execution) (e : ReadFrom) (n : ℕ) → length e.bytes ≤ n
    → ((j : ℕ) → j < n → IsFirstPresent (IsAbsent cells x) (byte_faults e.read j) None) → IsFirstPresent (IsAbsent cells x) (entry_faults e) None
entry_none cells x e n past before = none_joined (IsAbsent cells x) (byte_faults e.read) (range_with_len 0 (length e.bytes))
    (λ j k here. let at = range_at 0 (length e.bytes) j k here in before k (let less = at.0 in let is = at.1 in omega arith))

pub entry_first : (cells : ℕ → Option Cell) (x : Execution) (e : ReadFrom) (k : ℕ) (found : FormFault) → k < length e.bytes
    → ((j : ℕ) → j < k → IsFirstPresent (IsAbsent cells x) (byte_faults e.read j) None)
    → IsFirstPresent (IsAbsent cells x) (byte_faults e.read k) (Some found) → IsFirstPresent (IsAbsent cells x) (entry_faults e) (Some found)
entry_first cells x e k found within before first = first_joined (IsAbsent cells x) (byte_faults e.read) (range_with_len 0 (length e.bytes)) k k found
    (λ j m less here. let at = range_at 0 (length e.bytes) j m here in before m (let is = at.1 in omega arith))
    (let e' : 0 + k ≡ k = omega arith in rw e' at (range_has 0 (length e.bytes) k within)) first
