-- An execution without a fault is well formed, and a well-formed one has none.
use Rattle.std.proofs.Common.{◌≡◌, ◌<◌, ◌+◌, ℕ, zero, suc, List, [], ◌∷◌, map, length, ◌⊎◌, inl, inr, ◌↔◌, Option, Some, None, refl, sym, ◌∙◌, subst, ap, arith}
use Rattle.std.specs.List.{slice_get, flat_map, range_with_len}
use Rattle.std.proofs.lemmas.Option.{slice_get_within}
use Rattle.ev_graph.specs.declared.events.Access.{Access}
use Rattle.ev_graph.specs.declared.events.EventId.{EventId}
use Rattle.ev_graph.specs.declared.execution.Execution.{Execution}
use Rattle.ev_graph.specs.declared.execution.FormFault.{FormFault}
use Rattle.ev_graph.specs.declared.execution.FormFault.TheVariants.{BadValue, CoEntry, CoMissing}
use Rattle.ev_graph.specs.declared.execution.ReadByte.{ReadByte}
use Rattle.ev_graph.specs.declared.execution.ReadFrom.{ReadFrom}
use Rattle.ev_graph.specs.declared.execution.Source.{Source}
use Rattle.ev_graph.specs.declared.execution.Source.TheVariants.{Start, From}
use Rattle.ev_graph.specs.declared.execution.ThreadRun.{ThreadRun}
use Rattle.ev_graph.specs.Memory.{Cell}
use Rattle.ev_graph.specs.Start.{start_at}
use Rattle.ev_graph.specs.Places.{StandsIn, HasEachOnce}
use Rattle.ev_graph.specs.Events.{IsAccessOf}
use Rattle.ev_graph.specs.WellFormed.{write_ids, Gives, HasSources, IsShaped, WellFormed}
use Rattle.ev_graph.specs.Faults.{MayGive, ByteOf, IsAbsent, IsFirstFault, byte_faults, entry_faults, candidates}
use Rattle.ev_graph.proofs.FirstLemmas.{none_present, all_absent, none_joined, range_has, same_first}
use Rattle.ev_graph.proofs.FormLemmas.{co_none, fault_of_missing}
use Rattle.ev_graph.proofs.Members.{stands_front, stands_back, stands_map}

-- what stands in one of the lists stands in the lists joined
stands_joined : {X K : Type 0} (f : X → List K) (xs : List X) (x : X) (k : K) → StandsIn xs x → StandsIn (f x) k → StandsIn (flat_map f xs) k
stands_joined f [] x k (i, here) stands = absurd cc
stands_joined {X} {K} f (y ∷ xs) x k (zero, here) stands =
    let same : x ≡ y = cc in
    let Stands : X → Type 0 = λ z. StandsIn (f z) k in
    stands_front (f y) (flat_map f xs) k (subst Stands same stands)
stands_joined f (y ∷ xs) x k (suc i, here) stands = stands_back (f y) (flat_map f xs) k (stands_joined f xs x k (i, here) stands)

-- each byte of a read that rf lists may have a wrong value, each entry of co may be wrong, and each write may be missing
value_candidate : (x : Execution) (e : ReadFrom) (k : ℕ) → StandsIn x.rf e → k < length e.bytes → StandsIn (candidates x) (BadValue (record { read = e.read; byte = k }))
value_candidate x e k listed within =
    stands_front _ (map CoMissing (write_ids x.threads)) _ (stands_front (flat_map entry_faults x.rf) (map CoEntry (range_with_len 0 (length x.co))) _
    (stands_joined entry_faults x.rf e _ listed
    (stands_joined (byte_faults e.read) (range_with_len 0 (length e.bytes)) k _ (k, (let at : 0 + k ≡ k = omega arith in range_has 0 (length e.bytes) k within ∙ ap Some at)) (1, refl))))

entry_candidate : (x : Execution) (i : ℕ) → i < length x.co → StandsIn (candidates x) (CoEntry i)
entry_candidate x i within =
    stands_front _ (map CoMissing (write_ids x.threads)) _ (stands_back (flat_map entry_faults x.rf) (map CoEntry (range_with_len 0 (length x.co))) _
    (stands_map CoEntry (range_with_len 0 (length x.co)) i (i, (let at : 0 + i ≡ i = omega arith in range_has 0 (length x.co) i within ∙ ap Some at))))

missing_candidate : (x : Execution) (w : EventId) → StandsIn (write_ids x.threads) w → StandsIn (candidates x) (CoMissing w)
missing_candidate x w stands = stands_back _ (map CoMissing (write_ids x.threads)) _ (stands_map CoMissing (write_ids x.threads) w stands)

-- without a fault each source gives its byte
sources_of : (cells : ℕ → Option Cell) (x : Execution) → IsFirstFault cells x None → HasSources (start_at cells x.stacks) x
sources_of cells x none e r k s listed read here =
    let candidate = value_candidate x e k listed (slice_get_within e.bytes k s here) in
    all_absent (IsAbsent cells x) (candidates x) none candidate.0 _ candidate.1
    (record { entry = e; listed = listed; named = refl; read = r; found = read; source = s; here = here })

-- and co has each write once
co_of : (cells : ℕ → Option Cell) (x : Execution) → IsFirstFault cells x None → HasEachOnce x.co (write_ids x.threads)
co_of cells x none = record {
  only = λ w (i, here). let candidate = entry_candidate x i (slice_get_within x.co i w here) in
      (all_absent (IsAbsent cells x) (candidates x) none candidate.0 _ candidate.1 w here).0;
  once = λ i j w here there.
      let later = λ (m n : ℕ) (less : m < n) (first : slice_get x.co m ≡ Some w) (second : slice_get x.co n ≡ Some w).
      let candidate = entry_candidate x n (slice_get_within x.co n w second) in
      (all_absent (IsAbsent cells x) (candidates x) none candidate.0 _ candidate.1 w second).1 m less first in
      let cases : (i < j) ⊎ ((i ≡ j) ⊎ (j < i)) = grind arith in
      elim cases [ inl less ↦ absurd (later i j less here there) | inr (inl same) ↦ same | inr (inr more) ↦ absurd (later j i more there here) ];
  each = λ w stands. let candidate = missing_candidate x w stands in all_absent (IsAbsent cells x) (candidates x) none candidate.0 _ candidate.1;
}

-- a source that gives a byte may give it
may_give : (start : ℕ → Option ℕ) (threads : List ThreadRun) (r : Access) (k : ℕ) (s : Source) → Gives start threads r k s → MayGive threads r k s
may_give start threads r k Start gives = tt
may_give start threads r k (From w) (a, found, write, covers, same) = (a, found, write, covers)

-- in a well-formed execution the source of each byte gives it
byte_gives : (cells : ℕ → Option Cell) (x : Execution) → WellFormed cells x → (b : ReadByte) (at : ByteOf x b) → Gives (start_at cells x.stacks) x.threads at.read b.byte at.source
byte_gives cells x formed b at =
    let Of : EventId → Type 0 = λ id. IsAccessOf x.threads id at.read in
    formed.sources at.entry at.read b.byte at.source at.listed (subst Of (sym at.named) at.found) at.here

-- and no fault is there
none_of : (cells : ℕ → Option Cell) (x : Execution) → WellFormed cells x → IsFirstFault cells x None
none_of cells x formed = fault_of_missing cells x None
    (none_joined (IsAbsent cells x) entry_faults x.rf (λ j e listed. none_joined (IsAbsent cells x) (byte_faults e.read) (range_with_len 0 (length e.bytes)) (λ i k here.
    inr (
      (λ at. may_give (start_at cells x.stacks) x.threads at.read k at.source (byte_gives cells x formed (record { read = e.read; byte = k }) at)),
      inr ((λ at. byte_gives cells x formed (record { read = e.read; byte = k }) at), refl),
    ))))
    (co_none cells x (length x.co) (omega arith) (λ j w less here.
    (formed.co.only w (j, here), (λ i earlier there. let same = formed.co.once i j w there here in omega arith))))
    (none_present (StandsIn x.co) (write_ids x.threads) formed.co.each)

-- no first fault is being well formed
pub no_fault_is_well_formed : (cells : ℕ → Option Cell) (x : Execution) → IsShaped x → IsFirstFault cells x None ↔ WellFormed cells x
no_fault_is_well_formed cells x shaped =
    ((λ none. record { shaped = shaped; sources = sources_of cells x none; co = co_of cells x none }), (λ formed. none_of cells x formed))

-- a first fault is not being well formed
pub fault_is_not_well_formed : (cells : ℕ → Option Cell) (x : Execution) (fault : FormFault) → IsFirstFault cells x (Some fault) → WellFormed cells x → ⊥
fault_is_not_well_formed cells x fault first formed =
    let same = same_first (IsAbsent cells x) (candidates x) (Some fault) None first (none_of cells x formed) in
    cc
