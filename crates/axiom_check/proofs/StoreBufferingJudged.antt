-- Store buffering can be judged.
use Rattle.std.proofs.Common.{◌≡◌, ◌≢◌, ◌≤◌, ℕ, zero, suc, false, List, [], ◌∷◌, length, Option, Some, None, inl, inr, refl, sym, ap, subst, arith}
use Rattle.std.specs.List.{slice_get}
use Rattle.ev_graph.specs.declared.events.Access.{Access}
use Rattle.ev_graph.specs.declared.events.AccessKind.TheVariants.{Read}
use Rattle.ev_graph.specs.declared.events.EventId.{EventId}
use Rattle.ev_graph.specs.declared.events.FenceKind.{FenceKind}
use Rattle.ev_graph.specs.declared.execution.ReadFrom.{ReadFrom}
use Rattle.ev_graph.specs.declared.execution.Source.{Source}
use Rattle.ev_graph.specs.declared.execution.Source.TheVariants.{Start, From}
use Rattle.ev_graph.specs.Faults.{MayGive}
use Rattle.ev_graph.specs.Places.{StandsIn, IsDistinct, HasEachOnce}
use Rattle.ev_graph.specs.StoreBuffering.{store_buffering}
use Rattle.ev_graph.specs.WellFormed.{all_accesses, write_ids, EachAccess}
use Rattle.ev_graph.proofs.Members.{distinct_cons}
use Rattle.ev_graph.proofs.StoreBufferingLemmas.{sb_access, sb_from, sb_shaped}
use Rattle.axiom_check.specs.External.{IsJudgeable}

no_two : {A : Type 0} (x y : A) → x ≢ y → IsDistinct (x ∷ y ∷ [])
no_two x y apart = distinct_cons (y ∷ []) x (λ there. not_there there) (distinct_cons [] y (λ there. nowhere there) (λ i j z here also. absurd cc)) where
  nowhere : StandsIn [] y → ⊥
  nowhere (i, here) = absurd cc

  not_there : StandsIn (y ∷ []) x → ⊥
  not_there (zero, here) = apart cc
  not_there (suc i, here) = absurd cc

sb_ids : (value : ℕ) (fence : Option FenceKind) → write_ids (store_buffering value fence).threads ≡ record { thread = 0; index = 0 } ∷ record { thread = 1; index = 0 } ∷ []
sb_ids value None = refl
sb_ids value (Some kind) = refl

sb_few : (value : ℕ) (fence : Option FenceKind) → length (all_accesses (store_buffering value fence).threads) ≤ 4096
sb_few value None = omega arith
sb_few value (Some kind) = omega arith

sb_sources : (value : ℕ) (fence : Option FenceKind) (e : ReadFrom) (r : Access) (k : ℕ) (s : Source) → StandsIn (store_buffering value fence).rf e → slice_get e.bytes k ≡ Some s
    → MayGive (store_buffering value fence).threads r k s
sb_sources value fence e r k Start listed byte = tt
sb_sources value fence e r k (From w) listed byte =
    absurd (sb_from value fence (record { id = e.read; kind = Read; locked = false; address = 0; size = 0 }) k w (record { entry = e; listed = listed; read = refl; byte = byte }))

pub sb_judgeable : (value : ℕ) (fence : Option FenceKind) → IsJudgeable (store_buffering value fence)
sb_judgeable value fence = record {
  shaped = sb_shaped value fence;
  sources = λ e r k s listed found byte. sb_sources value fence e r k s listed byte;
  co = let first : EventId = record { thread = 0; index = 0 } in
      let second : EventId = record { thread = 1; index = 0 } in
      subst (λ (ids : List EventId). HasEachOnce (first ∷ second ∷ []) ids) (sym (sb_ids value fence))
      (record { only = λ id there. there; once = no_two first second (λ same. let threads = ap {B = ℕ} (λ (e : EventId). e.thread) same in omega arith); each = λ id there. there });
  threads = omega arith;
  few = sb_few value fence;
  sizes = λ t n a here. sb_sizes t n a here;
} where
  sb_sizes : EachAccess (λ a. (1 ≤ a.size) × (a.size ≤ 8)) (store_buffering value fence).threads
  sb_sizes t n a here = elim (sb_access value fence t n a here).1 [
    | inl (number, is) ↦ (let size = ap {B = ℕ} (λ (b : Access). b.size) is in ((omega arith), (omega arith)))
    | inr (number, is) ↦ (let size = ap {B = ℕ} (λ (b : Access). b.size) is in ((omega arith), (omega arith)))
  ]
