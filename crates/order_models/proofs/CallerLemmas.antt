-- What a caller of `local` cites.
use Rattle.std.specs.List.{slice_get}
use Rattle.std.proofs.Common.{◌≡◌, ℕ, zero, suc, subst, List, [], ◌∷◌, inl, inr, Option, Some, None}
use Rattle.order_models.specs.Local.{IsFirst}

-- there is one first of a list
pub same_first : {K : Type 0} (P : K → Type 0) (ks : List K) (found other : Option K) → IsFirst P ks found → IsFirst P ks other → found ≡ other
same_first P [] found other first second = cc
same_first P (k ∷ ks) found other (inl (holds, is)) (inl (also, was)) = cc
same_first P (k ∷ ks) found other (inl (holds, is)) (inr (not, rest)) = absurd (not holds)
same_first P (k ∷ ks) found other (inr (not, rest)) (inl (holds, is)) = absurd (not holds)
same_first P (k ∷ ks) found other (inr (not, rest)) (inr (also, other_rest)) = same_first P ks found other rest other_rest

-- nothing of the list has the property where none is first
pub first_none-no : {K : Type 0} (P : K → Type 0) (ks : List K) (i : ℕ) (k : K) → IsFirst P ks None → slice_get ks i ≡ Some k → P k → ⊥
first_none-no P [] i k first here holds = absurd cc
first_none-no P (k' ∷ ks) i k (inl (is_so, is)) here holds = absurd cc
first_none-no P (k' ∷ ks) zero k (inr (not, rest)) here holds = not (let same : k ≡ k' = cc in subst P same holds)
first_none-no P (k' ∷ ks) (suc i) k (inr (not, rest)) here holds = first_none-no P ks i k rest here holds

-- the first has the property
pub first_some-holds : {K : Type 0} (P : K → Type 0) (ks : List K) (k : K) → IsFirst P ks (Some k) → P k
first_some-holds P [] k first = absurd cc
first_some-holds P (k' ∷ ks) k (inl (holds, is)) = let same : k' ≡ k = cc in subst P same holds
first_some-holds P (k' ∷ ks) k (inr (not, rest)) = first_some-holds P ks k rest
