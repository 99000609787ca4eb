-- What stands in a list that is longer, and in the front of one.
use Rattle.std.proofs.Common.{◌≡◌, ◌<◌, ◌≤◌, ◌+◌, ℕ, zero, suc, List, [], ◌∷◌, ◌++◌, length, ◌⊎◌, inl, inr, Some, ◌-◌, take, replicate, refl, sym, ap, ◌∙◌, get_or, arith}
use Rattle.std.specs.List.{slice_get}
use Rattle.std.proofs.lemmas.Option.{slice_get_within, slice_get-get_or, get_or_from_slice_get}
use Rattle.std.proofs.lemmas.List.{take_more, length-replicate, get_or-replicate}
use Rattle.ev_graph.specs.Places.{StandsIn}
use Rattle.ev_graph.proofs.PlaceLemmas.{get-take, push_cases}

-- what stands in the front of a list stands there in the list
pub from_front : {A : Type 0} (n : ℕ) (xs : List A) (i : ℕ) (x : A) → slice_get (take n xs) i ≡ Some x → (i < n) × (slice_get xs i ≡ Some x)
from_front zero xs i x here = absurd (cc)
from_front (suc n) [] i x here = absurd (cc)
from_front (suc n) (z ∷ xs) zero x here = (omega arith, here)
from_front (suc n) (z ∷ xs) (suc i) x here = let rest = from_front n xs i x here in let less = rest.0 in (omega arith, rest.1)

-- what stands in a front that is longer by one
pub front_more : (xs : List ℕ) (i : ℕ) (k x : ℕ) → slice_get xs i ≡ Some k → StandsIn (take (i + 1) xs) x → StandsIn (take i xs) x ⊎ (k ≡ x)
front_more xs i k x here at =
    let within = slice_get_within xs i k here in
    let longer = take_more xs i k within in
    let read = slice_get-get_or xs i k within in
    let same : get_or xs i k ≡ k = cc in
    elim (push_cases (take i xs) (get_or xs i k) at.0 x (ap (λ (ys : List ℕ). slice_get ys at.0) (sym longer) ∙ at.1)) [
      | inl before ↦ inl (at.0, before)
      | inr last ↦ inr (sym same ∙ last.1)
    ]

pub in_front : {A : Type 0} (n : ℕ) (xs : List A) (i : ℕ) (x : A) → i < n → slice_get xs i ≡ Some x → slice_get (take n xs) i ≡ Some x
in_front n xs i x less here = get-take xs n i less ∙ here

-- a list that keeps the places of another begins with it
pub same_front : (n : ℕ) (xs ys : List ℕ) → ((i a : ℕ) → slice_get xs i ≡ Some a → slice_get ys i ≡ Some a) → n ≤ length xs → take n ys ≡ take n xs
same_front zero xs ys kept le = refl
same_front (suc n) [] ys kept le = absurd (omega arith)
same_front (suc n) (x ∷ xs) [] kept le = absurd (let first = kept zero x refl in cc)
same_front (suc n) (x ∷ xs) (y ∷ ys) kept le =
    let first = kept zero x refl in
    let same : y ≡ x = cc in
    let rest = same_front n xs ys (λ i a here. kept (suc i) a here) (omega arith) in
    cc

-- what stands in the longer list at a place of the shorter one stood there
pub kept_back : (xs ys : List ℕ) → ((i a : ℕ) → slice_get xs i ≡ Some a → slice_get ys i ≡ Some a) → (i a : ℕ) → i < length xs → slice_get ys i ≡ Some a → slice_get xs i ≡ Some a
kept_back xs ys kept i a within here =
    let at = slice_get-get_or xs i a within in
    let there = kept i (get_or xs i a) at in
    cc

-- a front as long as the list is the list
pub front_past : (n : ℕ) (xs : List ℕ) → length xs ≤ n → take n xs ≡ xs
front_past zero [] le = refl
front_past zero (x ∷ xs) le = absurd (omega arith)
front_past (suc n) [] le = refl
front_past (suc n) (x ∷ xs) le = ap (λ (ys : List ℕ). x ∷ ys) (front_past n xs (omega arith))

-- a list that keeps the places of another is as long at least
pub kept_longer : (xs ys : List ℕ) → ((i a : ℕ) → slice_get xs i ≡ Some a → slice_get ys i ≡ Some a) → length xs ≤ length ys
kept_longer xs ys kept =
    let cases : (length xs ≡ 0) ⊎ (0 < length xs) = grind arith in
    elim cases [
      | inl empty ↦ omega arith
      | inr some ↦
          let last = kept (length xs - 1) (get_or xs (length xs - 1) 0) (slice_get-get_or xs (length xs - 1) 0 (omega arith)) in
          let within = slice_get_within ys (length xs - 1) (get_or xs (length xs - 1) 0) last in
          omega arith
    ]

-- what stands behind the first of two joined lists stands in the second
pub append_back : (xs ys : List ℕ) (i x : ℕ) → length xs ≤ i → slice_get (xs ++ ys) i ≡ Some x → StandsIn ys x
append_back [] ys i x le here = (i, here)
append_back (z ∷ xs) ys zero x le here = absurd (omega arith)
append_back (z ∷ xs) ys (suc i) x le here = append_back xs ys i x (omega arith) here

-- an element of a list of copies
pub replicated : (n s x : ℕ) → StandsIn (replicate n s) x → x ≡ s
replicated n s x at =
    let within = slice_get_within (replicate n s) at.0 x at.1 in
    let long : length (replicate n s) ≡ n = length-replicate n s in
    let read = get_or_from_slice_get (replicate n s) at.0 x s at.1 in
    let copy = get_or-replicate n at.0 s s (omega arith) in
    cc
