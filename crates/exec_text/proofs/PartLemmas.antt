-- How a text falls into parts.
use Rattle.std.proofs.Common.{◌≡◌, ℕ, ◌<◌, ◌+◌, Bool, true, false, cond, ltb, List, [], ◌∷◌, length, take, drop, Option, Some, None, MatchOption, refl, ap, arith, ltb-true, ltb-false}
use Rattle.std.specs.List.{position, position_or_len, slice_split}
use Rattle.std.proofs.lemmas.List.Splits.{slice_split_none, slice_split_first, length-slice_split}
use Rattle.std.proofs.lemmas.List.Sums.{fails_before_first}

-- the parts, by the place of the first element at which a list is cut
abbrev pub IsCutAt : {A : Type 0} → (A → Bool) → List A → Option ℕ → Type 0
IsCutAt p xs place = MatchOption place (slice_split p xs ≡ xs ∷ []) (λ i. (i < length xs) × (slice_split p xs ≡ take i xs ∷ slice_split p (drop (i + 1) xs)))

pub cut_at_position : {A : Type 0} (p : A → Bool) (xs : List A) (d : A) → IsCutAt p xs (position p xs)
cut_at_position {A} p xs d = by (ltb (position_or_len p xs) (length xs)) refl
  where
    by : (b : Bool) → ltb (position_or_len p xs) (length xs) ≡ b → IsCutAt p xs (cond b (Some (position_or_len p xs)) None)
    by true e = let in_list = ltb-true _ _ e in (in_list, slice_split_first p xs d in_list)
    by false e = let past = ltb-false _ _ e in slice_split_none p xs (λ k other l. fails_before_first p xs k other (omega arith))

-- there is a part at least
pub some_part : {A : Type 0} (p : A → Bool) (xs : List A) → slice_split p xs ≡ [] → ⊥
some_part p xs e = omega (arith, length-slice_split p xs, ap length e)
