-- A loop that maps each element in place.
use Rattle.std.proofs.Common.{◌≡◌, ◌<◌, ◌+◌, ℕ, List, ◌++◌, map, take, drop, length, get_or, ap, arith}
use Rattle.std.proofs.Math.ListN.{set}
use Rattle.std.proofs.lemmas.List.{get_or_default}
use Rattle.std.proofs.lemmas.List.Edits.{map_over_more}

-- one more element is mapped: zs is the list at the start, as the loop sees it
pub mapped_step : {X : Type 0} (f : X → X) (zs xs ys : List X) (i : ℕ) (x d : X) → zs ≡ xs → i < length zs → length ys ≡ length zs
    → ys ≡ map f (take i xs) ++ drop i xs → x ≡ f (get_or ys i d) → set ys i x ≡ map f (take (i + 1) xs) ++ drop (i + 1) xs
mapped_step f zs xs ys i x d same within sized mapped gives =
    let lengths = ap length same in
    let at : get_or ys i d ≡ get_or ys i (get_or ys i d) = get_or_default ys i d (get_or ys i d) (omega arith) in
    let step = map_over_more f xs ys i (get_or ys i d) (omega arith) mapped at in
    rw gives step
