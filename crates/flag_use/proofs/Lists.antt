-- Lists that are gathered from elements.
use Rattle.std.proofs.Common.{◌≡◌, ℕ, ◌+◌, ◌<◌, List, ◌∷◌, ◌++◌, length, drop, get_or, drop-cons, add-one, append_assoc, ap, ◌∙◌, subst}
use Rattle.std.specs.List.{flat_map}

-- what an element gives is put behind what those before it gave
pub gathers_on : {X : Type 0} (f : X → List ℕ) (xs : List X) (k : ℕ) (d : X) (old now all : List ℕ) → k < length xs
    → old ++ flat_map f (drop k xs) ≡ all → now ≡ old ++ f (get_or xs k d) → now ++ flat_map f (drop (k + 1) xs) ≡ all
gathers_on f xs k d old now all within before put =
    let front : drop k xs ≡ get_or xs k d ∷ drop (k + 1) xs = rw (add-one, drop-cons xs k d) in
    let split : old ++ (f (get_or xs k d) ++ flat_map f (drop (k + 1) xs)) ≡ all =
    subst (λ (l : List _). old ++ flat_map f l ≡ all) front before in
    ap (λ (l : List ℕ). l ++ flat_map f (drop (k + 1) xs)) put ∙ append_assoc old (f (get_or xs k d)) (flat_map f (drop (k + 1) xs)) ∙ split
