-- How many instructions begin at different addresses of the made code.
use Rattle.std.proofs.Common.{◌≡◌, ◌≢◌, ◌≤◌, ◌<◌, ℕ, suc, ◌+◌, ◌-◌, ◌/◌, Bool, true, false, List, [], ◌∷◌, length, map, Some, arith, refl, sym, ap, ⊎_elim}
use Rattle.std.specs.Prelude.{◌||◌}
use Rattle.std.specs.List.{AllByRecursion, list_any}
use Rattle.std.specs.List.{IsDistinct as IsDistinctBy}
use Rattle.std.proofs.Math.Dec.{eqb}
use Rattle.std.proofs.lemmas.Bool.{false≢true}
use Rattle.std.proofs.lemmas.Bool.Decides.{eqb_tells}
use Rattle.std.proofs.lemmas.List.{length-map}
use Rattle.std.proofs.lemmas.Map.Steps.{length-le_from_distinct_below}
use Rattle.ev_graph.specs.Places.{StandsIn, IsDistinct}
use Rattle.gen_input.proofs.Rounds.{length_rounds}
use Rattle.made_laws.proofs.Places.{IsPlace, offset_within, offset_small}
use Rattle.made_laws.proofs.Standing.{told}

-- Each instruction is at least two bytes from the next, so each has a number of its own: half its distance from the code's begin.
half : ℕ → ℕ
half a = (a - 0x401000) / 2

-- the code's begin, and all within it
place_low : (n a : ℕ) → n ≤ 20000 → IsPlace n a → (0x401000 ≤ a) × (a ≤ 0x401000 + 125000)
place_low n a few (IsPlace.head at) = (omega (arith, at), omega (arith, at))
place_low n a few (IsPlace.inner j d at offset) =
    let low = offset_small n j d offset in
    (omega (arith, at), omega (arith, at, few, low, length_rounds j, offset_within n j d offset))

half_low : (n a : ℕ) → n ≤ 20000 → IsPlace n a → half a < 65536
unfolding half
half_low n a few at = let low = place_low n a few at in omega (arith, low.0, low.1)

halves_less : (n a b : ℕ) → n ≤ 20000 → IsPlace n a → IsPlace n b → a < b → half a < half b
unfolding half
halves_less n a b few one other less =
    let apart = (told n a few one).spaced b other less in
    let low = place_low n a few one in
    omega (arith, apart, low.0)

halves_differ : (n a b : ℕ) → n ≤ 20000 → IsPlace n a → IsPlace n b → a ≢ b → half a ≢ half b
halves_differ n a b few one other differ same =
    let up : a < b → ⊥ = λ less. let more = halves_less n a b few one other less in omega (arith, more, same) in
    let down : b < a → ⊥ = λ less. let more = halves_less n b a few other one less in omega (arith, more, same) in
    differ (omega (arith, up, down))

unequal : (a b : ℕ) → a ≢ b → eqb a b ≡ false
unequal a b differ = ⊎_elim (λ (same : (eqb a b ≡ true) × (a ≡ b)). absurd (differ same.1)) (λ (other : (eqb a b ≡ false) × (a ≢ b)). other.0) (eqb_tells a b)

-- these are places
abbrev AllPlaces : (n : ℕ) → List ℕ → Type 0
AllPlaces n places = (a : ℕ) → StandsIn places a → IsPlace n a

apart_from : (n a : ℕ) (places : List ℕ) → n ≤ 20000 → IsPlace n a → AllPlaces n places → ((b : ℕ) → StandsIn places b → a ≢ b)
    → AllByRecursion (λ m. eqb (half a) m ≡ false) (map half places)
apart_from n a [] few at all differ = tt
apart_from n a (b ∷ places) few at all differ = (
  unequal (half a) (half b) (halves_differ n a b few at (all b (0, refl)) (differ b (0, refl))),
  apart_from n a places few at (λ c stands. all c (suc stands.0, stands.1)) (λ c stands. differ c (suc stands.0, stands.1)),
)

distinct_halves : (n : ℕ) (places : List ℕ) → n ≤ 20000 → AllPlaces n places → IsDistinct places → IsDistinctBy eqb (map half places)
unfolding IsDistinctBy
distinct_halves n [] few all once = tt
distinct_halves n (a ∷ places) few all once = (
  apart_from n a places few (all a (0, refl)) (λ c stands. all c (suc stands.0, stands.1)) (λ b stands same. other b stands same),
  distinct_halves n places few (λ c stands. all c (suc stands.0, stands.1)) (λ i j x one two. let next : suc i ≡ suc j = once (suc i) (suc j) x one two in omega (arith, next)),
)
  where
    other : (b : ℕ) → StandsIn places b → a ≡ b → ⊥
    other b stands same = let none : 0 ≡ suc stands.0 = once 0 (suc stands.0) b (ap Some same) stands.1 in omega (arith, none)

behind : (a b : Bool) → a ≡ false → (a || b) ≡ true → b ≡ true
behind true b none told = absurd (false≢true (sym none))
behind false b none told = told

among_low : (n : ℕ) (places : List ℕ) → n ≤ 20000 → AllPlaces n places → (q : ℕ) → list_any (eqb q) (map half places) ≡ true → q < 65536
among_low n [] few all q found = absurd (false≢true found)
among_low n (a ∷ places) few all q found =
    ⊎_elim (λ (same : (eqb q (half a) ≡ true) × (q ≡ half a)). let low = half_low n a few (all a (0, refl)) in omega (arith, low, same.1))
    (λ (other : (eqb q (half a) ≡ false) × (q ≢ half a)).
    among_low n places few (λ c stands. all c (suc stands.0, stands.1)) q (behind (eqb q (half a)) (list_any (eqb q) (map half places)) other.0 found))
    (eqb_tells q (half a))

-- places of the code, each once, are not too many
pub few_places : (n : ℕ) → n ≤ 20000 → (places : List ℕ) → IsDistinct places → ((a : ℕ) → StandsIn places a → IsPlace n a) → length places ≤ 65536
few_places n few places once all =
    let most = length-le_from_distinct_below (map half places) 65536 (distinct_halves n places few all once) (among_low n places few all) in
    omega (arith, most, length-map places half)
