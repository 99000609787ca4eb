-- What holds of each element of a list, walked from the front.
use Rattle.std.proofs.Common.{◌≡◌, ℕ, zero, suc, ◌+◌, ◌<◌, ◌≤◌, List, [], ◌∷◌, ◌++◌, length, drop, take, map, get_or, Some, drop-cons, add-one, ap, ◌⊎◌, ⊎_elim, ◌==◌, ◌≢◌, true, false, refl, subst, sym, arith}
use Rattle.std.specs.Prelude.{◌↔◌, slice_get}
use Rattle.std.specs.List.{AllByRecursion}
use Rattle.std.proofs.lemmas.Bool.Decides.{eqb_tells}
use Rattle.ev_graph.specs.declared.execution.Stack.{Stack}
use Rattle.ev_graph.specs.Memory.{Part, Apart, IsStack, IsOffStack, AreStacksApart, IsOffStacks, Fits}
use Rattle.arm_replay.specs.Layouts.{PlacedBehind, IsPlaced, ArePlaced}

-- all hold exactly where all behind a place hold
abbrev pub SameBehind : {A : Type 0} → (A → Type 0) → List A → ℕ → Type 0
SameBehind P xs i = AllByRecursion P xs ↔ AllByRecursion P (drop i xs)

-- one that holds is passed
pub behind_more : {A : Type 0} (P : A → Type 0) (xs : List A) (i : ℕ) (x : A) → drop i xs ≡ x ∷ drop (i + 1) xs → P x → SameBehind P xs i → SameBehind P xs (i + 1)
behind_more P xs i x here holds same = (
  λ all. (subst (AllByRecursion P) here (same.0 all)).1,
  λ rest. same.1 (subst (AllByRecursion P) (sym here) (holds, rest)),
)

-- one that does not hold says that not all do
pub behind_fails : {A : Type 0} (P : A → Type 0) (xs : List A) (i : ℕ) (x : A) → drop i xs ≡ x ∷ drop (i + 1) xs → (P x → ⊥) → SameBehind P xs i → AllByRecursion P xs → ⊥
behind_fails P xs i x here fails same all = fails (subst (AllByRecursion P) here (same.0 all)).0

-- addresses by other names
pub apart_at : (low high lo hi from to : ℕ) → from ≡ low → to ≡ high → Apart from to lo hi → Apart low high lo hi
apart_at low high lo hi from to same_low same_high apart = subst (λ h. Apart low h lo hi) same_high (subst (λ l. Apart l to lo hi) same_low apart)

-- what holds of each of a list of images, and of one more
pub all_images : {A B : Type 0} (Q : B → Type 0) (f : A → B) (xs : List A) (y : B)
    → (AllByRecursion (λ x. Q (f x)) xs × Q y) ↔ AllByRecursion Q (map f xs ++ y ∷ [])
all_images Q f [] y = (λ both. (both.1, tt), λ all. (tt, all.0))
all_images Q f (x ∷ xs) y =
    let rest = all_images Q f xs y in
    (λ both. (both.0.0, rest.0 (both.0.1, both.1)), λ all. let back = rest.1 all.1 in ((all.0, back.0), back.1))

-- what stands first, or behind it
front_cases : {A : Type 0} (P : A → Type 0) (x : A) (xs : List A) (k : ℕ) → P x → ((j : ℕ) (y : A) → j < k → slice_get xs j ≡ Some y → P y)
    → (j : ℕ) (y : A) → j < suc k → slice_get (x ∷ xs) j ≡ Some y → P y
front_cases P x xs k first rest zero y lt here = let same : x ≡ y = cc in subst P same first
front_cases P x xs k first rest (suc j) y lt here = rest j y (omega (arith, lt)) here

-- what holds of each of the first of a list, by places
pub all_front : {A : Type 0} (P : A → Type 0) (xs : List A) (k : ℕ) → AllByRecursion P (take k xs) ↔ ((j : ℕ) (x : A) → j < k → slice_get xs j ≡ Some x → P x)
all_front P xs zero = (λ all j x lt here. absurd (omega (arith, lt)), λ each. tt)
all_front P [] (suc k) = (λ all j x lt here. absurd (cc), λ each. tt)
all_front P (x ∷ xs) (suc k) =
    let rest = all_front P xs k in
    (λ all. front_cases P x xs k all.0 (rest.0 all.1), λ each. (each 0 x (omega arith) refl, rest.1 (λ j y lt here. each (suc j) y (omega (arith, lt)) here)))

-- the element of a walk, at its place
pub drop_at : {A : Type 0} (xs : List A) (i : ℕ) (x : A) → i < length xs → x ≡ get_or xs i x → drop i xs ≡ x ∷ drop (i + 1) xs
drop_at xs i x within here = rw (add-one, drop-cons xs i x) (rw (← here) refl)

-- placed behind those before it is placed at its place
pub placed_there : (parts : List Part) (stacks : List Stack) (k : ℕ) (stack : Stack) → PlacedBehind parts (take k stacks) stack ↔ IsPlaced parts stacks k stack
placed_there parts stacks k stack = (
  λ behind. record { placed = behind.0; off_parts = behind.1.0; off_earlier = (all_front (λ (other : Stack). IsOffStack other stack) stacks k).0 behind.1.1 },
  λ placed. (placed.placed, (placed.off_parts, (all_front (λ (other : Stack). IsOffStack other stack) stacks k).1 placed.off_earlier)),
)

-- one more is placed
pub placed_more : (parts : List Part) (stacks : List Stack) (k : ℕ) (stack : Stack) → slice_get stacks k ≡ Some stack → IsPlaced parts stacks k stack
    → ArePlaced parts stacks k → ArePlaced parts stacks (k + 1)
placed_more parts stacks k stack here placed before j other lt there =
    ⊎_elim (λ (same : (j == k ≡ true) × (j ≡ k)).
    let at_k : slice_get stacks k ≡ Some other = subst (λ i. slice_get stacks i ≡ Some other) same.1 there in
    let other_is : stack ≡ other = cc in
    subst (λ i. IsPlaced parts stacks i other) (sym same.1) (subst (λ s. IsPlaced parts stacks k s) other_is placed))
    (λ (differ : (j == k ≡ false) × (j ≢ k)). before j other (omega (arith, lt, differ.1)) there) (eqb_tells j k)

-- the element of a walk, by its place
pub get_at : {A : Type 0} (xs : List A) (i : ℕ) (x : A) → drop i xs ≡ x ∷ drop (i + 1) xs → slice_get xs i ≡ Some x
get_at [] zero x here = absurd (cc)
get_at [] (suc i) x here = absurd (cc)
get_at (y ∷ xs) zero x here = let same : y ≡ x = cc in ap Some same
get_at (y ∷ xs) (suc i) x here =
    let e : suc i + 1 ≡ suc (i + 1) = omega arith in
    get_at xs i x (subst (λ n. drop (suc i) (y ∷ xs) ≡ x ∷ drop n (y ∷ xs)) e here)

-- the first of what is left, by its place
pub drop_here : {A : Type 0} (xs : List A) (i : ℕ) (d : A) → i < length xs → drop i xs ≡ get_or xs i d ∷ drop (i + 1) xs
drop_here xs i d within = rw (add-one, drop-cons xs i d) refl

-- what stands somewhere stands within
get_within : {A : Type 0} (xs : List A) (i : ℕ) (x : A) → slice_get xs i ≡ Some x → i < length xs
get_within [] i x here = absurd (cc)
get_within (y ∷ xs) zero x here = omega arith
get_within (y ∷ xs) (suc i) x here = omega (arith, get_within xs i x here)

all_each : {A : Type 0} (P : A → Type 0) (xs : List A) → ((j : ℕ) (x : A) → slice_get xs j ≡ Some x → P x) → AllByRecursion P xs
all_each P [] each = tt
all_each P (x ∷ xs) each = (each 0 x refl, all_each P xs (λ j y here. each (suc j) y here))

all_apart : (stacks : List Stack) → ((i j : ℕ) (a b : Stack) → i < j → slice_get stacks i ≡ Some a → slice_get stacks j ≡ Some b → IsOffStack a b) → AreStacksApart stacks
all_apart [] each = tt
all_apart (stack ∷ stacks) each = (
  all_each (IsOffStack stack) stacks (λ j b here. each 0 (suc j) stack b (omega arith) refl here),
  all_apart stacks (λ i j a b lt first second. each (suc i) (suc j) a b (omega (arith, lt)) first second),
)

all_off : (parts : List Part) (stacks : List Stack)
    → ((j : ℕ) (stack : Stack) → slice_get stacks j ≡ Some stack → AllByRecursion (λ (part : Part). Apart part.address (part.address + part.size) stack.lo stack.hi) parts)
    → AllByRecursion (IsOffStacks stacks) parts
all_off [] stacks each = tt
all_off (part ∷ parts) stacks each = (
  all_each (λ (stack : Stack). Apart part.address (part.address + part.size) stack.lo stack.hi) stacks (λ j stack here. (each j stack here).0),
  all_off parts stacks (λ j stack here. (each j stack here).1),
)

-- where each stack is placed the layout fits
pub placed_fits : (parts : List Part) (threads : ℕ) (stacks : List Stack) → length stacks ≡ threads → ArePlaced parts stacks (length stacks) → Fits parts threads stacks
placed_fits parts threads stacks many placed =
    let at : (j : ℕ) (stack : Stack) → slice_get stacks j ≡ Some stack → IsPlaced parts stacks j stack = λ j stack here. placed j stack (get_within stacks j stack here) here in
    record {
      one_each = many;
      well_placed = all_each IsStack stacks (λ j stack here. (at j stack here).placed);
      apart = all_apart stacks (λ i j a b lt first second. (at j b second).off_earlier i a lt first);
      off_parts = all_off parts stacks (λ j stack here. (at j stack here).off_parts);
    }

-- what stands at a place within
pub get_there : {A : Type 0} (xs : List A) (i : ℕ) (d : A) → i < length xs → slice_get xs i ≡ Some (get_or xs i d)
get_there xs i d within = get_at xs i (get_or xs i d) (drop_here xs i d within)
