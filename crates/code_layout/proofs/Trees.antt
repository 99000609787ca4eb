-- Trees by halves.
use Rattle.std.proofs.Common.{◌≡◌, ℕ, zero, suc, ◌+◌, ◌*◌, ◌^◌, ◌<◌, ◌≤◌, ◌==◌, Bool, true, false, List, [], ◌∷◌, ◌++◌, length, Some, refl, sym, ap, ◌∙◌, arith, length-append}
use Rattle.std.specs.Prelude.{if◌then◌else◌, nat_lt, ◌||◌, max, slice_get}
use Rattle.std.specs.List.{AllByRecursion}
use Rattle.std.proofs.lemmas.Bool.Decides.{nat_tests}
use Rattle.std.proofs.lemmas.List.Folds.{list_any-append}
use Rattle.cfg_walk.specs.Code.{IsIncreasing}
use Rattle.cfg_walk.specs.Machine.{has_address}
use Rattle.code_layout.specs.Search.{Search, Nowhere, Leaf, Fork, finds, depth, Rise, IsSearchOf}

-- no site at all
pub nowhere_looks_up : IsSearchOf [] Nowhere
nowhere_looks_up = record {
  fits = tt;
  has = λ address. refl;
  shallow = λ n few. omega arith;
  small = omega arith;
  size = λ some. absurd (omega (arith, some));
}

-- one site
pub leaf_looks_up : (site : ℕ) → site < 2 ^ 64 → IsSearchOf (site ∷ []) (Leaf site)
leaf_looks_up site fits = record {
  fits = fits;
  has = λ address. or_false (address == site);
  shallow = λ n few. omega arith;
  small = omega arith;
  size = λ some. omega arith;
}
  where
    or_false : (b : Bool) → b ≡ (b || false)
    or_false true = refl
    or_false false = refl

-- numbers below an address, or not below it, are not the address
none_below : (xs : List ℕ) (key v : ℕ) → AllByRecursion (λ y. y < key) xs → key ≤ v → has_address xs v ≡ false
none_below [] key v below le = refl
none_below (y ∷ ys) key v below le =
    let other : (v == y) ≡ false = let less = below.0 in grind (arith, nat_tests) in
    ap (λ b. b || has_address ys v) other ∙ none_below ys key v below.1 le

none_above : (xs : List ℕ) (key v : ℕ) → AllByRecursion (λ y. key ≤ y) xs → v < key → has_address xs v ≡ false
none_above [] key v above less = refl
none_above (y ∷ ys) key v above less =
    let other : (v == y) ≡ false = let le = above.0 in grind (arith, nat_tests) in
    ap (λ b. b || has_address ys v) other ∙ none_above ys key v above.1 less

-- the parts of a list that rises
pub rise_first : (xs ys : List ℕ) → Rise (xs ++ ys) → Rise xs
rise_first [] ys rise = tt
rise_first (x ∷ xs) ys rise = (all_first (λ y. x < y) xs ys rise.0, rise_first xs ys rise.1)
  where
    all_first : (P : ℕ → Type 0) (xs ys : List ℕ) → AllByRecursion P (xs ++ ys) → AllByRecursion P xs
    all_first P [] ys all = tt
    all_first P (x ∷ xs) ys all = (all.0, all_first P xs ys all.1)

pub rise_second : (xs ys : List ℕ) → Rise (xs ++ ys) → Rise ys
rise_second [] ys rise = rise
rise_second (x ∷ xs) ys rise = rise_second xs ys rise.1

below_second : (xs : List ℕ) (key : ℕ) (ys : List ℕ) → Rise (xs ++ key ∷ ys) → AllByRecursion (λ y. y < key) xs
below_second [] key ys rise = tt
below_second (x ∷ xs) key ys rise = (at_key (λ y. x < y) xs key ys rise.0, below_second xs key ys rise.1)
  where
    at_key : (P : ℕ → Type 0) (xs : List ℕ) (key : ℕ) (ys : List ℕ) → AllByRecursion P (xs ++ key ∷ ys) → P key
    at_key P [] key ys all = all.0
    at_key P (x ∷ xs) key ys all = at_key P xs key ys all.1

above_key : (key : ℕ) (ys : List ℕ) → Rise (key ∷ ys) → AllByRecursion (λ y. key ≤ y) (key ∷ ys)
above_key key ys rise = (omega arith, weaker ys rise.0)
  where
    weaker : (ys : List ℕ) → AllByRecursion (λ y. key < y) ys → AllByRecursion (λ y. key ≤ y) ys
    weaker [] all = tt
    weaker (y ∷ ys) all = (let less = all.0 in omega (arith, less), weaker ys all.1)

-- numbers that increase rise
pub rise_of : (xs : List ℕ) → IsIncreasing xs → Rise xs
rise_of [] sorted = tt
rise_of (x ∷ xs) sorted = (beyond xs (λ j b at. sorted zero (suc j) x b (omega arith) refl at), rise_of xs (λ i j a b less one two. sorted (suc i) (suc j) a b (omega (arith, less)) one two))
  where
    beyond : (ys : List ℕ) → ((j b : ℕ) → slice_get ys j ≡ Some b → x < b) → AllByRecursion (λ y. x < y) ys
    beyond [] each = tt
    beyond (y ∷ ys) each = (each zero y refl, beyond ys (λ j b at. each (suc j) b at))

-- two trees under the first site of the second
module _ (xs : List ℕ) (key : ℕ) (ys : List ℕ) (rise : Rise (xs ++ key ∷ ys)) (below above : Search) (one : IsSearchOf xs below) (two : IsSearchOf (key ∷ ys) above) where
  fork_has : (v : ℕ) (b : Bool) → nat_lt v key ≡ b → (if b then finds below v else finds above v) ≡ has_address (xs ++ key ∷ ys) v
  fork_has v true less =
      let none = none_above (key ∷ ys) key v (above_key key ys (rise_second xs (key ∷ ys) rise)) (grind (arith, nat_tests)) in
      one.has v ∙ or_false (has_address xs v) ∙ ap (λ b. has_address xs v || b) (sym none) ∙ sym (list_any-append (λ x. v == x) xs (key ∷ ys))
    where
      or_false : (b : Bool) → b ≡ (b || false)
      or_false true = refl
      or_false false = refl
  fork_has v false not_less =
      let none = none_below xs key v (below_second xs key ys rise) (grind (arith, nat_tests)) in
      two.has v ∙ ap (λ b. b || has_address (key ∷ ys) v) (sym none) ∙ sym (list_any-append (λ x. v == x) xs (key ∷ ys))

  -- a tree by halves is one level deeper
  fork_shallow : 0 < length xs → length xs ≤ length (key ∷ ys) → length (key ∷ ys) ≤ length xs + 1 → (n : ℕ) → length (xs ++ key ∷ ys) ≤ 2 ^ n → 7 + max (depth below) (depth above) ≤ 7 + 7 * n
  fork_shallow some le near zero few =
      let long = length-append xs (key ∷ ys) in
      absurd (omega (arith, few, long, some, le))
  fork_shallow some le near (suc n) few =
      let long = length-append xs (key ∷ ys) in
      let double : 2 ^ suc n ≡ 2 * 2 ^ n = omega arith in
      let first = one.shallow n (omega (arith, few, long, double, le)) in
      let second = two.shallow n (omega (arith, few, long, double, near)) in
      omega (arith, first, second)

  pub fork_looks_up : key < 2 ^ 64 → 0 < length xs → length xs ≤ length (key ∷ ys) → length (key ∷ ys) ≤ length xs + 1 → IsSearchOf (xs ++ key ∷ ys) (Fork key below above)
  fork_looks_up fits some le near =
      let long = length-append xs (key ∷ ys) in
      let first = one.size some in
      let second = two.size (omega arith) in
      record {
        fits = (fits, one.fits, two.fits);
        has = λ v. fork_has v (nat_lt v key) refl;
        shallow = fork_shallow some le near;
        small = omega (arith, first, second, long);
        size = λ any. omega (arith, first, second, long);
      }
