-- Names of symbols: where they end, and how those that are listed are told.
use Rattle.std.proofs.Common.{◌≡◌, ◌≢◌, ◌≤◌, ◌<◌, ◌↔◌, ◌⊎◌, ◌+◌, ◌-◌, ◌/◌, ◌%◌, ℕ, zero, suc, true, false, cond, List, [], ◌∷◌, ◌++◌, length, get_or, take, arith, refl, sym, ap, ◌∙◌, subst, ⊎_elim, eqb, eq-eqb, length-append}
use Rattle.elf_read.specs.ElfFile.{input_name, output_name, thread_name}
use Rattle.elf_read.specs.FileFaults.{IsListedName}
use Rattle.std.specs.Prelude.{not, ◌==◌, take_while, decimal, codes}
use Rattle.std.proofs.lemmas.Bool.{ne_eqb}
use Rattle.std.proofs.lemmas.Bool.Decides.{eqb_tells}
use Rattle.std.proofs.lemmas.List.{take_all, length-take}
use Rattle.std.proofs.lemmas.List.Sums.{take_while-cons}
use Rattle.std.proofs.lemmas.Fmt.{decimal_digit, decimal_step, length-decimal-le}

-- the bytes up to a zero
abbrev pub up_to_zero : List ℕ → List ℕ
up_to_zero xs = take_while (λ b. not (b == 0)) xs

zero_here : (x : ℕ) (xs : List ℕ) → x ≡ 0 → up_to_zero (x ∷ xs) ≡ []
zero_here x xs is = rw (eq-eqb x 0 is) refl

other_here : (x : ℕ) (xs : List ℕ) → x ≢ 0 → up_to_zero (x ∷ xs) ≡ x ∷ up_to_zero xs
other_here x xs other =
    let step : up_to_zero (x ∷ xs) ≡ cond (not (x == 0)) (x ∷ up_to_zero xs) [] = take_while-cons (λ b. not (b == 0)) x xs in
    let taken : cond (not (x == 0)) (x ∷ up_to_zero xs) [] ≡ x ∷ up_to_zero xs = rw (ne_eqb x 0 other) refl in
    step ∙ taken

-- the first zero ends them
pub ends_at_zero : (xs : List ℕ) (k : ℕ) → ((j : ℕ) → j < k → get_or xs j 0 ≢ 0) → k < length xs → get_or xs k 0 ≡ 0 → up_to_zero xs ≡ take k xs
ends_at_zero [] k before within stop = absurd (omega arith)
ends_at_zero (x ∷ xs) zero before within stop = zero_here x xs stop
ends_at_zero (x ∷ xs) (suc k) before within stop =
    other_here x xs (before 0 (omega arith)) ∙ ap (λ (ys : List ℕ). x ∷ ys) (ends_at_zero xs k (λ j low. before (suc j) (omega arith)) (omega arith) stop)

-- without a zero they are all
pub never_ends : (xs : List ℕ) → ((j : ℕ) → j < length xs → get_or xs j 0 ≢ 0) → up_to_zero xs ≡ xs
never_ends [] before = refl
never_ends (x ∷ xs) before =
    other_here x xs (before 0 (omega arith)) ∙ ap (λ (ys : List ℕ). x ∷ ys) (never_ends xs (λ j low. before (suc j) (omega arith)))

-- the decimal digits of the numbers below 16
pub two_digits : (k : ℕ) → 10 ≤ k → k < 16 → decimal k ≡ 49 ∷ (48 + (k - 10)) ∷ []
two_digits k low high =
    let tens : k / 10 ≡ 1 = omega arith in
    let ones : 48 + k % 10 ≡ 48 + (k - 10) = omega arith in
    decimal_step k low (omega arith) ∙ ap (λ (n : ℕ). decimal n ++ ((48 + k % 10) ∷ [])) tens ∙ ap (λ (ds : List ℕ). ds ++ ((48 + k % 10) ∷ [])) (decimal_digit 1 (omega arith))
    ∙ ap (λ (d : ℕ). 49 ∷ d ∷ []) ones

-- behind which offset no name begins: one more byte was looked at
pub ends_behind : (strings : List ℕ) (k : ℕ) → get_or strings k 0 ≡ 0
    → (at : ℕ) → ((j : ℕ) × (at ≤ j) × (j < k + 1) × (get_or strings j 0 ≡ 0)) ↔ (at < k + 1)
ends_behind strings k here at = (λ (found : (j : ℕ) × (at ≤ j) × (j < k + 1) × (get_or strings j 0 ≡ 0)). omega (arith, found.1, found.2), λ low. (k, omega arith, omega arith, here))

pub ends_before : (strings : List ℕ) (k end : ℕ) → get_or strings k 0 ≢ 0
    → ((at : ℕ) → ((j : ℕ) × (at ≤ j) × (j < k) × (get_or strings j 0 ≡ 0)) ↔ (at < end))
    → (at : ℕ) → ((j : ℕ) × (at ≤ j) × (j < k + 1) × (get_or strings j 0 ≡ 0)) ↔ (at < end)
ends_before strings k end other so_far at = (
  λ (found : (j : ℕ) × (at ≤ j) × (j < k + 1) × (get_or strings j 0 ≡ 0)).
      let apart : found.0 ≢ k = λ same. other (subst (λ (n : ℕ). get_or strings n 0 ≡ 0) same found.3) in
      (so_far at).0 (found.0, found.1, omega (arith, found.2), found.3),
  λ low. let found = (so_far at).1 low in (found.0, found.1, omega (arith, found.2), found.3),
)

-- the first bytes of a name
up_to_zero-take : (n : ℕ) (xs : List ℕ) → up_to_zero (take n xs) ≡ take n (up_to_zero xs)
up_to_zero-take zero xs = refl
up_to_zero-take (suc n) [] = refl
up_to_zero-take (suc n) (x ∷ xs) =
    ⊎_elim (λ (is : (eqb x 0 ≡ true) × (x ≡ 0)). zero_here x (take n xs) is.1 ∙ ap (take (suc n)) (sym (zero_here x xs is.1)))
    (λ (other : (eqb x 0 ≡ false) × (x ≢ 0)). other_here x (take n xs) other.1 ∙ ap (λ (ys : List ℕ). x ∷ ys) (up_to_zero-take n xs) ∙ ap (take (suc n)) (sym (other_here x xs other.1)))
    (eqb_tells x 0)

-- a listed name has at most 10 bytes
pub listed_short : (name : List ℕ) → IsListedName name → length name ≤ 10
listed_short name listed =
    ⊎_elim (λ (is : name ≡ input_name). rw is (omega arith))
    (λ (rest : (name ≡ output_name) ⊎ ((k : ℕ) × (k < 16) × (name ≡ thread_name k))).
    ⊎_elim (λ (is : name ≡ output_name). rw is (omega arith))
    (λ (found : (k : ℕ) × (k < 16) × (name ≡ thread_name k)).
    let digits = length-decimal-le 2 found.0 (omega arith) (omega (arith, found.1)) (omega (arith, found.1)) in
    rw found.2 (rw (length-append (codes "thread_") (decimal found.0)) (omega arith))) rest) listed

-- so it is told by its first 11
pub window_is : (xs name : List ℕ) → length name ≤ 10 → up_to_zero xs ≡ name → up_to_zero (take 11 xs) ≡ name
window_is xs name short is = up_to_zero-take 11 xs ∙ ap (take 11) is ∙ take_all 11 name (omega arith)

pub window_was : (xs name : List ℕ) → length name ≤ 10 → up_to_zero (take 11 xs) ≡ name → up_to_zero xs ≡ name
window_was xs name short is =
    let ys = up_to_zero xs in
    let taken : take 11 ys ≡ name = sym (up_to_zero-take 11 xs) ∙ is in
    let size = length-take 11 ys in
    let low : length ys ≤ 11 = omega (arith, size, ap length taken) in
    sym (take_all 11 ys low) ∙ taken
