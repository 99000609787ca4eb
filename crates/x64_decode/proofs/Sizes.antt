-- The size of what follows a code: at least what the bytes that are there ask for, and exactly that once they are all there.
use Rattle.std.proofs.Common.{◌≡◌, ℕ, zero, suc, ◌+◌, ◌/◌, ◌<◌, ◌≤◌, Bool, true, false, ◌&&◌, ◌==◌, if◌then◌else◌, List, [], ◌∷◌, ◌++◌, length, take, drop, get_or, refl, sym, ap, arith, take-append-drop, replicate}
use Rattle.std.proofs.lemmas.List.{length-take-le}
use Rattle.x64_decode.specs.declared.row.Front.{Front}
use Rattle.x64_decode.specs.declared.row.Row.{Row}
use Rattle.x64_decode.specs.Operands.{displacement_size, has_modrm, has_sib, immediate_size, is_memory, is_rip, lacks_base, modrm_size, operand_size, rest_size, sib_size}
use Rattle.x64_decode.specs.Spelling.{allows}

-- of four sizes by four tests, the last test's second part being false gives the least
least : (a b c d e : Bool) →
    (if a then 1 else (if b then 4 else (if c then 4 else (if d && false then 4 else 0))))
    ≤ (if a then 1 else (if b then 4 else (if c then 4 else (if d && e then 4 else 0))))
least true b c d e = omega arith
least false true c d e = omega arith
least false false true d e = omega arith
least false false false true true = omega arith
least false false false true false = omega arith
least false false false false e = omega arith

-- a SIB byte that isn't there names a base
lacks_base-zero : (m : ℕ) → lacks_base m 0 ≡ false
unfolding lacks_base
lacks_base-zero m = elim (m / 64 == 0) as (λ b. (b && false) ≡ false) [ true ↦ refl | false ↦ refl ]

-- with no SIB byte the displacement has the least size
displacement_size-least : (m s : ℕ) → displacement_size m 0 ≤ displacement_size m s
unfolding displacement_size
displacement_size-least m s =
    rw lacks_base-zero (least (m / 64 == 1) (m / 64 == 2) (is_rip m) (has_sib m) (lacks_base m s))

-- without a SIB byte it has no say
displacement_size-without_sib : (m s t : ℕ) → has_sib m ≡ false → displacement_size m s ≡ displacement_size m t
unfolding displacement_size
displacement_size-without_sib m s t none = rw none refl

-- the size of a ModRM byte that isn't there
zero_sizes : (sib_size 0 ≡ 0) × (displacement_size 0 0 ≡ 0)
unfolding sib_size displacement_size has_sib is_memory is_rip lacks_base
zero_sizes = (refl, refl)

-- of the bytes after a code the first alone, with none after it, ask for least
modrm_size-more : (rest t : List ℕ) → modrm_size rest ≤ modrm_size (rest ++ t)
unfolding modrm_size
modrm_size-more [] t =
    let none : (sib_size 0 ≡ 0) × (displacement_size 0 0 ≡ 0) = zero_sizes in
    omega arith
modrm_size-more (m ∷ []) [] = omega arith
modrm_size-more (m ∷ []) (s ∷ t) = omega (arith, displacement_size-least m s)
modrm_size-more (m ∷ s ∷ bs) t = omega arith

-- a size as a test
by_value : (b : Bool) → ◌≡◌ {A = ℕ} (if b then 1 else 0) 0 → b ≡ false
by_value true none = absurd (omega arith)
by_value false none = refl

-- a ModRM byte with no room after it has no SIB byte
no_sib : (m : ℕ) → sib_size m ≡ 0 → has_sib m ≡ false
unfolding sib_size
no_sib m none = by_value (has_sib m) none

-- bytes after those that are asked for have no say
modrm_size-whole : (rest t : List ℕ) → modrm_size rest ≤ length rest → modrm_size (rest ++ t) ≡ modrm_size rest
unfolding modrm_size
modrm_size-whole [] t h = absurd (omega arith)
modrm_size-whole (m ∷ []) t h =
    ap (λ n. 1 + sib_size m + n) (displacement_size-without_sib m (get_or t 0 0) 0 (no_sib m (omega arith)))
modrm_size-whole (m ∷ s ∷ bs) t h = refl

-- what bytes ask for grows as more come
pub rest_size-more : (f : Front) (r : Row) (rest t : List ℕ) → rest_size f r rest ≤ rest_size f r (rest ++ t)
unfolding rest_size operand_size
rest_size-more f r rest t =
    elim (has_modrm r) as (λ b. (if b then modrm_size rest else 0) + immediate_size f r ≤ (if b then modrm_size (rest ++ t) else 0) + immediate_size f r)
    [ true ↦ omega (arith, modrm_size-more rest t) | false ↦ omega arith ]

-- and no more once all that they ask for is there
pub rest_size-whole : (f : Front) (r : Row) (rest t : List ℕ) → rest_size f r rest ≤ length rest → rest_size f r (rest ++ t) ≡ rest_size f r rest
unfolding rest_size operand_size
rest_size-whole f r rest t h =
    (elim (has_modrm r) as (λ b. (if b then modrm_size rest else 0) + immediate_size f r ≤ length rest → (if b then modrm_size (rest ++ t) else 0) + immediate_size f r ≡ (if b then modrm_size rest else 0) + immediate_size f r)
    [ true ↦ λ k. ap (λ n. n + immediate_size f r) (modrm_size-whole rest t (omega arith)) | false ↦ λ k. refl ]) h

-- the bytes that are asked for ask for just themselves
pub rest_size-taken : (f : Front) (r : Row) (rest : List ℕ) → rest_size f r rest ≤ length rest →
    rest_size f r (take (rest_size f r rest) rest) ≡ rest_size f r rest
rest_size-taken f r rest h =
    let n = rest_size f r rest in
    let all : take n rest ++ drop n rest ≡ rest = take-append-drop n rest in
    let count : length (take n rest) ≡ n = length-take-le n rest h in
    let less : rest_size f r (take n rest) ≤ rest_size f r (take n rest ++ drop n rest) = rest_size-more f r (take n rest) (drop n rest) in
    let less' : rest_size f r (take n rest) ≤ rest_size f r rest = rw all at less in
    let fits : rest_size f r (take n rest) ≤ length (take n rest) = omega arith in
    let same : rest_size f r (take n rest ++ drop n rest) ≡ rest_size f r (take n rest) = rest_size-whole f r (take n rest) (drop n rest) fits in
    sym (rw all at same)

-- zeros alone are as nothing
get_or-zeros_only : (n i : ℕ) → get_or (replicate {A = ℕ} n 0) i 0 ≡ 0
get_or-zeros_only zero i = refl
get_or-zeros_only (suc n) zero = refl
get_or-zeros_only (suc n) (suc i) = get_or-zeros_only n i

-- zeros after the bytes have no say
get_or-zeros : (xs : List ℕ) (n i : ℕ) → get_or (xs ++ replicate {A = ℕ} n 0) i 0 ≡ get_or xs i 0
get_or-zeros [] n i = get_or-zeros_only n i
get_or-zeros (x ∷ xs) n zero = refl
get_or-zeros (x ∷ xs) n (suc i) = get_or-zeros xs n i

pub rest_size-zeros : (f : Front) (r : Row) (rest : List ℕ) (n : ℕ) → rest_size f r (rest ++ replicate {A = ℕ} n 0) ≡ rest_size f r rest
unfolding rest_size operand_size modrm_size
rest_size-zeros f r rest n = rw (get_or-zeros rest n 0, get_or-zeros rest n 1) refl

-- without ModRM nothing is asked of it
pub allows-without_modrm : (f : Front) (r : Row) (m n : ℕ) → has_modrm r ≡ false → allows f r m ≡ true → allows f r n ≡ true
unfolding allows
allows-without_modrm f r m n none h = rw none (rw none at h)

-- with ModRM at least a byte is asked for
pub rest_size-with_modrm : (f : Front) (r : Row) (rest : List ℕ) → has_modrm r ≡ true → 0 < rest_size f r rest
unfolding rest_size operand_size modrm_size
rest_size-with_modrm f r rest with_modrm = rw with_modrm (omega arith)
