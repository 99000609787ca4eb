-- The interpreter's state as a thread.
use Rattle.std.proofs.Common.{◌≡◌, ℕ, ◌+◌, ◌%◌, ◌<◌, ◌^◌, ◌==◌, List, length, get_or, set, sym, ◌∙◌, ap, arith, w64, ℤ, pos, negsuc, ◌+ℤ◌, of_z, FitsSigned, suc, ◌-◌, ◌/◌}
use Rattle.std.proofs.lemmas.Int.{ints}
use Rattle.std.proofs.Math.Nat.{mod-add-div, add-mod-mod, mod-add-mod}
use Rattle.std.specs.Prelude.{if◌then◌else◌, slice_index}
use Rattle.std.proofs.lemmas.Bool.Decides.{nat_tests}
use Rattle.std.proofs.lemmas.List.{get_or-set_same, get_or-set_other}
use mathlib.Core.Path.{fun_ext}
use Rattle.word_arith.specs.Signed.{low_bits}
use Rattle.word_arith.proofs.CallerLemmas.{low_bits_pos, low_bits_is, low_bits_same}
use Rattle.behavior.specs.Acts.{put}

-- an element that is written, read back at any index
written_at : (regs : List ℕ) (k v n : ℕ) → k < length regs → get_or (set regs k v) n 0 ≡ (if n == k then v else get_or regs n 0)
written_at regs k v n inside = grind (arith, nat_tests, get_or-set_same, get_or-set_other)

-- a register that is written
pub registers_with : (regs : List ℕ) (k v : ℕ) → k < length regs → slice_index (set regs k v) ≡ put k v (slice_index regs)
registers_with regs k v inside = fun_ext (λ n. written_at regs k v n inside)

-- a sum with a signed offset that wraps
pub displaced_sum : (n : ℕ) (offset : ℤ) → FitsSigned w64 offset → (n + of_z w64 offset) % 2 ^ 64 ≡ low_bits 64 (pos n +ℤ offset)
displaced_sum n (pos m) fits = sym (low_bits_pos 64 (n + m))
displaced_sum n (negsuc m) fits = sym (low_bits_is 64 (pos n +ℤ negsuc m) 1 (n + (2 ^ 64 - suc m)) (omega (arith, ints, fits)))

-- the low bits of a sum with the low bits of a number
low_bits_cut : (n : ℕ) (z : ℤ) → low_bits 64 (pos (n % 2 ^ 64) +ℤ z) ≡ low_bits 64 (pos n +ℤ z)
low_bits_cut n z = low_bits_same 64 (pos (n % 2 ^ 64) +ℤ z) (pos n +ℤ z) (n / 2 ^ 64) 0 (omega (arith, ints, mod-add-div n (2 ^ 64)))

-- sums that wrap at each step are the whole sum's low bits
pub wrapped_sum : (a b c : ℕ) (offset : ℤ) → low_bits 64 (pos (((a + b % 2 ^ 64) % 2 ^ 64 + c) % 2 ^ 64) +ℤ offset) ≡ low_bits 64 (pos (a + b + c) +ℤ offset)
wrapped_sum a b c offset = ap (λ n. low_bits 64 (pos n +ℤ offset)) (wrapped a b c) ∙ low_bits_cut (a + b + c) offset
  where
    wrapped : (a b c : ℕ) → ((a + b % 2 ^ 64) % 2 ^ 64 + c) % 2 ^ 64 ≡ (a + b + c) % 2 ^ 64
    wrapped a b c = mod-add-mod (a + b % 2 ^ 64) (2 ^ 64) c ∙ omega (arith, add-mod-mod (a + c) b (2 ^ 64))
