-- Which accesses a window allows.
use Rattle.std.proofs.Common.{◌≡◌, ℕ, zero, suc, ◌+◌, ◌<◌, ◌≤◌, ◌&&◌, ◌||◌, not, Bool, true, false, Some, None, arith, refl, ap}
use Rattle.std.specs.Prelude.{if◌then◌else◌, nat_le, nat_lt}
use Rattle.std.proofs.lemmas.Bool.Decides.{nat_tests}
use Rattle.ev_graph.specs.Memory.{Allows, permits}
use Rattle.row_lines.specs.Window.{window_cell}

-- an access is inside
abbrev pub IsInside : (address size : ℕ) → Type 0
IsInside address size = (0x20000000 ≤ address) × (address + size ≤ 0x20000040)

there : (writable : Bool) (n : ℕ) → 0x20000000 ≤ n → n < 0x20000040 → window_cell writable n ≡ Some (record { byte = 0; readable = true; writable = writable })
there writable n low high = grind (arith, nat_tests)

permitted : (writable write : Bool) (n : ℕ) → (writable || not write) ≡ true → 0x20000000 ≤ n → n < 0x20000040 → permits write (window_cell writable n) ≡ true
permitted writable false n may low high = ap (permits false) (there writable n low high)
permitted true true n may low high = ap (permits true) (there true n low high)
permitted false true n may low high = absurd cc

only_there : (writable write : Bool) (n : ℕ) → permits write (window_cell writable n) ≡ true → (0x20000000 ≤ n) × (n < 0x20000040)
only_there writable write n here = in_range (by (nat_le 0x20000000 n && nat_lt n 0x20000040) write here)
  where
    by : (b write : Bool) → permits write (if b then Some (record { byte = 0; readable = true; writable = writable }) else None) ≡ true → b ≡ true
    by true write here = refl
    by false true here = absurd cc
    by false false here = absurd cc

    in_range : (nat_le 0x20000000 n && nat_lt n 0x20000040) ≡ true → (0x20000000 ≤ n) × (n < 0x20000040)
    in_range test = (grind (arith, nat_tests), grind (arith, nat_tests))

only_writable : (writable write : Bool) (n : ℕ) → permits write (window_cell writable n) ≡ true → (writable || not write) ≡ true
only_writable true write n here = refl
only_writable false false n here = refl
only_writable false true n here = absurd (by (nat_le 0x20000000 n && nat_lt n 0x20000040) here)
  where
    by : (b : Bool) → permits true (if b then Some (record { byte = 0; readable = true; writable = false }) else None) ≡ true → ⊥
    by true here = absurd cc
    by false here = absurd cc

pub allowed : (writable write : Bool) (address size : ℕ) → (writable || not write) ≡ true → IsInside address size → Allows (window_cell writable) write address size
allowed writable write address size may inside k below = permitted writable write (address + k) may (omega (arith, inside.0)) (omega (arith, inside.1, below))

pub allowed_only : (writable write : Bool) (address size : ℕ) → 0 < size → Allows (window_cell writable) write address size → ((writable || not write) ≡ true) × IsInside address size
allowed_only writable write address zero some all = absurd (omega (arith, some))
allowed_only writable write address (suc n) some all =
    let first = only_there writable write (address + 0) (all 0 some) in
    let last = only_there writable write (address + n) (all n (omega arith)) in
    (only_writable writable write (address + 0) (all 0 some), (omega (arith, first.0), omega (arith, last.1)))
