-- The widths of operands in bits.
use Rattle.std.specs.Prelude.{◌≡◌, ◌⊎◌, ℕ}

-- 8, 16, 32 or 64 bits, the widths of x86-64's general operands
abbrev pub IsWidth : ℕ → Type 0
IsWidth W = (W ≡ 8) ⊎ ((W ≡ 16) ⊎ ((W ≡ 32) ⊎ (W ≡ 64)))
