-- Words that are a run of ones, or all but a run.
use Rattle.std.specs.Prelude.{ℕ, ◌+◌, ◌-◌, ◌^◌}

-- W ones
abbrev pub ones : (W : ℕ) → ℕ
ones W = 2 ^ W - 1

-- ones at the `len` bits from bit `lo` on, and zeros elsewhere
abbrev pub ones_at : (lo len : ℕ) → ℕ
ones_at lo len = 2 ^ (lo + len) - 2 ^ lo

-- W bits: zeros at the `len` bits from bit `lo` on, and ones elsewhere
abbrev pub zeros_at : (W lo len : ℕ) → ℕ
zeros_at W lo len = ones W - ones_at lo len
