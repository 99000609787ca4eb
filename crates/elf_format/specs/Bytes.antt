-- Places in the bytes of a file.
use Rattle.std.specs.Prelude.{ℕ, ◌+◌, ◌-◌, ◌*◌, ◌/◌, List, ◌++◌, length, replicate}

-- the bytes, and zeros behind them up to this length
abbrev pub padded : List ℕ → ℕ → List ℕ
padded bytes to = bytes ++ replicate (to - length bytes) 0

-- the least multiple of `unit` that is not below n
abbrev pub rounded_up : ℕ → ℕ → ℕ
rounded_up unit n = (n + (unit - 1)) / unit * unit
