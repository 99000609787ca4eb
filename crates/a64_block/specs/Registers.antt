-- Registers as numbers, and where the machine has them.
use Rattle.std.specs.Prelude.{ℕ, ◌+◌, nat_lt, if◌then◌else◌}
use Rattle.a64_table.specs.State.{Names}

-- Registers without names are numbers: 0 to 15 are those of x86, 16 to 19 the flags CF, ZF, SF and OF, 20 reads as 0, and
-- greater ones are temporaries.
abbrev pub numbers : Names ℕ
numbers = record { number = λ n. n; zr = 20; register = λ n. n }

-- The machine's register for a number that is no temporary: Xn for register n of x86, X19 to X22 for the flags, and the zero
-- register.
abbrev pub home : ℕ → ℕ
home n = if nat_lt n 16 then n else (if nat_lt n 20 then n + 3 else 31)
