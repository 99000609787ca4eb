-- The count of a shift or a rotate.
use Rattle.std.specs.Prelude.{ℕ, ◌%◌, ◌==◌, if◌then◌else◌}

-- the count at W bits: its 6 low bits for 64-bit operands, and else its 5 low bits
abbrev pub masked : (W count : ℕ) → ℕ
masked W count = count % (if W == 64 then 64 else 32)
