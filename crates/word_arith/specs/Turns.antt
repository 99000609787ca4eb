-- Turns of a word, in which the bits that leave at one end come in at the other.
use Rattle.std.specs.Prelude.{ℕ, ◌+◌, ◌-◌, ◌*◌, ◌/◌, ◌%◌, ◌^◌}

-- the W bits of a turned k places towards the top, where k is at most W
abbrev pub turn_left : (W a k : ℕ) → ℕ
turn_left W a k = a * 2 ^ k % 2 ^ W + a / 2 ^ (W - k)
