-- Numbers and places in the bytes of a file. All numbers are little-endian.
use Rattle.std.specs.Prelude.{ℕ, ◌+◌, ◌<◌, List, length, drop, take}
use Rattle.byteorder.specs.Endian.{little_number}

-- the number in `size` bytes at an offset; a byte past the end counts as 0
unfoldable pub number_at : List ℕ → ℕ → ℕ → ℕ
number_at bytes offset size = little_number size (drop offset bytes)

-- `size` bytes from an offset on, or as many as there are
abbrev pub range_at : List ℕ → ℕ → ℕ → List ℕ
range_at bytes offset size = take size (drop offset bytes)

-- a range has a byte past the file's end; an empty range has none
abbrev pub PassesEnd : List ℕ → ℕ → ℕ → Type 0
PassesEnd bytes offset size = (0 < size) × (length bytes < offset + size)
