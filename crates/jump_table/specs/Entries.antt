-- Tables of addresses in memory that is never written, and their entries.
use Rattle.std.specs.Prelude.{◌≡◌, ◌≤◌, ◌+◌, ◌*◌, ℕ, zero, suc, true, false, List, [], ◌∷◌, ◌++◌, Option, Some, None}
use Rattle.byteorder.specs.Endian.{little_number}
use Rattle.ev_graph.specs.Memory.{Cell, Part, cells_of, has_flag}
use Rattle.ev_graph.specs.Places.{StandsIn}

-- so many bytes from an address on lie in the part, which has the flag R and not the flag W
pub record IsFixedIn (part : Part) (address size : ℕ) : Type 0 where
  pub readable : has_flag part.flags 4 ≡ true
  pub unwritten : has_flag part.flags 2 ≡ false
  pub from : part.address ≤ address
  pub within : address + size ≤ part.address + part.size

-- they lie in one such part
abbrev pub AreFixed : List Part → (address size : ℕ) → Type 0
AreFixed parts address size = (part : Part) × StandsIn parts part × IsFixedIn part address size

-- the byte of a cell; 0 where there is none
abbrev pub byte_of : Option Cell → ℕ
byte_of None = 0
byte_of (Some cell) = cell.byte

-- the byte of memory at an address
abbrev pub byte_at : List Part → ℕ → ℕ
byte_at parts address = byte_of (cells_of parts address)

-- the bytes of memory from an address on
abbrev pub bytes_from : List Part → (address count : ℕ) → List ℕ
bytes_from parts address zero = []
bytes_from parts address (suc count) = byte_at parts address ∷ bytes_from parts (address + 1) count

-- entry k of the table at an address: the number in its eight bytes, the lowest byte first
unfoldable pub entry_at : List Part → (base k : ℕ) → ℕ
entry_at parts base k = little_number 8 (bytes_from parts (base + 8 * k) 8)

-- the first entries of the table at an address, in order
abbrev pub entries_from : List Part → (base count : ℕ) → List ℕ
entries_from parts base zero = []
entries_from parts base (suc count) = entries_from parts base count ++ entry_at parts base count ∷ []
