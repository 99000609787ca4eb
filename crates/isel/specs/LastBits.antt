-- What the selector keeps of temporaries: the last bit of the bytes that an extension takes.
use Rattle.std.specs.Prelude.{◌≡◌, ℕ, nat_eq, Option, Some, None}
use Rattle.indexmap.specs.IndexMap.{IndexMap, get}
use Rattle.limm_ir.specs.Conditions.{Known, IsExtended}
use Rattle.isel.specs.Groups.{last_bit}

-- a kept bit, or bit 63 where none is
abbrev pub bit_or_63 : Option ℕ → ℕ
bit_or_63 None = 63
bit_or_63 (Some n) = n

-- the last bit that is kept of a temporary
abbrev pub kept_bit : {S : Type 0} → IndexMap ℕ ℕ S → ℕ → ℕ
kept_bit bits t = bit_or_63 (get nat_eq bits t)

-- Where a temporary is known to hold a number of bytes that an extension takes, the last bit of them is kept.
abbrev pub Remembers : {S : Type 0} → (known : ℕ → Known) → IndexMap ℕ ℕ S → Type 0
Remembers known bits = (t : ℕ) → IsExtended (known t) → kept_bit bits t ≡ last_bit (known t)
