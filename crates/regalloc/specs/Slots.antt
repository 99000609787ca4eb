-- Which registers numbers get: the eight registers for temporaries are slots, and each temporary has one.
use Rattle.std.specs.Prelude.{◌≡◌, ℕ, ◌+◌, ◌<◌, nat_lt, List, ◌∷◌, length, take, drop, Option, Some, unwrap_or, if◌then◌else◌}
use Rattle.a64_code.specs.declared.instr.XReg.{XReg}
use Rattle.a64_code.specs.declared.instr.A64.{A64}
use Rattle.a64_table.specs.Rows.{a64_result}
use Rattle.a64_block.specs.Registers.{numbers, home}
use Rattle.a64_block.specs.Conditions.{IsSetIn, Occurs}
use Rattle.a64_block.specs.declared.block.AEnd.{AEnd}

-- the number of the machine's register for a slot: X16, X17 and X23 to X28
abbrev pub temporary : ℕ → ℕ
temporary slot = if nat_lt slot 2 then slot + 16 else slot + 21

-- the register of a number, where temporaries have these slots
abbrev pub register_of : (slots : ℕ → Option ℕ) → ℕ → XReg
register_of slots n = record { number = if nat_lt 20 n then temporary (unwrap_or (slots n) 0) else home n }

-- each slot is one of the eight
abbrev pub AreBelow : (slots : ℕ → Option ℕ) → Type 0
AreBelow slots = (n slot : ℕ) → slots n ≡ Some slot → slot < 8

-- the word at an index
abbrev pub StandsAt : List (A64 ℕ) → ℕ → A64 ℕ → Type 0
StandsAt ws i w = drop i ws ≡ w ∷ drop (i + 1) ws

-- Where a word sets a temporary, each other one that was set before and occurs later has another slot. Words up to an index
-- are spoken of.
abbrev pub AreApart : AEnd ℕ → List (A64 ℕ) → (slots : ℕ → Option ℕ) → ℕ → Type 0
AreApart end ws slots i = (j : ℕ) (w : A64 ℕ) (r n slot : ℕ) → j < i → StandsAt ws j w → a64_result numbers w ≡ Some r → (r ≡ n → ⊥)
    → IsSetIn (take j ws) n → Occurs end (drop (j + 1) ws) n → slots r ≡ Some slot → slots n ≡ Some slot → ⊥

-- Slots for the temporaries of a block: each that is set has one of the eight, and those that meet have different ones.
pub record AreSlots (end : AEnd ℕ) (ws : List (A64 ℕ)) (slots : ℕ → Option ℕ) : Type 0 where
  pub below : AreBelow slots
  pub each : (n : ℕ) → 20 < n → IsSetIn ws n → (slot : ℕ) × (slots n ≡ Some slot)
  pub apart : AreApart end ws slots (length ws)
