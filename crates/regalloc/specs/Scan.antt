-- What a scan over the words of a block knows between two of them.
use Rattle.std.specs.Prelude.{◌≡◌, ℕ, ◌<◌, ◌≤◌, List, length, take, drop, slice_index, Option, Some}
use Rattle.a64_code.specs.declared.instr.A64.{A64}
use Rattle.a64_block.specs.Conditions.{IsSetIn, Occurs}
use Rattle.a64_block.specs.declared.block.AEnd.{AEnd}
use Rattle.regalloc.specs.Slots.{AreApart}

-- some slot was used last at this word or before it
abbrev pub HasFree : (until : List ℕ) → (at : ℕ) → Type 0
HasFree until at = (slot : ℕ) × (slot < length until) × (slice_index until slot ≤ at)

-- What a scan knows in front of the word at an index: which temporaries have slots, and until which word each slot is in use.
pub record IsScanned (end : AEnd ℕ) (ws : List (A64 ℕ)) (slots : ℕ → Option ℕ) (until : List ℕ) (i : ℕ) : Type 0 where
  -- there are eight slots
  pub eight : length until ≡ 8
  -- a temporary with a slot was set
  pub kept : (n slot : ℕ) → slots n ≡ Some slot → (20 < n) × (slot < 8) × IsSetIn (take i ws) n
  -- a temporary that was set has a slot
  pub each : (n : ℕ) → 20 < n → IsSetIn (take i ws) n → (slot : ℕ) × (slots n ≡ Some slot)
  -- no temporary occurs later than its slot is in use
  pub ends : (n slot k : ℕ) → slots n ≡ Some slot → k ≤ length ws → Occurs end (drop k ws) n → k ≤ slice_index until slot
  -- a slot is in use by a temporary that occurs so late
  pub busy : (slot : ℕ) → slot < 8 → i < slice_index until slot → (n : ℕ) × (slots n ≡ Some slot) × ((k : ℕ) → k ≤ slice_index until slot → Occurs end (drop k ws) n)
  -- two that occur from here on have different slots
  pub meet : (m n slot : ℕ) → (m ≡ n → ⊥) → slots m ≡ Some slot → slots n ≡ Some slot → Occurs end (drop i ws) m → Occurs end (drop i ws) n → ⊥
  -- and words before this one set temporaries apart
  pub apart : AreApart end ws slots i
