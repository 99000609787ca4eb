-- The numbers of words, and the last word that has each of them.
use Rattle.std.specs.Prelude.{◌≡◌, ◌⊎◌, ℕ, ◌<◌, ◌≤◌, List, [], ◌∷◌, length, drop, Option, Some, None, unwrap_or, Contains}
use Rattle.a64_code.specs.declared.instr.A64.{A64}
use Rattle.a64_table.specs.Rows.{a64_result, a64_operands}
use Rattle.a64_block.specs.Registers.{numbers}
use Rattle.a64_block.specs.Conditions.{Occurs}
use Rattle.a64_block.specs.declared.block.AEnd.{AEnd}
use Rattle.a64_block.specs.declared.block.AEnd.TheVariants as ends

-- at most three numbers, filled up with the one that reads as 0
abbrev pub filled : List ℕ → List ℕ
filled [] = 20 ∷ 20 ∷ 20 ∷ []
filled (a ∷ []) = a ∷ 20 ∷ 20 ∷ []
filled (a ∷ b ∷ []) = a ∷ b ∷ 20 ∷ []
filled (a ∷ b ∷ c ∷ more) = a ∷ b ∷ c ∷ []

-- the numbers of a word: its result and its operands, filled up with the one that reads as 0
abbrev pub mentioned : A64 ℕ → List ℕ
mentioned w = unwrap_or (a64_result numbers w) 20 ∷ filled (a64_operands numbers w)

-- the number that an end reads, or the one that reads as 0
abbrev pub end_operand : AEnd ℕ → ℕ
end_operand (ends.Branch r a b) = r
end_operand (ends.Return r) = r
end_operand (ends.Indexed r table) = r
end_operand end = 20

-- a place is at or before the last one
abbrev pub Reaches : Option ℕ → ℕ → Type 0
Reaches None k = ⊥
Reaches (Some last) k = k ≤ last

-- the number is a word's result or one of its operands
abbrev pub IsOf : A64 ℕ → ℕ → Type 0
IsOf w n = (a64_result numbers w ≡ Some n) ⊎ Contains (a64_operands numbers w) n

-- some word has the number as its result or as an operand
abbrev pub IsMentioned : List (A64 ℕ) → ℕ → Type 0
IsMentioned [] n = ⊥
IsMentioned (w ∷ ws) n = IsOf w n ⊎ IsMentioned ws n

-- of each temporary, the last word among these that has it
pub record AreLastIn (ws : List (A64 ℕ)) (last : ℕ → Option ℕ) : Type 0 where
  pub told : (n k : ℕ) → 20 < n → IsMentioned (drop k ws) n → Reaches (last n) k
  pub true_of : (n k : ℕ) → 20 < n → Reaches (last n) k → IsMentioned (drop k ws) n

-- Of each temporary, the last word of the block that has it; the end counts as one more word.
pub record AreLast (end : AEnd ℕ) (ws : List (A64 ℕ)) (last : ℕ → Option ℕ) : Type 0 where
  pub told : (n k : ℕ) → 20 < n → k ≤ length ws → Occurs end (drop k ws) n → Reaches (last n) k
  pub true_of : (n k : ℕ) → 20 < n → Reaches (last n) k → Occurs end (drop k ws) n
