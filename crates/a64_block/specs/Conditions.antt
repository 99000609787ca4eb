-- What the allocation of registers asks of a block over numbers, and the layout of a block over registers.
use Rattle.std.specs.Prelude.{◌≡◌, ◌≢◌, ◌⊎◌, ℕ, zero, suc, ◌<◌, ◌≤◌, ◌==◌, List, [], ◌∷◌, ◌++◌, length, map, eqb, Some, if◌then◌else◌, Contains}
use Rattle.std.specs.List.{AllByRecursion, IsDistinct}
use Rattle.a64_code.specs.declared.instr.XReg.{XReg}
use Rattle.a64_code.specs.declared.instr.A64.{A64}
use Rattle.a64_code.specs.declared.instr.A64.TheVariants.{B, BCond, Cbz, Cbnz}
use Rattle.a64_code.specs.Ranges.{IsRegister, IsEncodable}
use Rattle.a64_table.specs.Rows.{a64_result, a64_operands, ahead, IsForward}
use Rattle.a64_block.specs.Registers.{numbers}
use Rattle.a64_block.specs.Renamed.{renamed, renamed_end}
use Rattle.a64_block.specs.declared.block.AEnd.{AEnd}
use Rattle.a64_block.specs.declared.block.AEnd.TheVariants as ends

-- the registers that an end reads
abbrev pub end_operands : {R : Type 0} → AEnd R → List R
end_operands (ends.Branch r a b) = r ∷ []
end_operands (ends.Return r) = r ∷ []
end_operands (ends.Indexed r table) = r ∷ []
end_operands end = []

-- how many words a word may leave out
abbrev pub a64_skip : {R : Type 0} → A64 R → ℕ
a64_skip (B distance) = ahead distance
a64_skip (BCond code distance) = ahead distance
a64_skip (Cbz x t distance) = ahead distance
a64_skip (Cbnz x t distance) = ahead distance
a64_skip w = 0

-- no branch leads beyond the last word
abbrev pub StaysInside : {R : Type 0} → List (A64 R) → Type 0
StaysInside [] = Unit {0}
StaysInside (w ∷ ws) = (a64_skip w ≤ length ws) × StaysInside ws

-- some word sets the number
abbrev pub IsSetIn : List (A64 ℕ) → ℕ → Type 0
IsSetIn [] n = ⊥
IsSetIn (w ∷ ws) n = (a64_result numbers w ≡ Some n) ⊎ IsSetIn ws n

-- some word, or the end, has the number as an operand or as its result
abbrev pub Occurs : AEnd ℕ → List (A64 ℕ) → ℕ → Type 0
Occurs end [] n = Contains (end_operands end) n
Occurs end (w ∷ ws) n = (a64_result numbers w ≡ Some n) ⊎ (Contains (a64_operands numbers w) n ⊎ Occurs end ws n)

-- On some way on from here, behind so many words that are left out, the number is read before it is set. At the end
-- the registers and flags of x86 matter. Each branch may be taken or not.
abbrev pub IsReadFirst : AEnd ℕ → List (A64 ℕ) → (skip : ℕ) → ℕ → Type 0
IsReadFirst end [] skip n = (n < 20) ⊎ Contains (end_operands end) n
IsReadFirst end (w ∷ ws) zero n =
    Contains (a64_operands numbers w) n ⊎ ((a64_result numbers w ≢ Some n) × (IsReadFirst end ws 0 n ⊎ IsReadFirst end ws (a64_skip w) n))
IsReadFirst end (w ∷ ws) (suc skip) n = IsReadFirst end ws skip n

-- each temporary is set before it is read
abbrev pub SetsFirst : AEnd ℕ → List (A64 ℕ) → Type 0
SetsFirst end ws = (n : ℕ) → 20 < n → IsReadFirst end ws 0 n → ⊥

-- A temporary is live at a word: it is set before the word or by it, and set by it or occurs later. That a later word sets it
-- counts as a use.
abbrev pub IsLiveAt : AEnd ℕ → (before : List (A64 ℕ)) → A64 ℕ → (behind : List (A64 ℕ)) → ℕ → Type 0
IsLiveAt end before w behind n =
    (20 < n) × (IsSetIn before n ⊎ (a64_result numbers w ≡ Some n)) × ((a64_result numbers w ≡ Some n) ⊎ Occurs end behind n)

-- at each word at most so many temporaries are live
abbrev pub LiveAtMost : ℕ → AEnd ℕ → List (A64 ℕ) → Type 0
LiveAtMost most end ws = (before : List (A64 ℕ)) (w : A64 ℕ) (behind : List (A64 ℕ)) → ws ≡ before ++ w ∷ behind
    → (ns : List ℕ) → IsDistinct eqb ns → AllByRecursion (IsLiveAt end before w behind) ns → length ns ≤ most

-- some register for each number, and the zero register for the one that reads as 0
abbrev pub some_register : ℕ → XReg
some_register n = record { number = if n == 20 then 31 else 0 }

-- an end reads registers, and not the zero register
abbrev pub EndsOnRegisters : AEnd XReg → Type 0
EndsOnRegisters end = AllByRecursion IsRegister (end_operands end)

-- What the layout asks of a block: its words can be encoded, its end reads registers, and its branches go forward, within it.
pub record IsLayable (ws : List (A64 XReg)) (end : AEnd XReg) : Type 0 where
  pub encodable : AllByRecursion IsEncodable ws
  pub ends : EndsOnRegisters end
  pub forward : AllByRecursion IsForward ws
  pub inside : StaysInside ws

-- What the allocation of registers asks of a block: whatever registers its numbers get, it can be laid out; each temporary
-- is set before it is read; and at most eight are live at any word.
pub record IsAllocatable (ws : List (A64 ℕ)) (end : AEnd ℕ) : Type 0 where
  pub layable : IsLayable (map (renamed some_register) ws) (renamed_end some_register end)
  pub sets_first : SetsFirst end ws
  pub few : LiveAtMost 8 end ws
