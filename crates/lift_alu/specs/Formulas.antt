-- Values that steps compute, as formulas, and the steps that compute them.
use Rattle.std.specs.Prelude.{ℕ, ◌+◌, ◌==◌, List, [], ◌∷◌, ◌++◌, if◌then◌else◌}
use Rattle.limm_ir.specs.Values.{op_value}
use Rattle.limm_ir.specs.Steps.{IrState}
use Rattle.limm_ir.specs.declared.step.IrOp.{IrOp}
use Rattle.limm_ir.specs.declared.step.IrStep.{IrStep}
use Rattle.limm_ir.specs.declared.step.IrStep.TheVariants as steps
use Rattle.limm_ir.specs.declared.step.Temp.{Temp}

-- A value: what a temporary holds that was set before, a number, what a register or a flag is now, an operation, or one of two
-- values by a condition.
pub data Formula : Type 0 where
  Kept : (temp : ℕ) → Formula
  Number : (n : ℕ) → Formula
  Register : (r : ℕ) → Formula
  Flag : (f : ℕ) → Formula
  Operation : IrOp → (first second : Formula) → Formula
  Choice : (condition yes no : Formula) → Formula

-- a temporary by its number
abbrev pub temp : ℕ → Temp
temp n = record { 0 = n }

-- how many temporaries the steps of a formula set
abbrev pub size : Formula → ℕ
size (Kept t) = 0
size (Number n) = 1
size (Register r) = 1
size (Flag f) = 1
size (Operation op a b) = size a + size b + 1
size (Choice c a b) = size c + size a + size b + 1

-- the temporary that holds the formula's value, where its steps set those from `next` on
abbrev pub place : (next : ℕ) → Formula → ℕ
place next (Kept t) = t
place next (Number n) = next
place next (Register r) = next
place next (Flag f) = next
place next (Operation op a b) = next + size a + size b
place next (Choice c a b) = next + size c + size a + size b

-- The steps of a formula, operands first, from the left to the right. Each sets a new temporary, from `next` on.
abbrev pub computes : (next : ℕ) → Formula → List IrStep
computes next (Kept t) = []
computes next (Number n) = steps.Const (temp next) n ∷ []
computes next (Register r) = steps.GetReg (temp next) r ∷ []
computes next (Flag f) = steps.GetFlag (temp next) f ∷ []
computes next (Operation op a b) =
    computes next a ++ (computes (next + size a) b ++ steps.Op op (temp (next + size a + size b)) (temp (place next a)) (temp (place (next + size a) b)) ∷ [])
computes next (Choice c a b) =
    computes next c ++ (computes (next + size c) a ++ (computes (next + size c + size a) b
    ++ steps.Select (temp (next + size c + size a + size b)) (temp (place next c)) (temp (place (next + size c) a)) (temp (place (next + size c + size a) b)) ∷ []))

-- the value of a formula
abbrev pub value : IrState → Formula → ℕ
value s (Kept t) = s.temps t
value s (Number n) = n
value s (Register r) = s.regs r
value s (Flag f) = s.flags f
value s (Operation op a b) = op_value op (value s a) (value s b)
value s (Choice c a b) = if value s c == 0 then value s b else value s a

-- ---- steps with their continuation

-- what is done, as the steps that do it, by the number of the next temporary
abbrev pub Lifting : Type 0
Lifting = (next : ℕ) → List IrStep

-- nothing is left to do
abbrev pub done : Lifting
done next = []

-- a value is computed and kept for what comes behind
unfoldable pub keeps : Formula → (Formula → Lifting) → Lifting
keeps e rest next = computes next e ++ rest (Kept (place next e)) (next + size e)

-- a register gets a value
unfoldable pub sets_register : (r : ℕ) → Formula → Lifting → Lifting
sets_register r e rest next = computes next e ++ steps.SetReg r (temp (place next e)) ∷ rest (next + size e)

-- a flag gets a value
unfoldable pub sets_flag : (f : ℕ) → Formula → Lifting → Lifting
sets_flag f e rest next = computes next e ++ steps.SetFlag f (temp (place next e)) ∷ rest (next + size e)

-- what is read at an address is kept for what comes behind
unfoldable pub loads : (place size : ℕ) → (address : Formula) → (Formula → Lifting) → Lifting
loads at bytes address rest next =
    computes next address
    ++ steps.Load (temp (next + size address)) (temp (place next address)) bytes at ∷ rest (Kept (next + size address)) (next + size address + 1)

-- a value is written at an address; both were computed before
unfoldable pub stores : (place size : ℕ) → (address value : ℕ) → Lifting → Lifting
stores at bytes address v rest next = steps.Store (temp address) (temp v) bytes at ∷ rest next
