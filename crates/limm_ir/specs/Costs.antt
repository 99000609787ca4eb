-- What steps cost: how many A64 words a step becomes at most, so that as many instructions are begun.
use Rattle.std.specs.Prelude.{ℕ, ◌+◌, ◌*◌, ◌/◌, ◌%◌, ◌^◌, ◌==◌, not, nat_le, if◌then◌else◌, List, [], ◌∷◌}
use Rattle.word_arith.specs.Bits.{bit}
use Rattle.limm_ir.specs.declared.step.IrOp.{IrOp}
use Rattle.limm_ir.specs.declared.step.IrOp.TheVariants.{Mul, Eq, LessU, LessS}
use Rattle.limm_ir.specs.declared.step.IrStep.{IrStep}
use Rattle.limm_ir.specs.declared.step.IrStep.TheVariants as steps

-- the 16 bits of a quarter of a number; the lowest quarter is 0
abbrev pub quarter_of : (v quarter : ℕ) → ℕ
quarter_of v quarter = v / 2 ^ (16 * quarter) % 2 ^ 16

-- how many of the three upper quarters of a number are not these 16 bits
abbrev pub quarters_not : (bits v : ℕ) → ℕ
quarters_not bits v = bit (not (quarter_of v 1 == bits)) + (bit (not (quarter_of v 2 == bits)) + bit (not (quarter_of v 3 == bits)))

-- A number takes a word for its lowest quarter, and one for each upper quarter that is not zeros, or not ones, where that is
-- fewer.
abbrev pub number_cost : (v : ℕ) → ℕ
number_cost v = 1 + (if nat_le (quarters_not 0 v) (quarters_not 0xFFFF v) then quarters_not 0 v else quarters_not 0xFFFF v)

-- an operation is one word, or two where the result of a word has to be made a number
abbrev pub op_cost : IrOp → ℕ
op_cost Mul = 2
op_cost Eq = 2
op_cost LessU = 2
op_cost LessS = 2
op_cost op = 1

-- the words of a step, at most
abbrev pub step_cost : IrStep → ℕ
step_cost (steps.Const t v) = number_cost v
step_cost (steps.Op op t a b) = op_cost op
step_cost (steps.Select t c a b) = 2
step_cost (steps.Cas t a e v size place) = 2
step_cost (steps.TrapIf t kind) = 2
step_cost x = 1

-- the fences that may stand around a step, at most
abbrev pub fence_cost : IrStep → ℕ
fence_cost (steps.Load t a size place) = 1
fence_cost (steps.Store a v size place) = 1
fence_cost (steps.Rmw op t a v size place) = 2
fence_cost (steps.Cas t a e v size place) = 2
fence_cost x = 0

-- the words of a step and of the fences around it, at most
abbrev pub fenced_cost : IrStep → ℕ
fenced_cost x = step_cost x + fence_cost x

-- where instructions are not counted
abbrev pub no_cost : IrStep → ℕ
no_cost x = 0

-- what steps cost together
abbrev pub cost_of : (cost : IrStep → ℕ) → List IrStep → ℕ
cost_of cost [] = 0
cost_of cost (x ∷ xs) = cost x + cost_of cost xs
