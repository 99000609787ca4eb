-- A group has no more words than its step costs.
use Rattle.std.proofs.Common.{ℕ, ◌+◌, ◌-◌, ◌%◌, ◌^◌, ◌≤◌, ◌==◌, Bool, true, false, not, List, [], ◌∷◌, ◌++◌, length, arith, length-append}
use Rattle.std.specs.Prelude.{if◌then◌else◌, nat_le}
use Rattle.word_arith.specs.Bits.{bit}
use Rattle.limm_ir.specs.Costs.{quarter_of, quarters_not, number_cost, op_cost, step_cost, cost_of}
use Rattle.limm_ir.specs.Conditions.{Known, learn}
use Rattle.limm_ir.specs.declared.step.IrOp.{IrOp}
use Rattle.limm_ir.specs.declared.step.IrOp.TheVariants as ops
use Rattle.limm_ir.specs.declared.step.IrStep.{IrStep}
use Rattle.limm_ir.specs.declared.step.IrStep.TheVariants as steps
use Rattle.a64_code.specs.declared.instr.A64.TheVariants as words
use Rattle.isel.specs.Groups.{quarter_word, upper_words, number_words, op_words, last_bit, group_of, selected}

-- a quarter takes a word where its bits are others
quarter_few : (bits d v k : ℕ) → length (quarter_word bits d v k) ≤ bit (not (quarter_of v k == bits))
quarter_few bits d v k = by (quarter_of v k == bits)
  where
    by : (b : Bool) → length (if b then [] else words.Movk true d (quarter_of v k) k ∷ []) ≤ bit (not b)
    by true = omega arith
    by false = omega arith

-- the upper quarters take as many words as are others
upper_few : (bits d v : ℕ) → length (upper_words bits d v) ≤ quarters_not bits v
upper_few bits d v =
    omega (
      arith,
      quarter_few bits d v 1,
      quarter_few bits d v 2,
      quarter_few bits d v 3,
      length-append (quarter_word bits d v 1) (quarter_word bits d v 2 ++ quarter_word bits d v 3),
      length-append (quarter_word bits d v 2) (quarter_word bits d v 3),
    )

-- a number takes no more words than it costs
number_few : (d v : ℕ) → length (number_words d v) ≤ number_cost v
number_few d v = by (nat_le (quarters_not 0 v) (quarters_not 0xFFFF v))
  where
    by : (b : Bool) → length (if b then words.Movz true d (v % 2 ^ 16) 0 ∷ upper_words 0 d v else words.Movn true d (0xFFFF - v % 2 ^ 16) 0 ∷ upper_words 0xFFFF d v)
        ≤ 1 + (if b then quarters_not 0 v else quarters_not 0xFFFF v)
    by true = omega (arith, upper_few 0 d v)
    by false = omega (arith, upper_few 0xFFFF d v)

-- an operation takes no more words than it costs
op_few : (last : ℕ) (op : IrOp) (d a b : ℕ) → length (op_words last op d a b) ≤ op_cost op
op_few last ops.Mul d a b = omega arith
op_few last op d a b = omega arith

-- a step takes no more words than it costs
group_few : (last : ℕ → ℕ) (x : IrStep) → length (group_of last x) ≤ step_cost x
group_few last (steps.Const t v) = number_few (21 + t.0) v
group_few last (steps.Op op t a b) = op_few (last b.0) op (21 + t.0) (21 + a.0) (21 + b.0)
group_few last x = omega arith

-- the words of steps are no more than the steps cost
pub selected_few : (known : ℕ → Known) (xs : List IrStep) → length (selected known xs) ≤ cost_of step_cost xs
selected_few known [] = omega arith
selected_few known (x ∷ xs) =
    omega (arith, length-append (group_of (λ t. last_bit (known t)) x) (selected (learn x known) xs), group_few (λ t. last_bit (known t)) x, selected_few (learn x known) xs)
