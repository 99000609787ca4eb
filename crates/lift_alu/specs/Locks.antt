-- Locked steps with their continuation, and what they are given.
use Rattle.std.specs.Prelude.{ℕ, ◌+◌, ◌∷◌, false}
use Rattle.word_arith.specs.Masks.{ones}
use Rattle.x64_syntax.specs.declared.instr.AluOp.{AluOp}
use Rattle.x64_syntax.specs.declared.instr.AluOp.TheVariants as op
use Rattle.x64_syntax.specs.declared.operand.Width.{Width}
use Rattle.x64_syntax.specs.declared.operand.Width.TheVariants as width
use Rattle.limm_ir.specs.declared.step.IrOp.TheVariants as ops
use Rattle.limm_ir.specs.declared.step.IrStep.TheVariants as steps
use Rattle.limm_ir.specs.declared.step.RmwOp.{RmwOp}
use Rattle.limm_ir.specs.declared.step.RmwOp.TheVariants as rmw
use Rattle.lift_alu.specs.Flags.{CF}
use Rattle.lift_alu.specs.Formulas.{Formula, Kept, Number, Register, Flag, Operation, Choice, Lifting, temp}
use Rattle.lift_alu.specs.Operands.{merged_formula}

-- What is at an address is changed in one locked step, and what was there is kept for what comes behind. Address and value were
-- computed before.
unfoldable pub modifies : RmwOp → (place size : ℕ) → (address v : ℕ) → (Formula → Lifting) → Lifting
modifies o at bytes address v rest next = steps.Rmw o (temp next) (temp address) (temp v) bytes at ∷ rest (Kept next) (next + 1)

-- a value takes the place of an expected one, in one locked step, and what was there is kept
unfoldable pub replaces : (place size : ℕ) → (address expected v : ℕ) → (Formula → Lifting) → Lifting
replaces at bytes address expected v rest next =
    steps.Cas (temp next) (temp address) (temp expected) (temp v) bytes at ∷ rest (Kept next) (next + 1)

-- the locked step that makes an operation's result: sums and differences add, and CMP is never locked
abbrev pub locked_op : AluOp → RmwOp
locked_op op.Add = rmw.Add
locked_op op.Or = rmw.Set
locked_op op.Adc = rmw.Add
locked_op op.Sbb = rmw.Add
locked_op op.And = rmw.Clear
locked_op op.Sub = rmw.Add
locked_op op.Xor = rmw.Flip
locked_op op.Cmp = rmw.Add

-- what it is given, by the second value b: a difference adds 0 minus what is taken, and AND clears the bits that b does not have
abbrev pub given : AluOp → (b : Formula) → Formula
given op.Add b = b
given op.Or b = b
given op.Adc b = Operation ops.Add b (Flag CF)
given op.Sbb b = Operation ops.Sub (Number 0) (Operation ops.Add b (Flag CF))
given op.And b = Operation ops.Xor b (Number (ones 64))
given op.Sub b = Operation ops.Sub (Number 0) b
given op.Xor b = b
given op.Cmp b = b

-- RAX after CMPXCHG, where `expected` was its part of the width and `old` was in memory. 32 bits keep the upper half where the two
-- are equal.
unfoldable pub accumulator : Width → (expected old : Formula) → Formula
accumulator width.Long expected old = Choice (Operation ops.Eq expected old) (Register 0) old
accumulator w expected old = merged_formula w false (Register 0) old
