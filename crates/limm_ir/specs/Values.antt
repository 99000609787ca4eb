-- What operations on numbers of 64 bits give; each is defined for all numbers.
use Rattle.std.specs.Prelude.{ℕ, ◌+◌, ◌-◌, ◌*◌, ◌%◌, ◌^◌, ◌==◌, bit_and, bit_or, bit_xor, nat_lt, int_lt}
use Rattle.word_arith.specs.ArmWords.{lslv, lsrv, asrv, rorv, umulh, smulh, udiv, sdiv}
use Rattle.word_arith.specs.Bits.{bit}
use Rattle.word_arith.specs.Signed.{signed, sign_extend}
use Rattle.limm_ir.specs.declared.step.IrOp.{IrOp}
use Rattle.limm_ir.specs.declared.step.IrOp.TheVariants as ops
use Rattle.limm_ir.specs.declared.step.RmwOp.{RmwOp}
use Rattle.limm_ir.specs.declared.step.RmwOp.TheVariants as rmw

-- the value of an operation; an extension's second number counts bytes
abbrev pub op_value : IrOp → ℕ → ℕ → ℕ
op_value ops.Add a b = (a + b) % 2 ^ 64
op_value ops.Sub a b = (a + (2 ^ 64 - b)) % 2 ^ 64
op_value ops.And a b = bit_and a b
op_value ops.Or a b = bit_or a b
op_value ops.Xor a b = bit_xor a b
op_value ops.Shl a b = lslv 64 a b
op_value ops.Shr a b = lsrv 64 a b
op_value ops.Sar a b = asrv 64 a b
op_value ops.Ror a b = rorv 64 a b
op_value ops.Mul a b = a * b % 2 ^ 64
op_value ops.HighU a b = umulh a b
op_value ops.HighS a b = smulh a b
op_value ops.DivU a b = udiv 64 a b
op_value ops.DivS a b = sdiv 64 a b
op_value ops.Eq a b = bit (a == b)
op_value ops.LessU a b = bit (nat_lt a b)
op_value ops.LessS a b = bit (int_lt (signed 64 a) (signed 64 b))
op_value ops.ZeroExt a b = a % 2 ^ (8 * b)
op_value ops.SignExt a b = sign_extend 64 (8 * b) (a % 2 ^ (8 * b))

-- what a locked step writes, from the old value and the given one; the low bytes are written
abbrev pub rmw_value : RmwOp → (old v : ℕ) → ℕ
rmw_value rmw.Swap old v = v
rmw_value rmw.Add old v = old + v
rmw_value rmw.Clear old v = bit_and old (2 ^ 64 - 1 - v)
rmw_value rmw.Flip old v = bit_xor old v
rmw_value rmw.Set old v = bit_or old v
