-- The formulas of flags and conditions, from values of a width.
use Rattle.std.specs.Prelude.{ℕ, ◌-◌, ◌%◌, ◌==◌, if◌then◌else◌}
use Rattle.x64_syntax.specs.Operands.{bits}
use Rattle.x64_syntax.specs.declared.operand.Width.{Width}
use Rattle.limm_ir.specs.declared.step.IrOp.TheVariants as ops
use Rattle.lift_alu.specs.Formulas.{Formula, Number, Flag, Operation, Lifting, sets_flag}

-- the flags by their numbers
abbrev pub CF : ℕ
CF = 0

abbrev pub ZF : ℕ
ZF = 1

abbrev pub SF : ℕ
SF = 2

abbrev pub OF : ℕ
OF = 3

-- the highest bit of a value of the width
abbrev pub top : Width → Formula → Formula
top w e = Operation ops.Shr e (Number (bits w - 1))

-- a sum of two values is r: it overflows where both have another sign than it
abbrev pub sum_overflow : Width → (a b r : Formula) → Formula
sum_overflow w a b r = top w (Operation ops.And (Operation ops.Xor a r) (Operation ops.Xor b r))

-- a difference of two values is r: it overflows where the signs differ, and that of the first from that of r
abbrev pub difference_overflow : Width → (a b r : Formula) → Formula
difference_overflow w a b r = top w (Operation ops.And (Operation ops.Xor a b) (Operation ops.Xor a r))

-- a sum is r: it carries where r is less than a
abbrev pub sum_carry : (a r : Formula) → Formula
sum_carry a r = Operation ops.LessU r a

-- a sum with the carry is r: it also carries where r is a and there was a carry
abbrev pub sum_carry_in : (a r : Formula) → Formula
sum_carry_in a r = Operation ops.Or (Operation ops.And (Operation ops.Eq r a) (Flag CF)) (Operation ops.LessU r a)

-- a difference borrows where the first is less
abbrev pub borrow : (a b : Formula) → Formula
borrow a b = Operation ops.LessU a b

-- a difference with the borrow also borrows where both are equal and there was a borrow
abbrev pub borrow_in : (a b : Formula) → Formula
borrow_in a b = Operation ops.Or (Operation ops.And (Operation ops.Eq a b) (Flag CF)) (Operation ops.LessU a b)

-- OF, ZF and SF, of a result r
unfoldable pub sets_result : Width → (overflow r : Formula) → Lifting → Lifting
sets_result w overflow r rest = sets_flag OF overflow (sets_flag ZF (Operation ops.Eq r (Number 0)) (sets_flag SF (top w r) rest))

-- all four flags, CF last, since its formula may read it
unfoldable pub sets_flags : Width → (overflow carry r : Formula) → Lifting → Lifting
sets_flags w overflow carry r rest = sets_result w overflow r (sets_flag CF carry rest)

-- the condition of an even code
abbrev pub even_formula : (code : ℕ) → Formula
even_formula code =
    if code == 0 then Flag OF
    else (if code == 2 then Flag CF
    else (if code == 4 then Flag ZF
    else (if code == 6 then Operation ops.Or (Flag CF) (Flag ZF)
    else (if code == 8 then Flag SF
    else (if code == 12 then Operation ops.Xor (Flag SF) (Flag OF)
    else Operation ops.Or (Flag ZF) (Operation ops.Xor (Flag SF) (Flag OF)))))))

-- the condition of a code; an odd code is the opposite of the even one below it
unfoldable pub condition_formula : (code : ℕ) → Formula
condition_formula code =
    if code % 2 == 1 then Operation ops.Xor (even_formula (code - 1)) (Number 1) else even_formula code
