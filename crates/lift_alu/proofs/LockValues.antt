-- What locked steps are given and write, and what becomes of the accumulator.
use Rattle.std.proofs.Common.{◌≡◌, ◌≢◌, ℕ, ◌+◌, ◌-◌, ◌/◌, ◌%◌, ◌^◌, ◌<◌, ◌≤◌, ◌==◌, Bool, true, false, refl, sym, ap, ◌∙◌, subst, arith}
use Rattle.std.specs.Prelude.{bit_and, bit_xor, if◌then◌else◌}
use Rattle.std.proofs.lemmas.Bool.Decides.{nat_tests}
use Rattle.word_arith.specs.Bits.{bit, insert}
use Rattle.word_arith.specs.Masks.{ones}
use Rattle.word_arith.proofs.CallerLemmas.{bit_below, insert-field, mod_small, not_by_xor}
use Rattle.alu_width.specs.declared.flags.Flags.{Flags}
use Rattle.alu_width.specs.Sums.{outcome, sum_outcome, difference_outcome}
use Rattle.behavior.specs.Acts.{put}
use Rattle.x64_syntax.specs.Operands.{bits}
use Rattle.x64_syntax.specs.declared.instr.AluOp.{AluOp}
use Rattle.x64_syntax.specs.declared.instr.AluOp.TheVariants as op
use Rattle.x64_syntax.specs.declared.operand.Width.{Width}
use Rattle.x64_syntax.specs.declared.operand.Width.TheVariants as width
use Rattle.x64_table.specs.State.{Thread, register, merged, set, rax}
use Rattle.x64_table.specs.Outcomes.{alu_outcome, inc_outcome, dec_outcome, not_value}
use Rattle.limm_ir.specs.Values.{rmw_value}
use Rattle.limm_ir.specs.Steps.{IrState}
use Rattle.limm_ir.specs.declared.step.IrOp.TheVariants as ops
use Rattle.limm_ir.specs.declared.step.RmwOp.TheVariants as rmw
use Rattle.lift_alu.specs.Formulas.{Kept, Register, Operation, value}
use Rattle.lift_alu.specs.Locks.{locked_op, given, accumulator}
use Rattle.lift_alu.specs.Operands.{merged_formula}
use Rattle.lift_alu.specs.Meant.{SameThread}
use Rattle.lift_alu.proofs.Computed.{IsKeptBelow}
use Rattle.lift_alu.proofs.KeptFormulas.{below_merged}
use Rattle.lift_alu.proofs.MoveValues.{value_choice}
use Rattle.lift_alu.proofs.OperandValues.{value_merged, merged_below}

-- ---- what is given

-- the number that a locked step is given, by the second value and the carry
abbrev pub number_given : AluOp → (b carry : ℕ) → ℕ
number_given op.Add b c = b
number_given op.Or b c = b
number_given op.Adc b c = (b + c) % 2 ^ 64
number_given op.Sbb b c = (0 + (2 ^ 64 - (b + c) % 2 ^ 64)) % 2 ^ 64
number_given op.And b c = bit_xor b (ones 64)
number_given op.Sub b c = (0 + (2 ^ 64 - b)) % 2 ^ 64
number_given op.Xor b c = b
number_given op.Cmp b c = b

-- it is the value of the formula
pub value_given : (o : AluOp) (j : IrState) (k b c : ℕ) → j.temps k ≡ b → j.flags 0 ≡ c → value j (given o (Kept k)) ≡ number_given o b c
value_given op.Add j k b c second carry = second
value_given op.Or j k b c second carry = second
value_given op.Adc j k b c second carry = ap (λ x. (x + j.flags 0) % 2 ^ 64) second ∙ ap (λ x. (b + x) % 2 ^ 64) carry
value_given op.Sbb j k b c second carry =
    ap (λ x. (0 + (2 ^ 64 - (x + j.flags 0) % 2 ^ 64)) % 2 ^ 64) second ∙ ap (λ x. (0 + (2 ^ 64 - (b + x) % 2 ^ 64)) % 2 ^ 64) carry
value_given op.And j k b c second carry = ap (λ x. bit_xor x (ones 64)) second
value_given op.Sub j k b c second carry = ap (λ x. (0 + (2 ^ 64 - x)) % 2 ^ 64) second
value_given op.Xor j k b c second carry = second
value_given op.Cmp j k b c second carry = second

-- and keeps the second value
pub below_given : (o : AluOp) (n k : ℕ) → k < n → IsKeptBelow n (given o (Kept k))
below_given op.Add n k lt = lt
below_given op.Or n k lt = lt
below_given op.Adc n k lt = (lt, tt)
below_given op.Sbb n k lt = (tt, (lt, tt))
below_given op.And n k lt = (lt, tt)
below_given op.Sub n k lt = (tt, lt)
below_given op.Xor n k lt = lt
below_given op.Cmp n k lt = lt

-- ---- what is written, in the low bits

-- a sum
sum_written : (w : Width) (a b : ℕ) → (a + b) % 2 ^ bits w ≡ (a + b + 0) % 2 ^ bits w % 2 ^ bits w
sum_written width.Byte a b = omega arith
sum_written width.Word a b = omega arith
sum_written width.Long a b = omega arith
sum_written width.Quad a b = omega arith

-- and with the carry
sum_written_carry : (w : Width) (a b c : ℕ) → (a + (b + c) % 2 ^ 64) % 2 ^ bits w ≡ (a + b + c) % 2 ^ bits w % 2 ^ bits w
sum_written_carry width.Byte a b c = omega arith
sum_written_carry width.Word a b c = omega arith
sum_written_carry width.Long a b c = omega arith
sum_written_carry width.Quad a b c = omega arith

-- a difference, by the sum with what is left to 2 ^ 64
difference_written : (w : Width) (a b : ℕ) → b ≤ 2 ^ bits w → (a + (0 + (2 ^ 64 - b)) % 2 ^ 64) % 2 ^ bits w ≡
    (a + (2 ^ bits w - b)) % 2 ^ bits w % 2 ^ bits w
difference_written width.Byte a b le = omega (arith, le)
difference_written width.Word a b le = omega (arith, le)
difference_written width.Long a b le = omega (arith, le)
difference_written width.Quad a b le = omega (arith, le)

-- and with the borrow
difference_written_borrow : (w : Width) (a b : ℕ) → b ≤ 2 ^ bits w
    → (a + (0 + (2 ^ 64 - b % 2 ^ 64)) % 2 ^ 64) % 2 ^ bits w ≡ (a + (2 ^ bits w - b)) % 2 ^ bits w % 2 ^ bits w
difference_written_borrow width.Byte a b le = omega (arith, le)
difference_written_borrow width.Word a b le = omega (arith, le)
difference_written_borrow width.Long a b le = omega (arith, le)
difference_written_borrow width.Quad a b le = omega (arith, le)

-- a number of a width is one of 64 bits
word_fits : (w : Width) (b : ℕ) → b < 2 ^ bits w → b < 2 ^ 64
word_fits width.Byte b fit = omega (arith, fit)
word_fits width.Word b fit = omega (arith, fit)
word_fits width.Long b fit = omega (arith, fit)
word_fits width.Quad b fit = fit

-- clearing the bits that a number does not have leaves those that it has
cleared : (w : Width) (b : ℕ) → b < 2 ^ bits w → 2 ^ 64 - 1 - bit_xor b (ones 64) ≡ b
cleared w b fit = let below = word_fits w b fit in omega (arith, not_by_xor 64 b below, below)

-- the locked step of an operation writes its result
pub written : (o : AluOp) → o ≢ op.Cmp → (w : Width) (a b : ℕ) (f : Flags) → b < 2 ^ bits w
    → rmw_value (locked_op o) a (number_given o b (bit f.cf)) % 2 ^ bits w ≡ (alu_outcome o (bits w) a b f).value % 2 ^ bits w
unfolding alu_outcome sum_outcome difference_outcome outcome
written op.Add other w a b f fit = sum_written w a b
written op.Or other w a b f fit = refl
written op.Adc other w a b f fit = sum_written_carry w a b (bit f.cf)
written op.Sbb other w a b f fit = difference_written_borrow w a (b + bit f.cf) (omega (arith, fit, bit_below f.cf))
written op.And other w a b f fit = ap (λ m. bit_and a m % 2 ^ bits w) (cleared w b fit)
written op.Sub other w a b f fit =
    let none : b + 0 ≡ b = omega arith in
    difference_written w a b (omega (arith, fit)) ∙ ap (λ m. (a + (2 ^ bits w - m)) % 2 ^ bits w % 2 ^ bits w) (sym none)
written op.Xor other w a b f fit = refl
written op.Cmp other w a b f fit = absurd (other refl)

-- that of INC, DEC and NOT
pub written_inc : (w : Width) (a : ℕ) (f : Flags) → rmw_value rmw.Add a 1 % 2 ^ bits w ≡ (inc_outcome (bits w) a f).value % 2 ^ bits w
unfolding inc_outcome sum_outcome outcome
written_inc w a f = sum_written w a 1

pub written_dec : (w : Width) (a : ℕ) (f : Flags) → rmw_value rmw.Add a (ones 64) % 2 ^ bits w ≡
    (dec_outcome (bits w) a f).value % 2 ^ bits w
unfolding dec_outcome difference_outcome outcome
written_dec width.Byte a f = omega arith
written_dec width.Word a f = omega arith
written_dec width.Long a f = omega arith
written_dec width.Quad a f = omega arith

pub written_not : (w : Width) (a : ℕ) → a < 2 ^ bits w → rmw_value rmw.Flip a (ones (bits w)) % 2 ^ bits w ≡ not_value
    (bits w) a % 2 ^ bits w
written_not w a fit = ap (λ m. m % 2 ^ bits w) (not_by_xor (bits w) a fit)

-- ---- the accumulator

-- RAX after CMPXCHG, where b says whether the accumulator was equal
abbrev pub accumulated : Width → Thread → (b : Bool) → (v : ℕ) → ℕ
accumulated w s b v = if b then s.regs 0 else merged w false (s.regs 0) v

-- one of two numbers fits
either_fits : (b : Bool) (x y most : ℕ) → x < most → y < most → (if b then x else y) < most
either_fits true x y most first second = first
either_fits false x y most first second = second

pub accumulated_below : (w : Width) (s : Thread) (b : Bool) (v : ℕ) → s.regs 0 < 2 ^ 64 → accumulated w s b v < 2 ^ 64
accumulated_below w s b v fit = either_fits b (s.regs 0) (merged w false (s.regs 0) v) (2 ^ 64) fit (merged_below w false (s.regs 0) v fit)

-- a part of RAX that is put back changes nothing, except that 32 bits clear the upper half
put_back : (w : Width) (s : Thread) → w ≢ width.Long → s.regs 0 < 2 ^ 64 → merged w false (s.regs 0) (register w rax s) ≡ s.regs 0
unfolding merged register
put_back width.Byte s other fit =
    ap (insert 0 8 (s.regs 0)) (mod_small (s.regs 0 / 2 ^ 0 % 2 ^ 8) 8 (omega arith)) ∙ insert-field 0 8 (s.regs 0)
put_back width.Word s other fit =
    ap (insert 0 16 (s.regs 0)) (mod_small (s.regs 0 / 2 ^ 0 % 2 ^ 16) 16 (omega arith)) ∙ insert-field 0 16 (s.regs 0)
put_back width.Long s other fit = absurd (other refl)
put_back width.Quad s other fit = omega (arith, fit)

-- the same number, as a test says
tested : (a b : ℕ) → (a == b) ≡ true → a ≡ b
tested a b is = grind (arith, nat_tests, is)

-- at other widths RAX is what the merge gives in both cases
merged_either : (w : Width) (s : Thread) (b : Bool) (v : ℕ) → w ≢ width.Long → s.regs 0 < 2 ^ 64 → (register w rax s == v) ≡ b
    → merged w false (s.regs 0) v ≡ accumulated w s b v
merged_either w s true v other fit is = ap (merged w false (s.regs 0)) (sym (tested (register w rax s) v is)) ∙ put_back w s other fit
merged_either w s false v other fit is = refl

-- 32 bits are merged by clearing the upper half
whole : (r v : ℕ) → v < 2 ^ 32 → v ≡ merged width.Long false r v
unfolding merged
whole r v fit = omega (arith, fit)

-- the value of the accumulator's formula
module _ (s : Thread) (j : IrState) (same : SameThread s j) (ke ko v : ℕ) (old : j.temps ko ≡ v) where
  now : j.regs 0 ≡ s.regs 0
  now = same.regs 0 (omega arith)

  -- a merge into RAX
  merged_here : (w : Width) → v < 2 ^ bits w → value j (merged_formula w false (Register 0) (Kept ko)) ≡ merged w false (s.regs 0) v
  merged_here w fit =
      value_merged j w false (Register 0) (Kept ko) (λ high. absurd cc) (subst (λ k. k < 2 ^ 64) (sym now) (same.fit 0 (omega arith)))
      (subst (λ k. k < 2 ^ bits w) (sym old) fit)
      ∙ ap (λ k. merged w false k (j.temps ko)) now ∙ ap (merged w false (s.regs 0)) old

  -- where it is merged in both cases
  by_merge : (w : Width) → w ≢ width.Long → v < 2 ^ bits w → value j (merged_formula w false (Register 0) (Kept ko)) ≡ accumulated w s
      (register w rax s == v) v
  by_merge w other fit = merged_here w fit ∙ merged_either w s (register w rax s == v) v other (same.fit 0 (omega arith)) refl

  pub value_accumulator : (w : Width) → j.temps ke ≡ register w rax s → v < 2 ^ bits w → value j
      (accumulator w (Kept ke) (Kept ko)) ≡ accumulated w s (register w rax s == v) v
  unfolding accumulator
  value_accumulator width.Byte expected fit = by_merge width.Byte (λ is. cc) fit
  value_accumulator width.Word expected fit = by_merge width.Word (λ is. cc) fit
  value_accumulator width.Quad expected fit = by_merge width.Quad (λ is. cc) fit
  value_accumulator width.Long expected fit =
      let b = register width.Long rax s == v in
      let test : value j (Operation ops.Eq (Kept ke) (Kept ko)) ≡ bit b = ap (λ k. bit (k == j.temps ko)) expected ∙ ap
      (λ k. bit (register width.Long rax s == k)) old in
      value_choice j (Operation ops.Eq (Kept ke) (Kept ko)) (Register 0) (Kept ko) b test
      ∙ ap (λ k. if b then k else j.temps ko) now ∙ ap (λ k. if b then s.regs 0 else k) (old ∙ whole (s.regs 0) v fit)

-- it keeps both
pub below_accumulator : (w : Width) (n ke ko : ℕ) → ke < n → ko < n → IsKeptBelow n (accumulator w (Kept ke) (Kept ko))
unfolding accumulator
below_accumulator width.Byte n ke ko first second = below_merged n width.Byte false (Register 0) (Kept ko) tt second
below_accumulator width.Word n ke ko first second = below_merged n width.Word false (Register 0) (Kept ko) tt second
below_accumulator width.Quad n ke ko first second = below_merged n width.Quad false (Register 0) (Kept ko) tt second
below_accumulator width.Long n ke ko first second = ((first, second), (tt, second))

-- a thread whose RAX is set to what it is, or to what is merged into it
pub same_compared : (w : Width) (s : Thread) (b : Bool) (v : ℕ) (i : IrState)
    → SameThread (record s { regs = put 0 (accumulated w s b v) s.regs }) i → SameThread (if b then s else set w rax v s) i
unfolding set
same_compared w s false v i same = same
same_compared w s true v i same = record {
  regs = λ r lt. same.regs r lt ∙ unchanged r (r == 0) refl;
  fit = λ r lt. subst (λ k. k < 2 ^ 64) (unchanged r (r == 0) refl) (same.fit r lt);
  cf = same.cf;
  zf = same.zf;
  sf = same.sf;
  of = same.of;
}
  where
    unchanged : (r : ℕ) (b : Bool) → (r == 0) ≡ b → (if b then s.regs 0 else s.regs r) ≡ s.regs r
    unchanged r true is = ap s.regs (sym (tested r 0 is))
    unchanged r false is = refl
