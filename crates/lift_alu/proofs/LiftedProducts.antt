-- The steps of MUL and IMUL do what their rows do.
use Rattle.std.proofs.Common.{◌≡◌, ◌≢◌, ℕ, ◌+◌, ◌*◌, ◌^◌, ◌<◌, ◌==◌, Bool, true, false, refl, ap, ◌∙◌, subst, arith}
use Rattle.std.specs.Prelude.{if◌then◌else◌}
use Rattle.alu_width.specs.Products.{product}
use Rattle.behavior.specs.Tree.{◌then◌}
use Rattle.behavior.specs.Acts.{Bank, put, Permission}
use Rattle.x64_syntax.specs.Formed.{IsInRegister, IsStored, IsNumber}
use Rattle.x64_syntax.specs.Operands.{bits}
use Rattle.x64_syntax.specs.declared.instr.Instr.{Instr}
use Rattle.x64_syntax.specs.declared.instr.Instr.TheVariants as instr
use Rattle.x64_syntax.specs.declared.operand.Operand.{Operand}
use Rattle.x64_syntax.specs.declared.operand.Operand.TheVariants as operand
use Rattle.x64_syntax.specs.declared.operand.Width.{Width}
use Rattle.x64_syntax.specs.declared.operand.Width.TheVariants as width
use Rattle.x64_table.specs.State.{Thread, register, merged, set, rax, rdx, with_flags}
use Rattle.x64_table.specs.Outcomes.{product_flags}
use Rattle.x64_table.specs.Rows.{imul_row, mul_row, puts_double, acts}
use Rattle.x64_table.specs.Rows as rows
use Rattle.limm_ir.specs.Steps.{IrState}
use Rattle.limm_ir.specs.declared.block.IrEnd.TheVariants as ends
use Rattle.lift_alu.specs.Formulas.{Formula, Kept, done, keeps}
use Rattle.lift_alu.specs.Operands.{clean, register_formula}
use Rattle.lift_alu.specs.Products.{cut, product_formula, high_formula, over_formula, sets_over}
use Rattle.lift_alu.specs.Lifted.{puts, puts_operand, puts_word, puts_halves, puts_product, multiplies, multiplies_into, lifts}
use Rattle.lift_alu.specs.Lifted as lifted
use Rattle.lift_alu.specs.Meant.{SameThread}
use Rattle.lift_alu.proofs.KeptFormulas.{below_clean, below_register}
use Rattle.lift_alu.proofs.ProductValues.{below_cut, below_product, below_high, below_over, product_word, value_product, low_fits}
use Rattle.lift_alu.proofs.ProductValues.{high_fits, value_low, value_high, value_over, value_word}
use Rattle.lift_alu.proofs.Rules.{Does, Holds, holds_later, later_then, keeps_does}
use Rattle.lift_alu.proofs.PairRules.{sets_over_does}
use Rattle.lift_alu.proofs.OperandRules.{IsFetched, fetched_stored, fetched_number, stored_register, low_of_fit, fetches_does, puts_does}
use Rattle.lift_alu.proofs.OperandRules.{puts_ends, ends_does}
use Rattle.lift_alu.proofs.Instructions.{low_register, Follows, Means}
use Rattle.lift_alu.proofs.MoveValues.{is_width}
use Rattle.lift_alu.proofs.OperandValues.{register_below, value_register}

-- two bytes that are put one above the other, as one word
merged_bytes : (old low high : ℕ) → low < 2 ^ 8 → high < 2 ^ 8
    → merged width.Word false old (high * 2 ^ 8 + low) ≡ merged width.Byte true (merged width.Byte false old low) high
unfolding merged
merged_bytes old low high fit fits = omega (arith, fit, fits)

-- a bank in which a register got one value, or that after another
put_twice : (k first second : ℕ) (bank : Bank) (n : ℕ) → put k second bank n ≡ put k second (put k first bank) n
put_twice k first second bank n = by (n == k)
  where
    by : (b : Bool) → (if b then second else bank n) ≡ (if b then second else (if b then first else bank n))
    by true = refl
    by false = refl

-- a thread whose AX got a word is as one whose AL and AH got its bytes
pub same_bytes : (s : Thread) (i : IrState) (low high : ℕ) → low < 2 ^ 8 → high < 2 ^ 8
    → SameThread (set width.Word rax (high * 2 ^ 8 + low) s) i
    → SameThread (puts_double width.Byte low high s) i
unfolding puts_double set
same_bytes s i low high fit fits same =
    let first = merged width.Byte false (s.regs 0) low in
    let second = merged width.Byte true first high in
    let regs = λ (n : ℕ). ap (λ v. put 0 v s.regs n) (merged_bytes (s.regs 0) low high fit fits) ∙ put_twice 0 first second s.regs n in
    record {
      regs = λ n lt. same.regs n lt ∙ regs n;
      fit = λ n lt. subst (λ v. v < 2 ^ 64) (regs n) (same.fit n lt);
      cf = same.cf;
      zf = same.zf;
      sf = same.sf;
      of = same.of;
    }

module _ (may : Permission) (table place after temps : ℕ) (fits : after < 2 ^ 64) where
  -- an instruction of this place
  abbrev Here : Instr → Type 0
  Here i = Means may table place after temps i

  -- the low half of the product of two operands gets into a register
  into_does : (w : Width) (to first second : Operand) → IsInRegister w to → IsFetched w first → IsFetched w second
      → (t : Thread) (s : IrState) → t.at ≡ after
      → SameThread t s → Does may (ends.Goto after) (imul_row may place w to first second t then Follows may table)
      (multiplies_into place after w to first second temps) s
  unfolding imul_row multiplies_into rows.puts puts_operand product_flags set
  into_does w (operand.Reg r) first second is one two t s at same =
      let end = ends.Goto after in
      let follows = Follows may table in
      let p = λ (a b : ℕ). product true (bits w) a b in
      let over = λ (a b k : Formula). over_formula true w (high_formula true w a b k) k in
      let last = λ (a b : ℕ). rows.leaves (with_flags (product_flags (p a b) t.flags) (set w r (p a b).low t)) in
      fetches_does may place after fits follows end w first t temps s (λ a. rows.fetches may place w second t (λ b. last a b))
      (λ a. lifted.fetches place after w second (λ b. keeps (product_formula true w a b)
      (λ k. sets_over (over a b k) (puts w r (clean w k) done)))) same one at
      (λ a fit ka n1 i1 same1 later1 held1.
      fetches_does may place after fits follows end w second t n1 i1 (λ b. last a b)
      (λ b. keeps (product_formula true w (Kept ka) b) (λ k. sets_over (over (Kept ka) b k) (puts w r (clean w k) done))) same1 two at
      (λ b fit' kb n2 i2 same2 later2 held2.
      let q = last a b then follows in
      let held_a = holds_later later2 held1 in
      keeps_does may end q t n2 i2 (product_formula true w (Kept ka) (Kept kb)) (product_word true (bits w) a b)
      (λ k. sets_over (over (Kept ka) (Kept kb) k) (puts w r (clean w k) done)) same2
      (below_product n2 true w (Kept ka) (Kept kb) held_a.below held2.below)
      (value_product i2 w (Kept ka) (Kept kb) a b held_a.is held2.is fit fit' true)
      (λ kp n3 i3 same3 later3 held3.
      let here_a = holds_later later3 held_a in
      let here_b = holds_later later3 held2 in
      let high = high_formula true w (Kept ka) (Kept kb) (Kept kp) in
      sets_over_does may end q t n3 i3 (over_formula true w high (Kept kp)) (p a b).over (puts w r (clean w (Kept kp)) done) same3
      (below_over n3 true w high (Kept kp) (below_high n3 true w (Kept ka) (Kept kb)
      (Kept kp) here_a.below here_b.below held3.below) held3.below)
      (value_over i3 true w high (Kept kp) a b (λ quad. value_high i3 true w (Kept ka) (Kept kb)
      (Kept kp) a b here_a.is here_b.is held3.is fit fit') held3.is fit fit')
      (λ n4 i4 same4 later4.
      let held4 = holds_later later4 held3 in
      puts_ends may place after fits table w r (with_flags (product_flags (p a b) t.flags) t) n4 i4 (clean w (Kept kp))
      (p a b).low same4 is at
      (below_clean n4 w (Kept kp) held4.below) (value_low i4 true w (Kept kp) a b held4.is)))))
  into_does w (operand.Mem r) first second is one two t s at same = absurd is
  into_does w (operand.Imm r) first second is one two t s at same = absurd is

  -- IMUL with two operands
  pub imul_two_means : (w : Width) (to from : Operand) → (w ≢ width.Byte) × (IsInRegister w to × IsStored w from)
      → Here (instr.ImulTwo w to from)
  unfolding acts lifts
  imul_two_means w to from formed f t s at same =
      into_does w to to from formed.1.0 (fetched_stored w to (stored_register w to formed.1.0))
      (fetched_stored w from formed.1.1) t s at same

  -- IMUL with three operands
  pub imul_three_means : (w : Width) (to from by : Operand) → (w ≢ width.Byte) × (IsInRegister w to × (IsStored w from × IsNumber w by))
      → Here (instr.ImulThree w to from by)
  unfolding acts lifts
  imul_three_means w to from by formed f t s at same =
      into_does w to from by formed.1.0 (fetched_stored w from formed.1.1.0) (fetched_number w by formed.1.1.1) t s at same

  -- the halves of a product of more than 8 bits get into RAX and RDX
  halves_does : (sign : Bool) (w : Width) (a b ka kb kp n : ℕ) (t : Thread) (j : IrState) → SameThread t j → t.at ≡ after → a < 2 ^ bits w
      → b < 2 ^ bits w
      → Holds n j ka a → Holds n j kb b → Holds n j kp (product_word sign (bits w) a b)
      → Does may (ends.Goto after)
      (rows.leaves (with_flags (product_flags (product sign (bits w) a b) t.flags)
      (set w rdx (product sign (bits w) a b).high (set w rax (product sign (bits w) a b).low t)))
      then Follows may table)
      (puts_halves sign w (Kept ka) (Kept kb) (Kept kp) n) j
  unfolding puts_halves product_flags set
  halves_does sign w a b ka kb kp n t j same at fit fit' first second third =
      let end = ends.Goto after in
      let p = product sign (bits w) a b in
      let flagged = with_flags (product_flags p t.flags) t in
      let q = rows.leaves (set w rdx p.high (set w rax p.low flagged)) then Follows may table in
      let low = clean w (Kept kp) in
      keeps_does may end q t n j (high_formula sign w (Kept ka) (Kept kb) (Kept kp)) p.high
      (λ high. sets_over (over_formula sign w high (Kept kp)) (puts w rax low (puts w rdx high done))) same
      (below_high n sign w (Kept ka) (Kept kb) (Kept kp) first.below second.below third.below)
      (value_high j sign w (Kept ka) (Kept kb) (Kept kp) a b first.is second.is third.is fit fit')
      (λ kh n1 i1 same1 later1 high1.
      let third1 = holds_later later1 third in
      sets_over_does may end q t n1 i1 (over_formula sign w (Kept kh) (Kept kp)) p.over (puts w rax low (puts w rdx (Kept kh) done)) same1
      (below_over n1 sign w (Kept kh) (Kept kp) high1.below third1.below)
      (value_over i1 sign w (Kept kh) (Kept kp) a b (λ quad. high1.is) third1.is fit fit')
      (λ n2 i2 same2 later2.
      let third2 = holds_later later2 third1 in
      puts_does may end q flagged n2 i2 w rax low p.low (puts w rdx (Kept kh) done) same2 (low_register w rax refl (omega arith))
      (below_clean n2 w (Kept kp) third2.below)
      (value_low i2 sign w (Kept kp) a b third2.is)
      (λ n3 i3 same3 later3.
      let high3 = holds_later (later_then later2 later3) high1 in
      puts_ends may place after fits table w rdx (set w rax p.low flagged) n3 i3 (Kept kh) p.high same3
      (low_register w rdx refl (omega arith)) at high3.below
      (high3.is ∙ low_of_fit w p.high (high_fits sign (bits w) a b (is_width w) fit fit')))))

  -- the product of two bytes gets into AX
  word_does : (sign : Bool) (a b kp n : ℕ) (t : Thread) (j : IrState) → SameThread t j → t.at ≡ after → a < 2 ^ 8 → b < 2 ^ 8
      → Holds n j kp (product_word sign 8 a b)
      → Does may (ends.Goto after) (rows.leaves (with_flags (product_flags (product sign 8 a b) t.flags)
      (puts_double width.Byte (product sign 8 a b).low (product sign 8 a b).high t)) then Follows may table)
      (puts_word sign (Kept kp) n) j
  unfolding puts_word product_flags puts_double set
  word_does sign a b kp n t j same at fit fit' third =
      let end = ends.Goto after in
      let p = product sign 8 a b in
      let flagged = with_flags (product_flags p t.flags) t in
      let left = puts_double width.Byte p.low p.high flagged in
      let q = rows.leaves left then Follows may table in
      let word = cut sign width.Word (Kept kp) in
      sets_over_does may end q t n j (over_formula sign width.Byte (Kept kp) (Kept kp)) p.over (puts width.Word rax word done) same
      (below_over n sign width.Byte (Kept kp) (Kept kp) third.below third.below)
      (value_over j sign width.Byte (Kept kp) (Kept kp) a b (λ quad. cc) third.is fit fit')
      (λ n1 i1 same1 later1.
      let third1 = holds_later later1 third in
      puts_does may end q flagged n1 i1 width.Word rax word (p.high * 2 ^ 8 + p.low) done same1
      (low_register width.Word rax refl (omega arith))
      (below_cut n1 sign width.Word (Kept kp) third1.below) (value_word i1 sign (Kept kp) a b third1.is fit fit')
      (λ n2 i2 same2 later2.
      ends_does may place after fits table left i2 at (same_bytes flagged i2 p.low p.high (low_fits sign width.Byte a b)
      (high_fits sign 8 a b (is_width width.Byte) fit fit') same2)))

  -- where the product of a width gets
  product_does : (sign : Bool) (w : Width) (a b ka kb kp n : ℕ) (t : Thread) (j : IrState) → SameThread t j → t.at ≡ after → a < 2 ^ bits w
      → b < 2 ^ bits w
      → Holds n j ka a → Holds n j kb b → Holds n j kp (product_word sign (bits w) a b)
      → Does may (ends.Goto after)
      (rows.leaves (with_flags (product_flags (product sign (bits w) a b) t.flags)
      (puts_double w (product sign (bits w) a b).low (product sign (bits w) a b).high t)) then Follows may table)
      (puts_product sign w (Kept ka) (Kept kb) (Kept kp) n) j
  unfolding puts_product puts_double
  product_does sign width.Byte a b ka kb kp n t j same at fit fit' first second third = word_does sign a b kp n t j same at fit fit' third
  product_does sign width.Word a b ka kb kp n t j same at fit fit' first second third =
      halves_does sign width.Word a b ka kb kp n t j same at fit fit' first second third
  product_does sign width.Long a b ka kb kp n t j same at fit fit' first second third =
      halves_does sign width.Long a b ka kb kp n t j same at fit fit' first second third
  product_does sign width.Quad a b ka kb kp n t j same at fit fit' first second third =
      halves_does sign width.Quad a b ka kb kp n t j same at fit fit' first second third

  -- MUL and IMUL with one operand
  one_does : (sign : Bool) (w : Width) (from : Operand) → IsStored w from → (t : Thread) (s : IrState) → t.at ≡ after → SameThread t s
      → Does may (ends.Goto after) (mul_row may place sign w from t then Follows may table) (multiplies place after sign w from temps) s
  unfolding mul_row multiplies
  one_does sign w from is t s at same =
      let end = ends.Goto after in
      let follows = Follows may table in
      let a = register w rax t in
      let low = low_register w rax refl (omega arith) in
      let p = λ (b : ℕ). product sign (bits w) a b in
      let last = λ (b : ℕ). rows.leaves (with_flags (product_flags (p b) t.flags) (puts_double w (p b).low (p b).high t)) in
      fetches_does may place after fits follows end w from t temps s (λ b. last b)
      (λ b. keeps (register_formula w rax) (λ k. keeps (product_formula sign w k b) (λ m. puts_product sign w k b m))) same
      (fetched_stored w from is) at
      (λ b fit' kb n1 i1 same1 later1 held1.
      let q = last b then follows in
      keeps_does may end q t n1 i1 (register_formula w rax) a
      (λ k. keeps (product_formula sign w k (Kept kb)) (λ m. puts_product sign w k (Kept kb) m)) same1
      (below_register n1 w rax) (value_register t i1 w rax same1 low)
      (λ ka n2 i2 same2 later2 held_a.
      let held_b = holds_later later2 held1 in
      let fit = register_below w rax t in
      keeps_does may end q t n2 i2 (product_formula sign w (Kept ka) (Kept kb)) (product_word sign (bits w) a b)
      (λ m. puts_product sign w (Kept ka) (Kept kb) m) same2
      (below_product n2 sign w (Kept ka) (Kept kb) held_a.below held_b.below)
      (value_product i2 w (Kept ka) (Kept kb) a b held_a.is held_b.is fit fit' sign)
      (λ kp n3 i3 same3 later3 held3.
      product_does sign w a b ka kb kp n3 t i3 same3 at fit fit' (holds_later later3 held_a) (holds_later later3 held_b) held3)))

  pub mul_means : (w : Width) (from : Operand) → IsStored w from → Here (instr.Mul w from)
  unfolding acts lifts
  mul_means w from is f t s at same = one_does false w from is t s at same

  pub imul_one_means : (w : Width) (from : Operand) → IsStored w from → Here (instr.ImulOne w from)
  unfolding acts lifts
  imul_one_means w from is f t s at same = one_does true w from is t s at same
