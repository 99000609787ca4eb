-- The steps of DIV and IDIV do what their rows do.
use Rattle.std.proofs.Common.{◌≡◌, ◌≢◌, ℕ, ◌+◌, ◌*◌, ◌^◌, ◌<◌, ◌==◌, Bool, true, false, refl, sym, ap, ◌∙◌, subst, arith}
use Rattle.std.specs.Prelude.{Ok}
use Rattle.std.proofs.lemmas.Bool.Decides.{nat_tests}
use Rattle.ev_graph.specs.declared.events.TrapKind.TheVariants.{Divide}
use Rattle.word_arith.specs.Bits.{bit}
use Rattle.alu_width.specs.Quotients.{quotient}
use Rattle.behavior.specs.Tree.{Tree, Gives, Next, ◌then◌}
use Rattle.behavior.specs.Acts.{Permission}
use Rattle.behavior.specs.Leaving.{Left}
use Rattle.x64_syntax.specs.Formed.{IsStored}
use Rattle.x64_syntax.specs.Operands.{bits}
use Rattle.x64_syntax.specs.declared.instr.Instr.{Instr}
use Rattle.x64_syntax.specs.declared.instr.Instr.TheVariants as instr
use Rattle.x64_syntax.specs.declared.operand.Operand.{Operand}
use Rattle.x64_syntax.specs.declared.operand.Width.{Width}
use Rattle.x64_syntax.specs.declared.operand.Width.TheVariants as width
use Rattle.x64_table.specs.State.{Thread, register, set, rax, rdx, upper, with_flags}
use Rattle.x64_table.specs.Outcomes.{quotient_flags}
use Rattle.x64_table.specs.Rows.{div_row, divided, puts_double, acts}
use Rattle.x64_table.specs.Rows as rows
use Rattle.limm_ir.specs.Steps.{IrState}
use Rattle.limm_ir.specs.declared.block.IrEnd.{IrEnd}
use Rattle.limm_ir.specs.declared.block.IrEnd.TheVariants as ends
use Rattle.limm_ir.specs.declared.step.IrOp.TheVariants as ops
use Rattle.lift_alu.specs.Formulas.{Formula, Kept, Number, Operation, Lifting, done, keeps}
use Rattle.lift_alu.specs.Products.{cut, sets_pairs}
use Rattle.lift_alu.specs.Quotients.{traps_if, dividend_formula, divisor_formula, quotient_formula, range_formula, remainder_formula}
use Rattle.lift_alu.specs.Quotients.{bytes_formula, sets_zeros}
use Rattle.lift_alu.specs.Lifted.{puts, puts_bytes, puts_parts, puts_quotient, divides_by, divides, lifts}
use Rattle.lift_alu.specs.Meant.{SameThread}
use Rattle.lift_alu.proofs.MoveValues.{is_width}
use Rattle.lift_alu.proofs.OperandValues.{register_below}
use Rattle.lift_alu.proofs.ProductValues.{below_cut}
use Rattle.lift_alu.proofs.QuotientValues.{below_dividend, below_divisor, below_quotient, below_range, below_bytes, dividend_word}
use Rattle.lift_alu.proofs.QuotientValues.{divisor_word, range_word, cut_word, whole_quotient, whole_remainder}
use Rattle.lift_alu.proofs.QuotientValues.{fails_zero, fails_range, answers, dividend_fits, quotient_fits, quotient_part, remainder_part}
use Rattle.lift_alu.proofs.QuotientValues.{value_cut, value_dividend, value_divisor, value_quotient, value_range, value_remainder}
use Rattle.lift_alu.proofs.QuotientValues.{value_both}
use Rattle.lift_alu.proofs.Rules.{Does, Later, Holds, holds_later, later_then, keeps_does}
use Rattle.lift_alu.proofs.PairRules.{pairs, sets_pairs_does}
use Rattle.lift_alu.proofs.TrapRules.{traps_if_does}
use Rattle.lift_alu.proofs.OperandRules.{fetched_stored, low_of_fit, fetches_does, puts_does, puts_ends, ends_does}
use Rattle.lift_alu.proofs.LiftedProducts.{same_bytes}
use Rattle.lift_alu.proofs.Instructions.{low_register, Follows, Means}

-- a flag that is set where a number is 0
zero_flag : (v : ℕ) → bit (v == 0) ≢ 0 → v ≡ 0
zero_flag v set = by (v == 0) (λ is. grind (arith, nat_tests, is)) set
  where
    by : (b : Bool) → (b ≡ true → v ≡ 0) → bit b ≢ 0 → v ≡ 0
    by true is set = is refl
    by false is set = absurd (set refl)

-- and is not set where it is another
some_flag : (v : ℕ) → bit (v == 0) ≡ 0 → v ≢ 0
some_flag v clear = λ is. absurd (grind (arith, nat_tests, is, clear))

-- a width of at most 32 bits
narrow_width : (w : Width) → w ≢ width.Quad → bits w < 64
narrow_width width.Byte narrow = omega arith
narrow_width width.Word narrow = omega arith
narrow_width width.Long narrow = omega arith
narrow_width width.Quad narrow = absurd (narrow refl)

module _ (may : Permission) (table place after temps : ℕ) (fits : after < 2 ^ 64) where
  -- an instruction of this place
  abbrev Here : Instr → Type 0
  Here i = Means may table place after temps i

  -- all four flags are 0
  sets_zeros_does : (end : IrEnd) (q : Tree (Next (Left Thread))) (s : Thread) (next : ℕ) (i : IrState) (rest : Lifting) → SameThread s i
      → Later may end q (with_flags (pairs false false) s) next i rest → Does may end q (sets_zeros rest next) i
  unfolding sets_zeros
  sets_zeros_does end q s next i rest same go =
      keeps_does may end q s next i (Number 0) 0 (λ zero. sets_pairs zero zero rest) same tt refl
      (λ kz n1 i1 same1 later1 held.
      sets_pairs_does may end q s n1 i1 kz kz false false rest same1 held held
      (λ n2 i2 same2 later2. go n2 i2 same2 (later_then later1 later2)))

  -- both parts of an answer get where they belong, by words of which the low bits are these
  module _ (sign : Bool) (a b kq kr n : ℕ) (t : Thread) (j : IrState) (same : SameThread t j) (at : t.at ≡ after) (fit : a < 2 ^ 64)
      (fits' : b < 2 ^ 64)
      (first : Holds n j kq a) (second : Holds n j kr b) where
    -- the thread after the answer
    abbrev left : Width → Thread
    left w = with_flags (quotient_flags t.flags) (puts_double w (cut_word sign (bits w) a) (cut_word sign (bits w) b) t)

    -- in RAX and RDX
    parts_does : (w : Width) → cut_word sign (bits w) a < 2 ^ bits w → cut_word sign (bits w) b < 2 ^ bits w
        → Does may (ends.Goto after)
        (rows.leaves (with_flags (quotient_flags t.flags)
        (set w rdx (cut_word sign (bits w) b) (set w rax (cut_word sign (bits w) a) t))) then Follows may table)
        (puts_parts sign w (Kept kq) (Kept kr) n) j
    unfolding puts_parts quotient_flags set
    parts_does w low high =
        let end = ends.Goto after in
        let flagged = with_flags (quotient_flags t.flags) t in
        let x = cut_word sign (bits w) a in
        let y = cut_word sign (bits w) b in
        let q = rows.leaves (set w rdx y (set w rax x flagged)) then Follows may table in
        sets_zeros_does end q t n j (puts w rax (cut sign w (Kept kq)) (puts w rdx (cut sign w (Kept kr)) done)) same
        (λ n1 i1 same1 later1.
        let first1 = holds_later later1 first in
        puts_does may end q flagged n1 i1 w rax (cut sign w (Kept kq)) x (puts w rdx (cut sign w (Kept kr)) done) same1
        (low_register w rax refl (omega arith))
        (below_cut n1 sign w (Kept kq) first1.below) (value_cut i1 sign w (Kept kq) a first1.is fit ∙ low_of_fit w x low)
        (λ n2 i2 same2 later2.
        let second2 = holds_later (later_then later1 later2) second in
        puts_ends may place after fits table w rdx (set w rax x flagged) n2 i2 (cut sign w (Kept kr)) y same2
        (low_register w rdx refl (omega arith)) at
        (below_cut n2 sign w (Kept kr) second2.below) (value_cut i2 sign w (Kept kr) b second2.is fits' ∙ low_of_fit w y high)))

    -- in AX
    bytes_does : cut_word sign 8 a < 2 ^ 8 → cut_word sign 8 b < 2 ^ 8
        → Does may (ends.Goto after) (rows.leaves (left width.Byte) then Follows may table) (puts_bytes sign (Kept kq) (Kept kr) n) j
    unfolding puts_bytes quotient_flags puts_double set
    bytes_does low high =
        let end = ends.Goto after in
        let flagged = with_flags (quotient_flags t.flags) t in
        let x = cut_word sign 8 a in
        let y = cut_word sign 8 b in
        let last = puts_double width.Byte x y flagged in
        let q = rows.leaves last then Follows may table in
        let both = bytes_formula sign (Kept kq) (Kept kr) in
        sets_zeros_does end q t n j (puts width.Word rax both done) same
        (λ n1 i1 same1 later1.
        let first1 = holds_later later1 first in
        let second1 = holds_later later1 second in
        puts_does may end q flagged n1 i1 width.Word rax both (y * 2 ^ 8 + x) done same1 (low_register width.Word rax refl (omega arith))
        (below_bytes n1 sign (Kept kq) (Kept kr) first1.below second1.below)
        (value_both i1 sign (Kept kq) (Kept kr) a b first1.is second1.is fit fits' low high)
        (λ n2 i2 same2 later2. ends_does may place after fits table last i2 at (same_bytes flagged i2 x y low high same2)))

    -- where a width has them
    answer_does : (w : Width) → cut_word sign (bits w) a < 2 ^ bits w → cut_word sign (bits w) b < 2 ^ bits w
        → Does may (ends.Goto after) (rows.leaves (left w) then Follows may table) (puts_quotient sign w (Kept kq) (Kept kr) n) j
    unfolding puts_quotient puts_double
    answer_does width.Byte low high = bytes_does low high
    answer_does width.Word low high = parts_does width.Word low high
    answer_does width.Long low high = parts_does width.Long low high
    answer_does width.Quad low high = parts_does width.Quad low high

  -- an operand that was fetched divides the double word
  by_does : (sign : Bool) (w : Width) → w ≢ width.Quad → (by kb n : ℕ) (t : Thread) (j : IrState) → SameThread t j → t.at ≡ after
      → by < 2 ^ bits w → Holds n j kb by
      → Does may (ends.Goto after) (Gives (divided may place w
      (quotient sign (bits w) (register w (upper w) t) (register w rax t) by) t) then Follows may table) (divides_by sign w (Kept kb) n) j
  unfolding divides_by
  by_does sign w narrow by kb n t j same at fit held =
      let end = ends.Goto after in
      let follows = Follows may table in
      let W = bits w in
      let small = narrow_width w narrow in
      let high = register w (upper w) t in
      let low = register w rax t in
      let p = register_below w (upper w) t in
      let r = register_below w rax t in
      let x = dividend_word sign W high low in
      let d = divisor_word sign W by in
      let k = whole_quotient sign W high low by in
      let v = range_word sign W k in
      let q = Gives (divided may place w (quotient sign W high low by) t) then follows in
      let behind = λ (n d k : Formula). keeps (remainder_formula n d k) (λ r. puts_quotient sign w k r) in
      let ranged = λ (n d k : Formula). traps_if Divide (range_formula sign w k) (behind n d k) in
      let operands = keeps (dividend_formula sign w) (λ n. keeps (divisor_formula sign w (Kept kb))
      (λ d. keeps (quotient_formula sign n d) (λ k. ranged n d k))) in
      traps_if_does may end q t n j Divide (Operation ops.Eq (Kept kb) (Number 0)) (bit (by == 0)) operands same (held.below, tt)
      (ap (λ m. bit (m == 0)) held.is)
      (λ set. ap (λ m. Gives (divided may place w m t) then follows) (fails_zero sign W high low by (zero_flag by set)))
      (λ clear n1 i1 same1 later1.
      let some = some_flag by clear in
      let held1 = holds_later later1 held in
      keeps_does may end q t n1 i1 (dividend_formula sign w) x
      (λ n. keeps (divisor_formula sign w (Kept kb)) (λ d. keeps (quotient_formula sign n d) (λ k. ranged n d k))) same1
      (below_dividend n1 sign w) (value_dividend t i1 same1 sign w narrow)
      (λ kn n2 i2 same2 later2 held_n.
      let held2 = holds_later later2 held1 in
      keeps_does may end q t n2 i2 (divisor_formula sign w (Kept kb)) d
      (λ d. keeps (quotient_formula sign (Kept kn) d) (λ k. ranged (Kept kn) d k)) same2
      (below_divisor n2 sign w (Kept kb) held2.below) (value_divisor i2 sign w (Kept kb) by held2.is fit)
      (λ kd n3 i3 same3 later3 held_d.
      let held_n3 = holds_later later3 held_n in
      keeps_does may end q t n3 i3 (quotient_formula sign (Kept kn) (Kept kd)) k (λ k. ranged (Kept kn) (Kept kd) k) same3
      (below_quotient n3 sign (Kept kn) (Kept kd) held_n3.below held_d.below)
      (value_quotient i3 sign (Kept kn) (Kept kd) x d held_n3.is held_d.is)
      (λ kq n4 i4 same4 later4 held_q.
      let held_n4 = holds_later later4 held_n3 in
      let held_d4 = holds_later later4 held_d in
      traps_if_does may end q t n4 i4 Divide (range_formula sign w (Kept kq)) v (behind (Kept kn) (Kept kd) (Kept kq)) same4
      (below_range n4 sign w (Kept kq) held_q.below) (value_range i4 sign w (Kept kq) k small held_q.is)
      (λ beyond. ap (λ m. Gives (divided may place w m t) then follows)
      (fails_range sign W high low by (is_width w) small p r fit some beyond))
      (λ within n5 i5 same5 later5.
      let held_n5 = holds_later later5 held_n4 in
      let held_d5 = holds_later later5 held_d4 in
      let held_q5 = holds_later later5 held_q in
      let rest = whole_remainder sign W high low by in
      let answer = ap (λ m. Gives (divided may place w m t) then follows)
      (answers sign W high low by (is_width w) small p r fit some within) in
      subst (λ u. Does may end u (behind (Kept kn) (Kept kd) (Kept kq) n5) i5) (sym answer)
      (keeps_does may end (Gives (divided may place w (Ok
      (record { quotient = cut_word sign W k; remainder = cut_word sign W rest })) t) then follows) t n5 i5
      (remainder_formula (Kept kn) (Kept kd) (Kept kq)) rest (λ r. puts_quotient sign w (Kept kq) r) same5
      (held_n5.below, (held_q5.below, held_d5.below))
      (value_remainder i5 (Kept kn) (Kept kd) (Kept kq) x d k held_n5.is held_d5.is held_q5.is)
      (λ kr n6 i6 same6 later6 held_r.
      answer_does sign k rest kq kr n6 t i6 same6 at (quotient_fits sign x d (dividend_fits sign W high low (is_width w) small p r))
      (omega arith) (holds_later later6 held_q5) held_r w
      (quotient_part sign W high low by (is_width w) within) (remainder_part sign W high low by (is_width w) small p r fit some))))))))

  -- the row of a division
  divides_does : (sign : Bool) (w : Width) (from : Operand) → w ≢ width.Quad → IsStored w from → (t : Thread) (s : IrState) → t.at ≡ after
      → SameThread t s
      → Does may (ends.Goto after) (div_row may place sign w from t then Follows may table) (divides place after sign w from temps) s
  unfolding div_row divides
  divides_does sign w from narrow is t s at same =
      fetches_does may place after fits (Follows may table) (ends.Goto after) w from t temps s
      (λ d. Gives (divided may place w (quotient sign (bits w) (register w (upper w) t) (register w rax t) d) t))
      (λ by. divides_by sign w by) same (fetched_stored w from is) at
      (λ d fit kb n j same' later held. by_does sign w narrow d kb n t j same' at fit held)

  -- DIV
  pub div_means : (w : Width) (from : Operand) → (w ≢ width.Quad) × IsStored w from → Here (instr.Div w from)
  unfolding acts lifts
  div_means w from formed f t s at same = divides_does false w from formed.0 formed.1 t s at same

  -- IDIV
  pub idiv_means : (w : Width) (from : Operand) → (w ≢ width.Quad) × IsStored w from → Here (instr.Idiv w from)
  unfolding acts lifts
  idiv_means w from formed f t s at same = divides_does true w from formed.0 formed.1 t s at same
