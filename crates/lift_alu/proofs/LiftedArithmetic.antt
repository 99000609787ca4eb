-- The steps of arithmetic do what their rows do.
use Rattle.std.proofs.Common.{◌≡◌, ℕ, ◌^◌, ◌<◌, false, refl, sym, subst}
use Rattle.word_arith.specs.Bits.{bit}
use Rattle.alu_width.specs.declared.flags.Flags.{Flags}
use Rattle.alu_width.specs.declared.flags.Outcome.{Outcome}
use Rattle.behavior.specs.Tree.{Tree, Next, ◌then◌}
use Rattle.behavior.specs.Acts.{Permission}
use Rattle.behavior.specs.Leaving.{Left}
use Rattle.x64_syntax.specs.Formed.{ArePair}
use Rattle.x64_syntax.specs.Operands.{bits}
use Rattle.x64_syntax.specs.declared.instr.AluOp.{AluOp}
use Rattle.x64_syntax.specs.declared.instr.AluOp.TheVariants as op
use Rattle.x64_syntax.specs.declared.instr.Instr.{Instr}
use Rattle.x64_syntax.specs.declared.instr.Instr.TheVariants as instr
use Rattle.x64_syntax.specs.declared.operand.Operand.{Operand}
use Rattle.x64_syntax.specs.declared.operand.Width.{Width}
use Rattle.x64_table.specs.State.{Thread, with_flags}
use Rattle.x64_table.specs.Outcomes.{alu_outcome}
use Rattle.x64_table.specs.Rows.{becomes, combine_row, compare_row, alu_row, holds, leaves, acts}
use Rattle.x64_table.specs.Rows as rows
use Rattle.limm_ir.specs.Steps.{IrState}
use Rattle.limm_ir.specs.declared.block.IrEnd.{IrEnd}
use Rattle.limm_ir.specs.declared.block.IrEnd.TheVariants as ends
use Rattle.limm_ir.specs.declared.step.IrOp.TheVariants as ops
use Rattle.lift_alu.specs.Formulas.{Formula, Kept, Number, Flag, Operation, value, Lifting, done, keeps}
use Rattle.lift_alu.specs.Flags.{top, sum_overflow, difference_overflow, sets_flags}
use Rattle.lift_alu.specs.Lifted.{result, flags_of, compares, combines, lifts}
use Rattle.lift_alu.specs.Lifted as lifted
use Rattle.lift_alu.specs.Meant.{SameThread}
use Rattle.lift_alu.proofs.FlagValues.{HasFlags, overflow_of, carry_of, value_result, result_below, value_overflow, value_zero, value_sign, value_carry}
use Rattle.lift_alu.proofs.Computed.{IsKeptBelow}
use Rattle.lift_alu.proofs.KeptFormulas.{below_clean}
use Rattle.lift_alu.proofs.Rules.{IsLater, Does, Later, Holds, holds_later, keeps_does}
use Rattle.lift_alu.proofs.FlagRules.{ResultFlags, CarryFlag, sets_flags_does}
use Rattle.lift_alu.proofs.OperandRules.{fetched_stored, pair_stored, pair_fetched, fetches_does, ends_does, changes_does}
use Rattle.lift_alu.proofs.Instructions.{has_flags, Follows, Means}

-- two numbers become what they are
by_values : (P : ℕ → ℕ → Type 0) {x y a b : ℕ} → x ≡ a → y ≡ b → P x y → P a b
by_values P {x} {y} {a} {b} first second here = subst (λ k. P a k) second (subst (λ k. P k y) first here)

-- two values of a width are kept
pub record Both (w : Width) (n : ℕ) (j : IrState) (ka kb a b : ℕ) : Type 0 where
  pub first : Holds n j ka a
  pub second : Holds n j kb b
  pub fit : a < 2 ^ bits w
  pub fits : b < 2 ^ bits w

-- and still are in a later state
pub both_later : (w : Width) (n : ℕ) (j : IrState) (ka kb a b m : ℕ) (k : IrState) → IsLater n j m k → Both w n j ka kb a b → Both w m k ka kb a b
both_later w n j ka kb a b m k later both = record { first = holds_later later both.first; second = holds_later later both.second; fit = both.fit; fits = both.fits }

module _ (place after : ℕ) (o : AluOp) (w : Width) where
  -- the formulas of an operation keep the two values, and its result
  pub below_result : (n ka kb : ℕ) → ka < n → kb < n → IsKeptBelow n (result place after o w (Kept ka) (Kept kb))
  below_result n ka kb first second = by o
    where
      by : (o : AluOp) → IsKeptBelow n (result place after o w (Kept ka) (Kept kb))
      by op.Add = below_clean n w (Operation ops.Add (Kept ka) (Kept kb)) (first, second)
      by op.Or = (first, second)
      by op.Adc = below_clean n w (Operation ops.Add (Operation ops.Add (Kept ka) (Kept kb)) (Flag 0)) ((first, second), tt)
      by op.Sbb = below_clean n w (Operation ops.Sub (Operation ops.Sub (Kept ka) (Kept kb)) (Flag 0)) ((first, second), tt)
      by op.And = (first, second)
      by op.Sub = below_clean n w (Operation ops.Sub (Kept ka) (Kept kb)) (first, second)
      by op.Xor = (first, second)
      by op.Cmp = below_clean n w (Operation ops.Sub (Kept ka) (Kept kb)) (first, second)

  -- that of OF
  below_overflow : (n ka kb kr : ℕ) → ka < n → kb < n → kr < n → IsKeptBelow n (overflow_of o w (Kept ka) (Kept kb) (Kept kr))
  below_overflow n ka kb kr first second third = by o
    where
      sum : IsKeptBelow n (sum_overflow w (Kept ka) (Kept kb) (Kept kr))
      sum = (((first, third), (second, third)), tt)

      difference : IsKeptBelow n (difference_overflow w (Kept ka) (Kept kb) (Kept kr))
      difference = (((first, second), (first, third)), tt)

      by : (o : AluOp) → IsKeptBelow n (overflow_of o w (Kept ka) (Kept kb) (Kept kr))
      by op.Add = sum
      by op.Or = tt
      by op.Adc = sum
      by op.Sbb = difference
      by op.And = tt
      by op.Sub = difference
      by op.Xor = tt
      by op.Cmp = difference

  -- and of CF
  below_carry : (n ka kb kr : ℕ) → ka < n → kb < n → kr < n → IsKeptBelow n (carry_of o (Kept ka) (Kept kb) (Kept kr))
  below_carry n ka kb kr first second third = by o
    where
      by : (o : AluOp) → IsKeptBelow n (carry_of o (Kept ka) (Kept kb) (Kept kr))
      by op.Add = (third, first)
      by op.Or = tt
      by op.Adc = (((third, first), tt), (third, first))
      by op.Sbb = (((first, second), tt), (first, second))
      by op.And = tt
      by op.Sub = (first, second)
      by op.Xor = tt
      by op.Cmp = (first, second)

  -- the flags of an operation are set by its formulas
  flags_are : (a b r : Formula) → flags_of place after o w a b r ≡ sets_flags w (overflow_of o w a b r) (carry_of o a b r) r
  flags_are a b r = by o
    where
      by : (o : AluOp) → flags_of place after o w a b r ≡ sets_flags w (overflow_of o w a b r) (carry_of o a b r) r
      by op.Add = refl
      by op.Or = refl
      by op.Adc = refl
      by op.Sbb = refl
      by op.And = refl
      by op.Sub = refl
      by op.Xor = refl
      by op.Cmp = refl

  module _ (f : Flags) (ka kb a b : ℕ) where
    -- the outcome of the operation on the two values
    abbrev Leaves : Outcome
    Leaves = alu_outcome o (bits w) a b f

    -- the two values in a state, and what the operation leaves of them
    module _ (n : ℕ) (j : IrState) (both : Both w n j ka kb a b) where
      -- both values fit their width
      first_fits : j.temps ka < 2 ^ bits w
      first_fits = subst (λ k. k < 2 ^ bits w) (sym both.first.is) both.fit

      second_fits : j.temps kb < 2 ^ bits w
      second_fits = subst (λ k. k < 2 ^ bits w) (sym both.second.is) both.fits

      -- the result of the operation
      pub result_here : HasFlags f j → value j (result place after o w (Kept ka) (Kept kb)) ≡ Leaves.value
      result_here flags =
          by_values (λ x y. value j (result place after o w (Kept ka) (Kept kb)) ≡ (alu_outcome o (bits w) x y f).value) both.first.is both.second.is
          (value_result place after o w f j (Kept ka) (Kept kb) flags first_fits second_fits)

      -- the result, where it is kept, as that of the values of the state
      same_result : (kr : ℕ) → j.temps kr ≡ Leaves.value → j.temps kr ≡ (alu_outcome o (bits w) (j.temps ka) (j.temps kb) f).value
      same_result kr is = by_values (λ x y. j.temps kr ≡ (alu_outcome o (bits w) x y f).value) (sym both.first.is) (sym both.second.is) is

      -- OF of the result
      overflow_here : (kr : ℕ) → j.temps kr ≡ Leaves.value → value j (overflow_of o w (Kept ka) (Kept kb) (Kept kr)) ≡ bit Leaves.flags.of
      overflow_here kr is =
          by_values (λ x y. value j (overflow_of o w (Kept ka) (Kept kb) (Kept kr)) ≡ bit (alu_outcome o (bits w) x y f).flags.of) both.first.is both.second.is
          (value_overflow place after o w f j (Kept ka) (Kept kb) (Kept kr) first_fits second_fits (same_result kr is))

      -- ZF
      zero_here : (kr : ℕ) → j.temps kr ≡ Leaves.value → value j (Operation ops.Eq (Kept kr) (Number 0)) ≡ bit Leaves.flags.zf
      zero_here kr is =
          by_values (λ x y. value j (Operation ops.Eq (Kept kr) (Number 0)) ≡ bit (alu_outcome o (bits w) x y f).flags.zf) both.first.is both.second.is
          (value_zero place after o w f j (Kept ka) (Kept kb) (Kept kr) (same_result kr is))

      -- SF
      sign_here : (kr : ℕ) → j.temps kr ≡ Leaves.value → value j (top w (Kept kr)) ≡ bit Leaves.flags.sf
      sign_here kr is =
          by_values (λ x y. value j (top w (Kept kr)) ≡ bit (alu_outcome o (bits w) x y f).flags.sf) both.first.is both.second.is
          (value_sign place after o w f j (Kept ka) (Kept kb) (Kept kr) first_fits second_fits (same_result kr is))

      -- and CF, where it is still the one before
      carry_here : (kr : ℕ) → j.temps kr ≡ Leaves.value → j.flags 0 ≡ bit f.cf → value j (carry_of o (Kept ka) (Kept kb) (Kept kr)) ≡ bit Leaves.flags.cf
      carry_here kr is carry =
          by_values (λ x y. value j (carry_of o (Kept ka) (Kept kb) (Kept kr)) ≡ bit (alu_outcome o (bits w) x y f).flags.cf) both.first.is both.second.is
          (value_carry place after o w f j (Kept ka) (Kept kb) (Kept kr) carry first_fits second_fits (same_result kr is))

    -- the formulas of the flags in every later state
    result_flags : (n : ℕ) (j : IrState) (kr : ℕ) → Both w n j ka kb a b → Holds n j kr Leaves.value → ResultFlags n j w (overflow_of o w (Kept ka) (Kept kb) (Kept kr)) (Kept kr) Leaves.flags
    result_flags n j kr both holds = record {
      kept_overflow = below_overflow n ka kb kr both.first.below both.second.below holds.below;
      kept = holds.below;
      of = λ m k later. overflow_here m k (both_later w n j ka kb a b m k later both) kr (holds_later later holds).is;
      zf = λ m k later. zero_here m k (both_later w n j ka kb a b m k later both) kr (holds_later later holds).is;
      sf = λ m k later. sign_here m k (both_later w n j ka kb a b m k later both) kr (holds_later later holds).is;
    }

    -- and that of the carry
    carry_flag : (n : ℕ) (j : IrState) (kr : ℕ) → Both w n j ka kb a b → Holds n j kr Leaves.value → CarryFlag n j (carry_of o (Kept ka) (Kept kb) (Kept kr)) f.cf Leaves.flags.cf
    carry_flag n j kr both holds = record {
      kept = below_carry n ka kb kr both.first.below both.second.below holds.below;
      cf = λ m k later carry. carry_here m k (both_later w n j ka kb a b m k later both) kr (holds_later later holds).is carry;
    }

  -- the steps of the flags of an operation
  pub flags_does : (may : Permission) (end : IrEnd) (q : Tree (Next (Left Thread))) (s : Thread) (n : ℕ) (j : IrState) (ka kb kr a b : ℕ) (rest : Lifting) → SameThread s j → Both w n j ka kb a b
      → Holds n j kr (alu_outcome o (bits w) a b s.flags).value → Later may end q (with_flags (alu_outcome o (bits w) a b s.flags).flags s) n j rest
      → Does may end q (flags_of place after o w (Kept ka) (Kept kb) (Kept kr) rest n) j
  flags_does may end q s n j ka kb kr a b rest same both holds go =
      subst (λ g. Does may end q (g rest n) j) (sym (flags_are (Kept ka) (Kept kb) (Kept kr)))
      (sets_flags_does may end q s n j w (overflow_of o w (Kept ka) (Kept kb) (Kept kr)) (carry_of o (Kept ka) (Kept kb) (Kept kr)) (Kept kr) (alu_outcome o (bits w) a b s.flags).flags rest same
      (result_flags s.flags ka kb a b n j kr both holds) (carry_flag s.flags ka kb a b n j kr both holds) go)

module _ (may : Permission) (table place after temps : ℕ) (fits : after < 2 ^ 64) where
  -- an instruction of this place
  abbrev Here : Instr → Type 0
  Here i = Means may table place after temps i

  -- two operands are compared
  compare_does : (o : AluOp) (w : Width) (to from : Operand) → ArePair w to from → (t : Thread) (s : IrState) → t.at ≡ after → SameThread t s
      → Does may (ends.Goto after) (compare_row may place o w to from t then Follows may table) (compares place after o w to from temps) s
  unfolding compare_row compares
  compare_does o w to from pair t s at same =
      let end = ends.Goto after in
      let follows = Follows may table in
      let left = λ (a b : ℕ). with_flags (alu_outcome o (bits w) a b t.flags).flags t in
      fetches_does may place after fits follows end w to t temps s (λ a. rows.fetches may place w from t (λ b. leaves (left a b)))
      (λ a. lifted.fetches place after w from (λ b. keeps (result place after o w a b) (λ r. flags_of place after o w a b r done))) same (fetched_stored w to (pair_stored w to from pair)) at
      (λ a fit ka n1 i1 same1 later1 holds1.
      fetches_does may place after fits follows end w from t n1 i1 (λ b. leaves (left a b))
      (λ b. keeps (result place after o w (Kept ka) b) (λ r. flags_of place after o w (Kept ka) b r done)) same1 (pair_fetched w to from pair) at
      (λ b fit' kb n2 i2 same2 later2 holds2.
      let both : Both w n2 i2 ka kb a b = record { first = holds_later later2 holds1; second = holds2; fit = fit; fits = fit' } in
      let q = leaves (left a b) then follows in
      keeps_does may end q t n2 i2 (result place after o w (Kept ka) (Kept kb)) (alu_outcome o (bits w) a b t.flags).value (λ r. flags_of place after o w (Kept ka) (Kept kb) r done) same2
      (below_result place after o w n2 ka kb both.first.below both.second.below) (result_here place after o w t.flags ka kb a b n2 i2 both (has_flags t i2 same2))
      (λ kr n3 i3 same3 later3 holds3.
      flags_does place after o w may end q t n3 i3 ka kb kr a b done same3 (both_later w n2 i2 ka kb a b n3 i3 later3 both) holds3
      (λ n4 i4 same4 later4. ends_does may place after fits table (left a b) i4 at same4))))

  -- the first operand becomes the result
  combine_does : (o : AluOp) (w : Width) (to from : Operand) → ArePair w to from → (t : Thread) (s : IrState) → t.at ≡ after → SameThread t s
      → Does may (ends.Goto after) (combine_row may place o w to from false t then Follows may table) (combines place after o w to from temps) s
  unfolding combine_row combines
  combine_does o w to from pair t s at same =
      let end = ends.Goto after in
      let follows = Follows may table in
      let out = λ (a b : ℕ). alu_outcome o (bits w) a b t.flags in
      fetches_does may place after fits follows end w from t temps s (λ b. becomes may place false w to t (λ a. out a b))
      (λ b. lifted.changes place after w to (λ a. result place after o w a b) (λ a r. flags_of place after o w a b r)) same (pair_fetched w to from pair) at
      (λ b fit' kb n1 i1 same1 later1 holds1.
      changes_does may place after fits table w to t n1 i1 (λ a. result place after o w a (Kept kb)) (λ a r. flags_of place after o w a (Kept kb) r)
      (λ a. (out a b).value) (λ a. with_flags (out a b).flags t) same1 (pair_stored w to from pair) at (λ a. at)
      (λ a fit ka n2 i2 same2 later2 holds2.
      let both : Both w n2 i2 ka kb a b = record { first = holds2; second = holds_later later2 holds1; fit = fit; fits = fit' } in
      (below_result place after o w n2 ka kb both.first.below both.second.below, result_here place after o w t.flags ka kb a b n2 i2 both (has_flags t i2 same2), result_below place after o w t.flags a b fit fit'))
      (λ a fit ka kr n2 i2 q rest same2 later2 holds2 holds3 go.
      let both : Both w n2 i2 ka kb a b = record { first = holds2; second = holds_later later2 holds1; fit = fit; fits = fit' } in
      flags_does place after o w may end q t n2 i2 ka kb kr a b rest same2 both holds3 go))

  -- ADD, OR, ADC, SBB, AND, SUB, XOR and CMP
  pub alu_means : (o : AluOp) (w : Width) (to from : Operand) → ArePair w to from → Here (instr.Alu o w to from false)
  unfolding acts lifts alu_row
  alu_means op.Add w to from pair f t s at same = combine_does op.Add w to from pair t s at same
  alu_means op.Or w to from pair f t s at same = combine_does op.Or w to from pair t s at same
  alu_means op.Adc w to from pair f t s at same = combine_does op.Adc w to from pair t s at same
  alu_means op.Sbb w to from pair f t s at same = combine_does op.Sbb w to from pair t s at same
  alu_means op.And w to from pair f t s at same = combine_does op.And w to from pair t s at same
  alu_means op.Sub w to from pair f t s at same = combine_does op.Sub w to from pair t s at same
  alu_means op.Xor w to from pair f t s at same = combine_does op.Xor w to from pair t s at same
  alu_means op.Cmp w to from pair f t s at same = compare_does op.Cmp w to from pair t s at same

  -- TEST
  pub test_means : (w : Width) (to from : Operand) → ArePair w to from → Here (instr.Test w to from)
  unfolding acts lifts
  test_means w to from pair f t s at same = compare_does op.And w to from pair t s at same
