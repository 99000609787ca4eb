-- The steps of INC, DEC, NOT, NEG and XADD do what their rows do.
use Rattle.std.proofs.Common.{◌≡◌, ℕ, ◌+◌, ◌-◌, ◌^◌, ◌<◌, false, sym, ◌∙◌, subst, arith}
use Rattle.word_arith.specs.Masks.{ones}
use Rattle.alu_width.specs.declared.flags.Flags.{Flags}
use Rattle.alu_width.specs.declared.flags.Outcome.{Outcome}
use Rattle.alu_width.specs.Sums.{outcome, sum_outcome, difference_outcome}
use Rattle.behavior.specs.Tree.{◌then◌}
use Rattle.behavior.specs.Acts.{Permission}
use Rattle.x64_syntax.specs.Formed.{IsRegister, IsStored}
use Rattle.x64_syntax.specs.Operands.{bits}
use Rattle.x64_syntax.specs.declared.instr.AluOp.TheVariants as op
use Rattle.x64_syntax.specs.declared.instr.Instr.{Instr}
use Rattle.x64_syntax.specs.declared.instr.Instr.TheVariants as instr
use Rattle.x64_syntax.specs.declared.operand.Operand.{Operand}
use Rattle.x64_syntax.specs.declared.operand.Operand.TheVariants as operand
use Rattle.x64_syntax.specs.declared.operand.Reg.{Reg}
use Rattle.x64_syntax.specs.declared.operand.Width.{Width}
use Rattle.x64_syntax.specs.declared.operand.Width.TheVariants as width
use Rattle.x64_table.specs.State.{Thread, register, set, with_flags}
use Rattle.x64_table.specs.Outcomes.{alu_outcome, inc_outcome, dec_outcome, neg_outcome, not_value}
use Rattle.x64_table.specs.Rows.{becomes, xadd_row, holds, leaves, acts}
use Rattle.x64_table.specs.Rows as rows
use Rattle.limm_ir.specs.Steps.{IrState}
use Rattle.limm_ir.specs.declared.block.IrEnd.TheVariants as ends
use Rattle.limm_ir.specs.declared.step.IrOp.TheVariants as ops
use Rattle.lift_alu.specs.Formulas.{Formula, Kept, Number, Operation, value, done, keeps}
use Rattle.lift_alu.specs.Operands.{clean}
use Rattle.lift_alu.specs.Flags.{top, sum_overflow, difference_overflow, borrow, sets_result, sets_flags}
use Rattle.lift_alu.specs.Lifted.{puts, puts_operand, result, flags_of, adds_exchanged, lifts}
use Rattle.lift_alu.specs.Lifted as lifted
use Rattle.lift_alu.specs.Meant.{SameThread}
use Rattle.lift_alu.proofs.FlagValues.{result_below, StepsOutcome, value_inc, flags_inc, value_dec, flags_dec, value_neg, NegOutcome, flags_neg, value_not}
use Rattle.lift_alu.proofs.Computed.{IsKeptBelow}
use Rattle.lift_alu.proofs.KeptFormulas.{below_clean}
use Rattle.lift_alu.proofs.Rules.{Does, Holds, holds_later, later_same, later_then, keeps_does}
use Rattle.lift_alu.proofs.FlagRules.{ResultFlags, sets_result_does, sets_flags_does}
use Rattle.lift_alu.proofs.OperandRules.{low_of_fit, low_below, fetches_does, puts_does, puts_ends, changes_does}
use Rattle.lift_alu.proofs.Instructions.{has_flags, Follows, Means}
use Rattle.lift_alu.proofs.LiftedArithmetic.{Both, both_later, below_result, result_here, flags_does}

-- results fit their width
pub inc_below : (w : Width) (a : ℕ) (f : Flags) → (inc_outcome (bits w) a f).value < 2 ^ bits w
unfolding inc_outcome sum_outcome outcome
inc_below w a f = low_below w (a + 1 + 0)

pub dec_below : (w : Width) (a : ℕ) (f : Flags) → (dec_outcome (bits w) a f).value < 2 ^ bits w
unfolding dec_outcome difference_outcome outcome
dec_below w a f = low_below w (a + (2 ^ bits w - (1 + 0)))

neg_below : (w : Width) (a : ℕ) → (neg_outcome (bits w) a).value < 2 ^ bits w
unfolding difference_outcome outcome
neg_below w a = low_below w (0 + (2 ^ bits w - (a + 0)))

not_below : (w : Width) (a : ℕ) → not_value (bits w) a < 2 ^ bits w
not_below width.Byte a = omega arith
not_below width.Word a = omega arith
not_below width.Long a = omega arith
not_below width.Quad a = omega arith

module _ (may : Permission) (table place after temps : ℕ) (fits : after < 2 ^ 64) where
  -- an instruction of this place
  abbrev Here : Instr → Type 0
  Here i = Means may table place after temps i

  -- an operand becomes an outcome of its value
  module _ (w : Width) (to : Operand) (is : IsStored w to) (t : Thread) (s : IrState) (at : t.at ≡ after) (same : SameThread t s)
      (formula : Formula → Formula) (out : ℕ → Outcome) (below : (a : ℕ) → (out a).value < 2 ^ bits w) (kept : (n k : ℕ) → k < n → IsKeptBelow n (formula (Kept k)))
      (computes : (j : IrState) (k : ℕ) → j.temps k < 2 ^ bits w → value j (formula (Kept k)) ≡ (out (j.temps k)).value) where
    -- the value of the formula, where the operand's value is known
    pub computed_here : (a : ℕ) → a < 2 ^ bits w → (k n : ℕ) (j : IrState) → Holds n j k a → IsKeptBelow n (formula (Kept k)) ×
        (value j (formula (Kept k)) ≡ (out a).value) × ((out a).value < 2 ^ bits w)
    computed_here a fit k n j holds = (
      kept n k holds.below,
      subst (λ x. value j (formula (Kept k)) ≡ (out x).value) holds.is (computes j k (subst (λ x. x < 2 ^ bits w) (sym holds.is) fit)),
      below a,
    )

    -- INC and DEC
    module _ (overflow : Formula → Formula → Formula) (kept_overflow : (n ka kr : ℕ) → ka < n → kr < n → IsKeptBelow n (overflow (Kept ka) (Kept kr)))
        (flags : (j : IrState) (ka kr : ℕ) → j.temps ka < 2 ^ bits w → j.temps kr ≡ (out (j.temps ka)).value → StepsOutcome w t.flags j (Kept ka) (Kept kr) (overflow (Kept ka) (Kept kr)) (out (j.temps ka)).flags) where
      -- the flags, where the operand's value is known
      pub steps_here : (a : ℕ) → a < 2 ^ bits w → (ka kr n : ℕ) (j : IrState) → Holds n j ka a → Holds n j kr (out a).value
          → StepsOutcome w t.flags j (Kept ka) (Kept kr) (overflow (Kept ka) (Kept kr)) (out a).flags
      steps_here a fit ka kr n j old changed =
          subst (λ x. StepsOutcome w t.flags j (Kept ka) (Kept kr) (overflow (Kept ka) (Kept kr)) (out x).flags) old.is
          (flags j ka kr (subst (λ x. x < 2 ^ bits w) (sym old.is) fit) (subst (λ x. j.temps kr ≡ (out x).value) (sym old.is) changed.is))

      -- their formulas in every later state
      pub step_flags : (a : ℕ) → a < 2 ^ bits w → (ka kr n : ℕ) (j : IrState) → Holds n j ka a → Holds n j kr (out a).value
          → ResultFlags n j w (overflow (Kept ka) (Kept kr)) (Kept kr) (out a).flags
      step_flags a fit ka kr n j old changed = record {
        kept_overflow = kept_overflow n ka kr old.below changed.below;
        kept = changed.below;
        of = λ m k later. (steps_here a fit ka kr m k (holds_later later old) (holds_later later changed)).of;
        zf = λ m k later. (steps_here a fit ka kr m k (holds_later later old) (holds_later later changed)).zf;
        sf = λ m k later. (steps_here a fit ka kr m k (holds_later later old) (holds_later later changed)).sf;
      }

      -- the operand is read, changed and written, and the flags are set
      step_does : Does may (ends.Goto after) (becomes may place false w to t out then Follows may table)
          (lifted.changes place after w to formula (λ a r. sets_result w (overflow a r) r) temps) s
      step_does =
          changes_does may place after fits table w to t temps s formula (λ a r. sets_result w (overflow a r) r) (λ a. (out a).value) (λ a. with_flags (out a).flags t) same is at (λ a. at)
          (λ a fit k n j same' later holds. computed_here a fit k n j holds)
          (λ a fit ka kr n j q rest same' later old changed go.
          sets_result_does may (ends.Goto after) q t n j w (overflow (Kept ka) (Kept kr)) (Kept kr) (out a).flags rest same' (step_flags a fit ka kr n j old changed) (steps_here a fit ka kr n j old changed).cf go)

  -- INC
  pub inc_means : (w : Width) (to : Operand) → IsStored w to → Here (instr.Inc w to false)
  unfolding acts lifts
  inc_means w to is f t s at same =
      step_does w to is t s at same (λ a. clean w (Operation ops.Add a (Number 1))) (λ a. inc_outcome (bits w) a t.flags) (λ a. inc_below w a t.flags)
      (λ n k lt. below_clean n w (Operation ops.Add (Kept k) (Number 1)) (lt, tt)) (λ j k fit. value_inc w t.flags j (Kept k) fit)
      (λ a r. sum_overflow w a (Number 1) r) (λ n ka kr first second. (((first, second), (tt, second)), tt)) (λ j ka kr fit result. flags_inc w t.flags j (Kept ka) (Kept kr) fit result)

  -- DEC
  pub dec_means : (w : Width) (to : Operand) → IsStored w to → Here (instr.Dec w to false)
  unfolding acts lifts
  dec_means w to is f t s at same =
      step_does w to is t s at same (λ a. clean w (Operation ops.Sub a (Number 1))) (λ a. dec_outcome (bits w) a t.flags) (λ a. dec_below w a t.flags)
      (λ n k lt. below_clean n w (Operation ops.Sub (Kept k) (Number 1)) (lt, tt)) (λ j k fit. value_dec w t.flags j (Kept k) fit)
      (λ a r. difference_overflow w a (Number 1) r) (λ n ka kr first second. (((first, tt), (first, second)), tt)) (λ j ka kr fit result. flags_dec w t.flags j (Kept ka) (Kept kr) fit result)

  -- the flags of NEG, where the operand's value is known
  neg_here : (w : Width) (a : ℕ) → a < 2 ^ bits w → (ka kr n : ℕ) (j : IrState) → Holds n j ka a → Holds n j kr (neg_outcome (bits w) a).value → NegOutcome w j (Kept ka) (Kept kr) (neg_outcome (bits w) a).flags
  neg_here w a fit ka kr n j old changed =
      subst (λ x. NegOutcome w j (Kept ka) (Kept kr) (neg_outcome (bits w) x).flags) old.is
      (flags_neg w j (Kept ka) (Kept kr) (subst (λ x. x < 2 ^ bits w) (sym old.is) fit) (subst (λ x. j.temps kr ≡ (neg_outcome (bits w) x).value) (sym old.is) changed.is))

  -- and their formulas in every later state
  neg_flags : (w : Width) (a : ℕ) → a < 2 ^ bits w → (ka kr n : ℕ) (j : IrState) → Holds n j ka a → Holds n j kr (neg_outcome (bits w) a).value
      → ResultFlags n j w (top w (Operation ops.And (Kept ka) (Kept kr))) (Kept kr) (neg_outcome (bits w) a).flags
  neg_flags w a fit ka kr n j old changed = record {
    kept_overflow = ((old.below, changed.below), tt);
    kept = changed.below;
    of = λ m k later. (neg_here w a fit ka kr m k (holds_later later old) (holds_later later changed)).of;
    zf = λ m k later. (neg_here w a fit ka kr m k (holds_later later old) (holds_later later changed)).zf;
    sf = λ m k later. (neg_here w a fit ka kr m k (holds_later later old) (holds_later later changed)).sf;
  }

  -- NEG
  pub neg_means : (w : Width) (to : Operand) → IsStored w to → Here (instr.Neg w to)
  unfolding acts lifts
  neg_means w to is f t s at same =
      let out = λ (a : ℕ). neg_outcome (bits w) a in
      let negated = λ (a : Formula). clean w (Operation ops.Sub (Number 0) a) in
      changes_does may place after fits table w to t temps s negated (λ a r. sets_flags w (top w (Operation ops.And a r)) (borrow (Number 0) a) r)
      (λ a. (out a).value) (λ a. with_flags (out a).flags t) same is at (λ a. at)
      (λ a fit k n j same' later holds.
      computed_here w to is t s at same negated out (λ a. neg_below w a) (λ n k lt. below_clean n w (Operation ops.Sub (Number 0) (Kept k)) (tt, lt)) (λ j k fit. value_neg w j (Kept k) fit) a fit k n j holds)
      (λ a fit ka kr n j q rest same' later old changed go.
      sets_flags_does may (ends.Goto after) q t n j w (top w (Operation ops.And (Kept ka) (Kept kr))) (borrow (Number 0) (Kept ka)) (Kept kr) (out a).flags rest same' (neg_flags w a fit ka kr n j old changed)
      (record { kept = (tt, old.below); cf = λ m k later carry. (neg_here w a fit ka kr m k (holds_later later old) (holds_later later changed)).cf }) go)

  -- NOT
  pub not_means : (w : Width) (to : Operand) → IsStored w to → Here (instr.Not w to false)
  unfolding acts lifts
  not_means w to is f t s at same =
      changes_does may place after fits table w to t temps s (λ a. Operation ops.Xor a (Number (ones (bits w)))) (λ a r rest. rest) (not_value (bits w)) (λ a. t) same is at (λ a. at)
      (λ a fit k n j same' later holds. (
        (holds.below, tt),
        subst (λ x. value j (Operation ops.Xor (Kept k) (Number (ones (bits w)))) ≡ not_value (bits w) x) holds.is (value_not w j (Kept k) (subst (λ x. x < 2 ^ bits w) (sym holds.is) fit)),
        not_below w a,
      ))
      (λ a fit ka kr n j q rest same' later old changed go. go n j same' (later_same n j))

  -- XADD of two registers
  pub xadd_means : (w : Width) (r q : Reg) → IsRegister w r → IsRegister w q → Here (instr.Xadd w (operand.Reg r) (operand.Reg q) false)
  unfolding acts lifts xadd_row rows.changes rows.fetches rows.stores rows.puts holds adds_exchanged puts_operand set
  xadd_means w r q is held f t s at same =
      let end = ends.Goto after in
      let follows = Follows may table in
      let out = λ (a b : ℕ). alu_outcome op.Add (bits w) a b t.flags in
      let last = λ (a b : ℕ). leaves (set w r (out a b).value (set w q a (with_flags (out a b).flags t))) in
      fetches_does may place after fits follows end w (operand.Reg r) t temps s (λ a. last a (register w q t))
      (λ a. lifted.fetches place after w (operand.Reg q)
      (λ b. keeps (result place after op.Add w a b) (λ n. flags_of place after op.Add w a b n (puts w q a (puts w r n done))))) same is at
      (λ a fit ka n1 i1 same1 later1 holds1.
      fetches_does may place after fits follows end w (operand.Reg q) t n1 i1 (λ b. last a b)
      (λ b. keeps (result place after op.Add w (Kept ka) b)
      (λ n. flags_of place after op.Add w (Kept ka) b n (puts w q (Kept ka) (puts w r n done)))) same1 held at
      (λ b fit' kb n2 i2 same2 later2 holds2.
      let both : Both w n2 i2 ka kb a b = record { first = holds_later later2 holds1; second = holds2; fit = fit; fits = fit' } in
      let tree = last a b then follows in
      keeps_does may end tree t n2 i2 (result place after op.Add w (Kept ka) (Kept kb)) (out a b).value
      (λ n. flags_of place after op.Add w (Kept ka) (Kept kb) n (puts w q (Kept ka) (puts w r n done))) same2
      (below_result place after op.Add w n2 ka kb both.first.below both.second.below) (result_here place after op.Add w t.flags ka kb a b n2 i2 both (has_flags t i2 same2))
      (λ kr n3 i3 same3 later3 holds3.
      let old = both_later w n2 i2 ka kb a b n3 i3 later3 both in
      flags_does place after op.Add w may end tree t n3 i3 ka kb kr a b (puts w q (Kept ka) (puts w r (Kept kr) done)) same3 old holds3
      (λ n4 i4 same4 later4.
      let first = holds_later later4 old.first in
      puts_does may end tree (with_flags (out a b).flags t) n4 i4 w q (Kept ka) a (puts w r (Kept kr) done) same4 held first.below
      (first.is ∙ low_of_fit w a fit)
      (λ n5 i5 same5 later5.
      let sum = holds_later (later_then later4 later5) holds3 in
      puts_ends may place after fits table w r (set w q a (with_flags (out a b).flags t)) n5 i5 (Kept kr)
      (out a b).value same5 is at sum.below
      (sum.is ∙ low_of_fit w (out a b).value (result_below place after op.Add w t.flags a b fit fit')))))))
