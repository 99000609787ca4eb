-- What the steps that set flags do beside a row.
use Rattle.std.proofs.Common.{◌≡◌, ℕ, Bool, refl, sym, ap, ◌∙◌}
use Rattle.word_arith.specs.Bits.{bit}
use Rattle.alu_width.specs.declared.flags.Flags.{Flags}
use Rattle.behavior.specs.Tree.{Tree, Next}
use Rattle.behavior.specs.Acts.{Permission}
use Rattle.behavior.specs.Leaving.{Left}
use Rattle.x64_syntax.specs.declared.operand.Width.{Width}
use Rattle.x64_table.specs.State.{Thread, with_flags}
use Rattle.limm_ir.specs.Steps.{IrState}
use Rattle.limm_ir.specs.declared.block.IrEnd.{IrEnd}
use Rattle.limm_ir.specs.declared.step.IrOp.TheVariants as ops
use Rattle.lift_alu.specs.Formulas.{Formula, Number, Operation, value, Lifting, sets_flag}
use Rattle.lift_alu.specs.Flags.{CF, ZF, SF, OF, top, sets_result, sets_flags}
use Rattle.lift_alu.specs.Meant.{SameThread}
use Rattle.lift_alu.proofs.Computed.{IsKeptBelow, kept_later}
use Rattle.lift_alu.proofs.Rules.{IsLater, later_same, later_then, with_of, with_zf, with_sf, same_of, same_zf, same_sf, same_cf, Does, Later, sets_flag_does}

-- what the formulas of a result's flags are in every later state
pub record ResultFlags (next : ℕ) (i : IrState) (w : Width) (overflow r : Formula) (f : Flags) : Type 0 where
  pub kept_overflow : IsKeptBelow next overflow
  pub kept : IsKeptBelow next r
  pub of : (n : ℕ) (j : IrState) → IsLater next i n j → value j overflow ≡ bit f.of
  pub zf : (n : ℕ) (j : IrState) → IsLater next i n j → value j (Operation ops.Eq r (Number 0)) ≡ bit f.zf
  pub sf : (n : ℕ) (j : IrState) → IsLater next i n j → value j (top w r) ≡ bit f.sf

-- and that of the carry, where CF is the one before
pub record CarryFlag (next : ℕ) (i : IrState) (carry : Formula) (before after : Bool) : Type 0 where
  pub kept : IsKeptBelow next carry
  pub cf : (n : ℕ) (j : IrState) → IsLater next i n j → j.flags 0 ≡ bit before → value j carry ≡ bit after

-- three flags that were set one by one, and CF as it was
same_flags : (s : Thread) (j : IrState) (f : Flags) → f.cf ≡ s.flags.cf → SameThread (with_sf f.sf (with_zf f.zf (with_of f.of s))) j → SameThread (with_flags f s) j
same_flags s j f is same = record { regs = same.regs; fit = same.fit; cf = same.cf ∙ ap bit (sym is); zf = same.zf; sf = same.sf; of = same.of }

module _ (may : Permission) (end : IrEnd) where
  -- three flags are set, and CF stays
  pub sets_result_does : (q : Tree (Next (Left Thread))) (s : Thread) (next : ℕ) (i : IrState) (w : Width) (overflow r : Formula) (f : Flags) (rest : Lifting) → SameThread s i
      → ResultFlags next i w overflow r f → f.cf ≡ s.flags.cf → Later may end q (with_flags f s) next i rest → Does may end q (sets_result w overflow r rest next) i
  unfolding sets_result
  sets_result_does q s next i w overflow r f rest same flags is go =
      let last = sets_flag SF (top w r) rest in
      sets_flag_does may end q s (with_of f.of s) next i OF overflow (bit f.of) (sets_flag ZF (Operation ops.Eq r (Number 0)) last) same flags.kept_overflow
      (flags.of next i (later_same next i)) (λ j same. same_of s j f.of (bit f.of) refl same)
      (λ n1 i1 same1 later1.
      sets_flag_does may end q (with_of f.of s) (with_zf f.zf (with_of f.of s)) n1 i1 ZF (Operation ops.Eq r (Number 0)) (bit f.zf) last same1 (kept_later next n1 r later1.le flags.kept, tt)
      (flags.zf n1 i1 later1) (λ j same. same_zf (with_of f.of s) j f.zf (bit f.zf) refl same)
      (λ n2 i2 same2 later2.
      let later = later_then later1 later2 in
      sets_flag_does may end q (with_zf f.zf (with_of f.of s)) (with_sf f.sf (with_zf f.zf (with_of f.of s))) n2 i2 SF (top w r) (bit f.sf) rest same2 (kept_later next n2 r later.le flags.kept, tt)
      (flags.sf n2 i2 later) (λ j same. same_sf (with_zf f.zf (with_of f.of s)) j f.sf (bit f.sf) refl same)
      (λ n3 i3 same3 later3. go n3 i3 (same_flags s i3 f is same3) (later_then later later3))))

  -- all four flags are set
  pub sets_flags_does : (q : Tree (Next (Left Thread))) (s : Thread) (next : ℕ) (i : IrState) (w : Width) (overflow carry r : Formula) (f : Flags) (rest : Lifting) → SameThread s i
      → ResultFlags next i w overflow r f → CarryFlag next i carry s.flags.cf f.cf → Later may end q (with_flags f s) next i rest → Does may end q (sets_flags w overflow carry r rest next) i
  unfolding sets_flags
  sets_flags_does q s next i w overflow carry r f rest same flags carries go =
      let early : Flags = record f { cf = s.flags.cf } in
      sets_result_does q s next i w overflow r early (sets_flag CF carry rest) same
      (record { kept_overflow = flags.kept_overflow; kept = flags.kept; of = flags.of; zf = flags.zf; sf = flags.sf }) refl
      (λ n1 i1 same1 later1.
      sets_flag_does may end q (with_flags early s) (with_flags f s) n1 i1 CF carry (bit f.cf) rest same1 (kept_later next n1 carry later1.le carries.kept)
      (carries.cf n1 i1 later1 same1.cf) (λ j same. same_cf (with_flags early s) j f.cf (bit f.cf) refl same)
      (λ n2 i2 same2 later2. go n2 i2 same2 (later_then later1 later2)))
