-- The steps of moves do what their rows do.
use Rattle.std.proofs.Common.{◌≡◌, ◌≢◌, ℕ, ◌%◌, ◌^◌, ◌<◌, ◌≤◌, Bool, true, false, inl, inr, refl, sym, ap, ◌∙◌, subst, arith}
use Rattle.std.specs.Prelude.{if◌then◌else◌}
use Rattle.word_arith.specs.Bits.{bit}
use Rattle.word_arith.specs.Signed.{sign_extend}
use Rattle.word_arith.proofs.CallerLemmas.{bit_below}
use Rattle.alu_width.specs.Conditions.{condition}
use Rattle.behavior.specs.Tree.{◌then◌}
use Rattle.behavior.specs.Acts.{Permission}
use Rattle.x64_syntax.specs.Formed.{IsRegister, IsCondition, IsInRegister, IsInMemory, IsStored, IsNarrow, ArePair}
use Rattle.x64_syntax.specs.Operands.{bits}
use Rattle.x64_syntax.specs.declared.instr.Instr.{Instr}
use Rattle.x64_syntax.specs.declared.instr.Instr.TheVariants as instr
use Rattle.x64_syntax.specs.declared.operand.Cond.{Cond}
use Rattle.x64_syntax.specs.declared.operand.Operand.{Operand}
use Rattle.x64_syntax.specs.declared.operand.Operand.TheVariants as operand
use Rattle.x64_syntax.specs.declared.operand.Reg.{Reg}
use Rattle.x64_syntax.specs.declared.operand.Width.{Width}
use Rattle.x64_syntax.specs.declared.operand.Width.TheVariants as width
use Rattle.x64_table.specs.State.{Thread, register, set, rax, upper, address}
use Rattle.x64_table.specs.Outcomes.{filled}
use Rattle.x64_table.specs.Rows.{half, holds, address_of, acts}
use Rattle.x64_table.specs.Rows as rows
use Rattle.limm_ir.specs.Steps.{IrState}
use Rattle.limm_ir.specs.declared.block.IrEnd.TheVariants as ends
use Rattle.limm_ir.specs.declared.step.IrOp.TheVariants as ops
use Rattle.lift_alu.specs.Formulas.{Formula, Kept, Number, Operation, Choice, value, done}
use Rattle.lift_alu.specs.Flags.{condition_formula}
use Rattle.lift_alu.specs.Operands.{clean, with_sign, register_formula, address_formula}
use Rattle.lift_alu.specs.Lifted.{puts, puts_operand, moves, takes_address, exchanges, chooses, lifts}
use Rattle.lift_alu.specs.Lifted as lifted
use Rattle.lift_alu.specs.Meant.{SameThread}
use Rattle.lift_alu.proofs.OperandValues.{value_clean, register_below, value_register, address_below}
use Rattle.lift_alu.proofs.FlagValues.{value_condition}
use Rattle.lift_alu.proofs.Computed.{IsKeptBelow}
use Rattle.lift_alu.proofs.KeptFormulas.{below_clean, below_with_sign, below_register, below_address, below_condition}
use Rattle.lift_alu.proofs.MoveValues.{value_extended, value_filled, value_choice}
use Rattle.lift_alu.proofs.Rules.{Does, keeps_does, Holds, holds_later}
use Rattle.lift_alu.proofs.Instructions.{Follows, Means, has_flags, low_register}
use Rattle.lift_alu.proofs.OperandRules.{fetched_stored, pair_stored, pair_fetched, low_of_fit, value_address_at, fetches_does, moves_does, puts_does, puts_ends}

-- a value of 8 or 16 bits fits a greater width
narrow_fits : (w v : Width) (a : ℕ) → w ≢ width.Byte → IsNarrow v → a < 2 ^ bits v → a < 2 ^ bits w
narrow_fits w v a wide narrow fit = omega (arith, fit, small v narrow, large w wide)
  where
    small : (v : Width) → IsNarrow v → 2 ^ bits v ≤ 2 ^ 16
    small v (inl is) = subst (λ u. 2 ^ bits u ≤ 2 ^ 16) (sym is) (omega arith)
    small v (inr is) = subst (λ u. 2 ^ bits u ≤ 2 ^ 16) (sym is) (omega arith)

    large : (w : Width) → w ≢ width.Byte → 2 ^ 16 ≤ 2 ^ bits w
    large width.Byte wide = absurd (wide refl)
    large width.Word wide = omega arith
    large width.Long wide = omega arith
    large width.Quad wide = omega arith

-- the upper half of an accumulator
upper_register : (w : Width) → IsRegister w (upper w)
upper_register width.Byte = record { number = omega arith; high = λ high. (refl, omega arith) }
upper_register width.Word = low_register width.Word (upper width.Word) refl (omega arith)
upper_register width.Long = low_register width.Long (upper width.Long) refl (omega arith)
upper_register width.Quad = low_register width.Quad (upper width.Quad) refl (omega arith)

module _ (may : Permission) (table place after temps : ℕ) (fits : after < 2 ^ 64) where
  -- an instruction of this place
  abbrev Here : Instr → Type 0
  Here i = Means may table place after temps i

  -- MOV
  pub mov_means : (w : Width) (to from : Operand) → ArePair w to from → Here (instr.Mov w to from)
  unfolding acts lifts
  mov_means w to from pair f t s at same =
      fetches_does may place after fits (Follows may table) (ends.Goto after) w from t temps s (λ v. rows.stores may place w to t v t) (λ v. moves place after w to v done) same (pair_fetched w to from pair) at
      (λ v fit k n j same' later holds. moves_does may place after fits table w to t n j k v same' (pair_stored w to from pair) at holds fit)

  -- LEA
  pub lea_means : (w : Width) (to from : Operand) → (w ≢ width.Byte) × (IsInRegister w to × IsInMemory from) → Here (instr.Lea w to from)
  unfolding acts lifts rows.puts address_of takes_address puts_operand
  lea_means w (operand.Reg r) (operand.Mem m) formed f t s at same =
      let here = value_address_at t s m after at fits same formed.1.1 in
      puts_ends may place after fits table w r t temps s (clean w (address_formula m after)) (address m t) same formed.1.0 at (below_clean temps w (address_formula m after) (below_address temps m after))
      (value_clean s w (address_formula m after) (subst (λ k. k < 2 ^ 64) (sym here) (address_below m t)) ∙ ap (λ k. k % 2 ^ bits w) here)
  lea_means w (operand.Reg r) (operand.Reg q) formed f t s at same = absurd formed.1.1
  lea_means w (operand.Reg r) (operand.Imm q) formed f t s at same = absurd formed.1.1
  lea_means w (operand.Mem r) from formed f t s at same = absurd formed.1.0
  lea_means w (operand.Imm r) from formed f t s at same = absurd formed.1.0

  -- a register gets what is fetched at another width, by a formula
  fetched_put : (w v : Width) (to from : Operand) (formula : Formula → Formula) (new : ℕ → ℕ) → IsInRegister w to → IsStored v from
      → ((a : ℕ) → a < 2 ^ bits v → (k n : ℕ) (j : IrState) → Holds n j k a → IsKeptBelow n (formula (Kept k)) × (value j (formula (Kept k)) ≡ new a % 2 ^ bits w))
      → (t : Thread) (s : IrState) → t.at ≡ after → SameThread t s
      → Does may (ends.Goto after) (rows.fetches may place v from t (λ a. rows.leaves (rows.puts w to (new a) t)) then (Follows may table)) (lifted.fetches place after v from (λ a. puts_operand place after w to (formula a) done) temps) s
  unfolding rows.puts puts_operand
  fetched_put w v (operand.Reg r) from formula new is stored computes t s at same =
      fetches_does may place after fits (Follows may table) (ends.Goto after) v from t temps s (λ a. rows.leaves (set w r (new a) t)) (λ a. puts w r (formula a) done) same (fetched_stored v from stored) at
      (λ a fit k n j same' later holds.
      let one = computes a fit k n j holds in
      puts_ends may place after fits table w r t n j (formula (Kept k)) (new a) same' is at one.0 one.1)
  fetched_put w v (operand.Mem r) from formula new is stored computes t s at same = absurd is
  fetched_put w v (operand.Imm r) from formula new is stored computes t s at same = absurd is

  -- MOVZX
  pub movzx_means : (w v : Width) (to from : Operand) → (w ≢ width.Byte) × (IsNarrow v × (IsInRegister w to × IsStored v from)) → Here (instr.MovZx w v to from)
  unfolding acts lifts
  movzx_means w v to from formed f t s at same =
      fetched_put w v to from (λ a. a) (λ a. a) formed.1.1.0 formed.1.1.1
      (λ a fit k n j holds. (holds.below, holds.is ∙ low_of_fit w a (narrow_fits w v a formed.0 formed.1.0 fit))) t s at same

  -- MOVSX
  pub movsx_means : (w v : Width) (to from : Operand) → (w ≢ width.Byte) × (IsNarrow v × (IsInRegister w to × IsStored v from)) → Here (instr.MovSx w v to from)
  unfolding acts lifts
  movsx_means w v to from formed f t s at same =
      fetched_put w v to from (λ a. clean w (with_sign v a)) (λ a. sign_extend (bits w) (bits v) a) formed.1.1.0 formed.1.1.1
      (λ a fit k n j holds. (below_clean n w (with_sign v (Kept k)) (below_with_sign n v (Kept k) holds.below), value_extended j w v (Kept k) a holds.is fit)) t s at same

  -- MOVSXD
  pub movsxd_means : (to from : Operand) → IsInRegister width.Quad to × IsStored width.Long from → Here (instr.MovSxd to from)
  unfolding acts lifts clean
  movsxd_means to from formed f t s at same =
      fetched_put width.Quad width.Long to from (λ a. with_sign width.Long a) (λ a. sign_extend 64 32 a) formed.0 formed.1
      (λ a fit k n j holds. (below_with_sign n width.Long (Kept k) holds.below, value_extended j width.Quad width.Long (Kept k) a holds.is fit)) t s at same

  -- SETcc
  pub setcc_means : (c : Cond) (to : Operand) → IsCondition c × IsStored width.Byte to → Here (instr.SetCc c to)
  unfolding acts lifts
  setcc_means c to formed f t s at same =
      let v = bit (condition c.code t.flags) in
      let below : v < 2 ^ 8 = omega (arith, bit_below (condition c.code t.flags)) in
      keeps_does may (ends.Goto after) (rows.stores may place width.Byte to t v t then (Follows may table)) t temps s (condition_formula c.code) v (λ a. moves place after width.Byte to a done) same
      (below_condition temps c.code) (value_condition c t.flags s formed.0 (has_flags t s same))
      (λ k n j same' later holds. moves_does may place after fits table width.Byte to t n j k v same' formed.1 at holds below)

  -- CMOVcc
  pub cmovcc_means : (c : Cond) (w : Width) (to from : Operand) → IsCondition c × ((w ≢ width.Byte) × (IsInRegister w to × IsStored w from)) → Here (instr.CmovCc c w to from)
  unfolding acts lifts rows.puts holds chooses
  cmovcc_means c w (operand.Reg r) from formed f t s at same =
      let b = condition c.code t.flags in
      let old = register w r t in
      fetches_does may place after fits (Follows may table) (ends.Goto after) w from t temps s (λ v. rows.leaves (set w r (if b then v else old) t)) (λ v. puts w r (Choice (condition_formula c.code) v (register_formula w r)) done) same
      (fetched_stored w from formed.1.1.1) at
      (λ v fit k n j same' later held.
      let here : value j (Choice (condition_formula c.code) (Kept k) (register_formula w r)) ≡ (if b then v else old) =
      value_choice j (condition_formula c.code) (Kept k) (register_formula w r) b (value_condition c t.flags j formed.0 (has_flags t j same'))
      ∙ ap (λ x. if b then x else value j (register_formula w r)) held.is ∙ ap (λ x. if b then v else x) (value_register t j w r same' formed.1.1.0) in
      puts_ends may place after fits table w r t n j (Choice (condition_formula c.code) (Kept k) (register_formula w r)) (if b then v else old) same' formed.1.1.0 at
      (below_condition n c.code, (held.below, below_register n w r)) (here ∙ low_of_fit w (if b then v else old) (either_below b v old (2 ^ bits w) fit (register_below w r t))))
    where
      either_below : (b : Bool) (x y most : ℕ) → x < most → y < most → (if b then x else y) < most
      either_below true x y most first second = first
      either_below false x y most first second = second
  cmovcc_means c w (operand.Mem r) from formed f t s at same = absurd formed.1.1.0
  cmovcc_means c w (operand.Imm r) from formed f t s at same = absurd formed.1.1.0

  -- CBW, CWDE and CDQE
  pub widen_means : (w : Width) → Here (instr.Widen w)
  unfolding acts lifts
  widen_means w f t s at same =
      let v = half w in
      let a = register v rax t in
      puts_ends may place after fits table w rax t temps s (clean w (with_sign v (register_formula v rax))) (sign_extend (bits w) (bits v) a) same (low_register w rax refl (omega arith)) at
      (below_clean temps w (with_sign v (register_formula v rax)) (below_with_sign temps v (register_formula v rax) (below_register temps v rax)))
      (value_extended s w v (register_formula v rax) a (value_register t s v rax same (low_register v rax refl (omega arith))) (register_below v rax t))

  -- CWD, CDQ and CQO
  pub signfill_means : (w : Width) → w ≢ width.Byte → Here (instr.SignFill w)
  unfolding acts lifts
  signfill_means w wide f t s at same =
      let a = register w rax t in
      puts_ends may place after fits table w (upper w) t temps s (clean w (Operation ops.Sar (with_sign w (register_formula w rax)) (Number 63))) (filled (bits w) a) same (upper_register w) at
      (below_clean temps w (Operation ops.Sar (with_sign w (register_formula w rax)) (Number 63)) (below_with_sign temps w (register_formula w rax) (below_register temps w rax), tt))
      (value_filled s w (register_formula w rax) a (value_register t s w rax same (low_register w rax refl (omega arith))) (register_below w rax t))

  -- XCHG of two registers
  pub xchg_means : (w : Width) (r q : Reg) → IsRegister w r → IsRegister w q → Here (instr.Xchg w (operand.Reg r) (operand.Reg q) false)
  unfolding acts lifts rows.xchg_row rows.changes rows.fetches rows.stores rows.puts holds exchanges puts_operand set
  xchg_means w r q is held f t s at same =
      let first = register w r t in
      let second = register w q t in
      let tree = rows.leaves (set w r second (set w q first t)) then (Follows may table) in
      fetches_does may place after fits (Follows may table) (ends.Goto after) w (operand.Reg r) t temps s (λ a. rows.leaves (set w r second (set w q a t)))
      (λ a. lifted.fetches place after w (operand.Reg q) (λ b. puts w q a (puts w r b done))) same is at
      (λ a fit k1 n1 i1 same1 later1 holds1.
      fetches_does may place after fits (Follows may table) (ends.Goto after) w (operand.Reg q) t n1 i1 (λ b. rows.leaves (set w r b (set w q a t)))
      (λ b. puts w q (Kept k1) (puts w r b done)) same1 held at
      (λ b fit' k2 n2 i2 same2 later2 holds2.
      let held1 = holds_later later2 holds1 in
      puts_does may (ends.Goto after) (rows.leaves (set w r b (set w q a t)) then (Follows may table)) t n2 i2 w q (Kept k1) a
      (puts w r (Kept k2) done) same2 held held1.below (held1.is ∙ low_of_fit w a fit)
      (λ n3 i3 same3 later3.
      let held2 = holds_later later3 holds2 in
      puts_ends may place after fits table w r (set w q a t) n3 i3 (Kept k2) b same3 is at held2.below (held2.is ∙ low_of_fit w b fit'))))
