-- The steps of locked instructions do what their rows do.
use Rattle.std.proofs.Common.{◌≡◌, ◌≢◌, ℕ, ◌%◌, ◌^◌, ◌<◌, ◌==◌, Bool, true, false, refl, sym, ◌∙◌, subst, arith}
use Rattle.std.specs.Prelude.{if◌then◌else◌}
use Rattle.word_arith.specs.Bits.{bit}
use Rattle.word_arith.specs.Masks.{ones}
use Rattle.alu_width.specs.declared.flags.Flags.{Flags}
use Rattle.alu_width.specs.declared.flags.Outcome.{Outcome}
use Rattle.behavior.specs.Tree.{◌then◌}
use Rattle.behavior.specs.Acts.{Permission}
use Rattle.x64_syntax.specs.Formed.{IsStored, IsInRegister, IsInMemory, IsMemory, ArePair}
use Rattle.x64_syntax.specs.Operands.{bits, is_in_memory}
use Rattle.x64_syntax.specs.declared.instr.AluOp.{AluOp}
use Rattle.x64_syntax.specs.declared.instr.AluOp.TheVariants as op
use Rattle.x64_syntax.specs.declared.instr.Instr.{Instr}
use Rattle.x64_syntax.specs.declared.instr.Instr.TheVariants as instr
use Rattle.x64_syntax.specs.declared.operand.Mem.{Mem}
use Rattle.x64_syntax.specs.declared.operand.Operand.{Operand}
use Rattle.x64_syntax.specs.declared.operand.Operand.TheVariants as operand
use Rattle.x64_syntax.specs.declared.operand.Width.{Width}
use Rattle.x64_table.specs.State.{Thread, bytes, register, rax, set, address, with_flags}
use Rattle.x64_table.specs.Outcomes.{alu_outcome, inc_outcome, dec_outcome, not_value}
use Rattle.x64_table.specs.Rows.{combine_row, alu_row, xchg_row, xadd_row, cmpxchg_row, compared, address_of, becomes, holds, leaves, acts}
use Rattle.x64_table.specs.Rows as rows
use Rattle.limm_ir.specs.Steps.{IrState}
use Rattle.limm_ir.specs.Values.{rmw_value}
use Rattle.limm_ir.specs.declared.block.IrEnd.TheVariants as ends
use Rattle.limm_ir.specs.declared.step.IrOp.TheVariants as ops
use Rattle.limm_ir.specs.declared.step.RmwOp.{RmwOp}
use Rattle.limm_ir.specs.declared.step.RmwOp.TheVariants as rmw
use Rattle.lift_alu.specs.Formulas.{Formula, Kept, Number, Operation, value, Lifting, done, keeps, sets_register}
use Rattle.lift_alu.specs.Operands.{clean, register_formula, address_formula}
use Rattle.lift_alu.specs.Flags.{sum_overflow, difference_overflow, sets_result}
use Rattle.lift_alu.specs.Locks.{modifies, replaces, locked_op, given, accumulator}
use Rattle.lift_alu.specs.Lifted.{kept_in, puts, puts_operand, result, flags_of, locks, finds, modifies_there, replaces_there}
use Rattle.lift_alu.specs.Lifted.{combines_locked, increments_locked, decrements_locked, inverts_locked, swaps, adds_locked}
use Rattle.lift_alu.specs.Lifted.{compares_locked, lifts}
use Rattle.lift_alu.specs.Lifted as lifted
use Rattle.lift_alu.specs.Meant.{SameThread}
use Rattle.lift_alu.proofs.FlagValues.{StepsOutcome, value_inc, flags_inc, value_dec, flags_dec}
use Rattle.lift_alu.proofs.Computed.{IsKeptBelow}
use Rattle.lift_alu.proofs.KeptFormulas.{below_clean, below_register, below_address}
use Rattle.lift_alu.proofs.OperandValues.{register_below, value_register}
use Rattle.lift_alu.proofs.Rules.{IsLater, Does, Holds, holds_later, later_then, keeps_does, sets_register_does}
use Rattle.lift_alu.proofs.FlagRules.{sets_result_does}
use Rattle.lift_alu.proofs.LockRules.{modifies_does, replaces_does}
use Rattle.lift_alu.proofs.LockValues.{number_given, value_given, below_given, written, written_inc, written_dec, written_not, accumulated}
use Rattle.lift_alu.proofs.LockValues.{accumulated_below, value_accumulator, below_accumulator, same_compared}
use Rattle.lift_alu.proofs.OperandRules.{width_bytes, low_of_fit, value_address_at, pair_fetched, fetches_does, puts_ends}
use Rattle.lift_alu.proofs.OperandRules.{ends_does}
use Rattle.lift_alu.proofs.Instructions.{has_flags, low_register, Follows, Means}
use Rattle.lift_alu.proofs.LiftedArithmetic.{Both, both_later, below_result, result_here, flags_does}
use Rattle.lift_alu.proofs.LiftedSteps.{computed_here, step_flags, steps_here, inc_below, dec_below}

module _ (may : Permission) (table place after temps : ℕ) (fits : after < 2 ^ 64) where
  -- an instruction of this place
  abbrev Here : Instr → Type 0
  Here i = Means may table place after temps i

  -- what is given to a locked step in any later state
  abbrev Gives : Thread → (next : ℕ) → IrState → Formula → (v : ℕ) → Type 0
  Gives s next i e v = (n : ℕ) (j : IrState) → SameThread s j → IsLater next i n j → IsKeptBelow n e × (value j e ≡ v)

  -- what is done where memory's old value is kept
  abbrev FromOld : Width → Thread → (next : ℕ) → IrState → (ℕ → Thread) → (Formula → Lifting) → Type 0
  FromOld w s next i left rest = (a : ℕ) → a < 2 ^ bits w → (k n : ℕ) (j : IrState) → SameThread s j → IsLater next i n j → Holds n j k a
      → Does may (ends.Goto after) (leaves (left a) then Follows may table) (rest (Kept k) n) j

  -- locked memory is changed
  locks_does : (w : Width) (m : Mem) (s : Thread) (next : ℕ) (i : IrState) (o : RmwOp) (e : Formula) (v : ℕ) (new : ℕ → ℕ)
      (left : ℕ → Thread) (rest : Formula → Lifting)
      → SameThread s i → IsMemory m → s.at ≡ after → Gives s next i e v
      → ((a : ℕ) → a < 2 ^ bits w → rmw_value o a v % 2 ^ bits w ≡ new a % 2 ^ bits w) → FromOld w s next i left rest
      → Does may (ends.Goto after) (rows.changes may place true w (operand.Mem m) s new left then Follows may table)
      (locks place after o w (operand.Mem m) e rest next) i
  unfolding rows.changes locks finds modifies_there
  locks_does w m s next i o e v new left rest same is at gives writes go =
      let end = ends.Goto after in
      let q = rows.changes may place true w (operand.Mem m) s new left then Follows may table in
      keeps_does may end q s next i (address_formula m after) (address m s)
      (λ p. keeps e (λ k. modifies o place (bytes w) (kept_in p) (kept_in k) rest)) same
      (below_address next m after) (value_address_at s i m after at fits same is)
      (λ tp n1 i1 same1 later1 there.
      let one = gives n1 i1 same1 later1 in
      keeps_does may end q s n1 i1 e v (λ k. modifies o place (bytes w) tp (kept_in k) rest) same1 one.0 one.1
      (λ tv n2 i2 same2 later2 held.
      modifies_does may end (Follows may table) (λ a. leaves (left a)) s n2 i2 place (bytes w) (address m s) rest same2 tp
      (holds_later later2 there) o tv v new held
      (λ a lt. subst (λ k. rmw_value o a v % k ≡ new a % k) (sym (width_bytes w)) (writes a (subst (λ k. a < k) (width_bytes w) lt)))
      (λ a lt n3 i3 same3 later3 held3. go a (subst (λ k. a < k) (width_bytes w) lt) n2 n3 i3 same3
      (later_then (later_then later1 later2) later3) held3)))

  -- ADD, OR, ADC, SBB, AND, SUB and XOR: memory becomes the outcome, and the flags come from its old value
  combine_does : (o : AluOp) → o ≢ op.Cmp → (w : Width) (m : Mem) (from : Operand) → IsMemory m → ArePair w (operand.Mem m) from
      → (t : Thread) (s : IrState) → t.at ≡ after → SameThread t s
      → Does may (ends.Goto after) (combine_row may place o w (operand.Mem m) from true t then Follows may table)
      (combines_locked place after o w (operand.Mem m) from temps) s
  unfolding combine_row combines_locked
  combine_does o other w m from is pair t s at same =
      let end = ends.Goto after in
      let follows = Follows may table in
      let out = λ (a b : ℕ). alu_outcome o (bits w) a b t.flags in
      let behind = λ (b a : Formula). keeps (result place after o w a b) (λ r. flags_of place after o w a b r done) in
      fetches_does may place after fits follows end w from t temps s (λ b. becomes may place true w (operand.Mem m) t (λ a. out a b))
      (λ b. locks place after (locked_op o) w (operand.Mem m) (given o b) (behind b)) same (pair_fetched w (operand.Mem m) from pair) at
      (λ b fit' kb n1 i1 same1 later1 holds1.
      locks_does w m t n1 i1 (locked_op o) (given o (Kept kb)) (number_given o b (bit t.flags.cf)) (λ a. (out a b).value)
      (λ a. with_flags (out a b).flags t) (behind (Kept kb)) same1 is at
      (λ n j same' later. let held = holds_later later holds1 in
      (below_given o n kb held.below, value_given o j kb b (bit t.flags.cf) held.is same'.cf))
      (λ a fit. written o other w a b t.flags fit')
      (λ a fit ka n2 i2 same2 later2 holds2.
      let both : Both w n2 i2 ka kb a b = record { first = holds2; second = holds_later later2 holds1; fit = fit; fits = fit' } in
      let q = leaves (with_flags (out a b).flags t) then follows in
      keeps_does may end q t n2 i2 (result place after o w (Kept ka) (Kept kb)) (out a b).value
      (λ r. flags_of place after o w (Kept ka) (Kept kb) r done) same2
      (below_result place after o w n2 ka kb both.first.below both.second.below)
      (result_here place after o w t.flags ka kb a b n2 i2 both (has_flags t i2 same2))
      (λ kr n3 i3 same3 later3 holds3.
      flags_does place after o w may end q t n3 i3 ka kb kr a b done same3 (both_later w n2 i2 ka kb a b n3 i3 later3 both) holds3
      (λ n4 i4 same4 later4. ends_does may place after fits table (with_flags (out a b).flags t) i4 at same4))))

  pub lock_alu_means : (o : AluOp) (w : Width) (to from : Operand) → ArePair w to from → is_in_memory to ≡ true → IsStored w to → o ≢ op.Cmp
      → Here (instr.Alu o w to from true)
  unfolding acts lifts alu_row
  lock_alu_means op.Add w (operand.Mem m) from pair memory is other f t s at same = combine_does op.Add other w m from is pair t s at same
  lock_alu_means op.Or w (operand.Mem m) from pair memory is other f t s at same = combine_does op.Or other w m from is pair t s at same
  lock_alu_means op.Adc w (operand.Mem m) from pair memory is other f t s at same = combine_does op.Adc other w m from is pair t s at same
  lock_alu_means op.Sbb w (operand.Mem m) from pair memory is other f t s at same = combine_does op.Sbb other w m from is pair t s at same
  lock_alu_means op.And w (operand.Mem m) from pair memory is other f t s at same = combine_does op.And other w m from is pair t s at same
  lock_alu_means op.Sub w (operand.Mem m) from pair memory is other f t s at same = combine_does op.Sub other w m from is pair t s at same
  lock_alu_means op.Xor w (operand.Mem m) from pair memory is other f t s at same = combine_does op.Xor other w m from is pair t s at same
  lock_alu_means op.Cmp w to from pair memory is other f t s at same = absurd (other refl)
  lock_alu_means o w (operand.Reg r) from pair memory is other f t s at same = absurd (cc)
  lock_alu_means o w (operand.Imm n) from pair memory is other f t s at same = absurd (cc)

  -- a locked step whose number is the same in any state
  gives_number : (s : Thread) (next : ℕ) (i : IrState) (v : ℕ) → Gives s next i (Number v) v
  gives_number s next i v n j same later = (tt, refl)

  -- INC and DEC: memory becomes the outcome, and CF stays
  module _ (w : Width) (m : Mem) (is : IsMemory m) (t : Thread) (s : IrState) (at : t.at ≡ after) (same : SameThread t s)
      (formula : Formula → Formula) (out : ℕ → Outcome) (below : (a : ℕ) → (out a).value < 2 ^ bits w)
      (kept : (n k : ℕ) → k < n → IsKeptBelow n (formula (Kept k)))
      (computes : (j : IrState) (k : ℕ) → j.temps k < 2 ^ bits w → value j (formula (Kept k)) ≡ (out (j.temps k)).value)
      (overflow : Formula → Formula → Formula) (kept_overflow : (n ka kr : ℕ) → ka < n → kr < n → IsKeptBelow n
      (overflow (Kept ka) (Kept kr)))
      (flags : (j : IrState) (ka kr : ℕ) → j.temps ka < 2 ^ bits w → j.temps kr ≡ (out (j.temps ka)).value → StepsOutcome w t.flags j
      (Kept ka) (Kept kr) (overflow (Kept ka) (Kept kr)) (out (j.temps ka)).flags) where
    count_does : (v : ℕ) → ((a : ℕ) → a < 2 ^ bits w → rmw_value rmw.Add a v % 2 ^ bits w ≡ (out a).value % 2 ^ bits w)
        → Does may (ends.Goto after) (becomes may place true w (operand.Mem m) t out then Follows may table)
        (locks place after rmw.Add w (operand.Mem m) (Number v) (λ a. keeps (formula a) (λ r. sets_result w (overflow a r) r done)) temps) s
    count_does v writes =
        let end = ends.Goto after in
        let here = computed_here may table place after temps fits w (operand.Mem m) is t s at same formula out below kept computes in
        let results = step_flags may table place after temps fits w
        (operand.Mem m) is t s at same formula out below kept computes overflow kept_overflow flags in
        let outcomes = steps_here may table place after temps fits w
        (operand.Mem m) is t s at same formula out below kept computes overflow kept_overflow flags in
        locks_does w m t temps s rmw.Add (Number v) v (λ a. (out a).value) (λ a. with_flags (out a).flags t)
        (λ a. keeps (formula a) (λ r. sets_result w (overflow a r) r done)) same is at
        (gives_number t temps s v) writes
        (λ a fit ka n1 i1 same1 later1 old.
        let q = leaves (with_flags (out a).flags t) then Follows may table in
        let one = here a fit ka n1 i1 old in
        keeps_does may end q t n1 i1 (formula (Kept ka)) (out a).value (λ r. sets_result w (overflow (Kept ka) r) r done) same1 one.0 one.1
        (λ kr n2 i2 same2 later2 changed.
        let was = holds_later later2 old in
        sets_result_does may end q t n2 i2 w (overflow (Kept ka) (Kept kr)) (Kept kr) (out a).flags done same2
        (results a fit ka kr n2 i2 was changed) (outcomes a fit ka kr n2 i2 was changed).cf
        (λ n3 i3 same3 later3. ends_does may place after fits table (with_flags (out a).flags t) i3 at same3)))

  -- INC
  pub lock_inc_means : (w : Width) (to : Operand) → IsStored w to → is_in_memory to ≡ true → Here (instr.Inc w to true)
  unfolding acts lifts increments_locked
  lock_inc_means w (operand.Mem m) is memory f t s at same =
      count_does w m is t s at same (λ a. clean w (Operation ops.Add a (Number 1))) (λ a. inc_outcome (bits w) a t.flags)
      (λ a. inc_below w a t.flags)
      (λ n k lt. below_clean n w (Operation ops.Add (Kept k) (Number 1)) (lt, tt)) (λ j k fit. value_inc w t.flags j (Kept k) fit)
      (λ a r. sum_overflow w a (Number 1) r) (λ n ka kr first second. (((first, second), (tt, second)), tt))
      (λ j ka kr fit result. flags_inc w t.flags j (Kept ka) (Kept kr) fit result)
      1 (λ a fit. written_inc w a t.flags)
  lock_inc_means w (operand.Reg r) is memory f t s at same = absurd (cc)
  lock_inc_means w (operand.Imm n) is memory f t s at same = absurd (cc)

  -- DEC
  pub lock_dec_means : (w : Width) (to : Operand) → IsStored w to → is_in_memory to ≡ true → Here (instr.Dec w to true)
  unfolding acts lifts decrements_locked
  lock_dec_means w (operand.Mem m) is memory f t s at same =
      count_does w m is t s at same (λ a. clean w (Operation ops.Sub a (Number 1))) (λ a. dec_outcome (bits w) a t.flags)
      (λ a. dec_below w a t.flags)
      (λ n k lt. below_clean n w (Operation ops.Sub (Kept k) (Number 1)) (lt, tt)) (λ j k fit. value_dec w t.flags j (Kept k) fit)
      (λ a r. difference_overflow w a (Number 1) r) (λ n ka kr first second. (((first, tt), (first, second)), tt))
      (λ j ka kr fit result. flags_dec w t.flags j (Kept ka) (Kept kr) fit result)
      (ones 64) (λ a fit. written_dec w a t.flags)
  lock_dec_means w (operand.Reg r) is memory f t s at same = absurd (cc)
  lock_dec_means w (operand.Imm n) is memory f t s at same = absurd (cc)

  -- NOT
  pub lock_not_means : (w : Width) (to : Operand) → IsStored w to → is_in_memory to ≡ true → Here (instr.Not w to true)
  unfolding acts lifts inverts_locked
  lock_not_means w (operand.Mem m) is memory f t s at same =
      locks_does w m t temps s rmw.Flip (Number (ones (bits w))) (ones (bits w)) (not_value (bits w)) (λ a. t) (λ a. done) same is at
      (gives_number t temps s (ones (bits w)))
      (λ a fit. written_not w a fit) (λ a fit k n j same' later old. ends_does may place after fits table t j at same')
  lock_not_means w (operand.Reg r) is memory f t s at same = absurd (cc)
  lock_not_means w (operand.Imm n) is memory f t s at same = absurd (cc)

  -- a value that is kept is given in any later state
  gives_kept : (s : Thread) (next : ℕ) (i : IrState) (k v : ℕ) → Holds next i k v → Gives s next i (Kept k) v
  gives_kept s next i k v held n j same later = let still = holds_later later held in (still.below, still.is)

  -- XCHG with memory
  pub swap_means : (w : Width) (m : Mem) (from : Operand) → IsMemory m → IsInRegister w from → Here (instr.Xchg w (operand.Mem m) from true)
  unfolding acts lifts xchg_row rows.puts holds swaps lifted.fetches puts_operand
  swap_means w m (operand.Reg q) is held f t s at same =
      let v = register w q t in
      let tree = rows.changes may place true w (operand.Mem m) t (λ a. v) (λ a. set w q a t) then Follows may table in
      keeps_does may (ends.Goto after) tree t temps s (register_formula w q) v
      (λ b. locks place after rmw.Swap w (operand.Mem m) b (λ a. puts w q a done)) same
      (below_register temps w q) (value_register t s w q same held)
      (λ kb n1 i1 same1 later1 second.
      locks_does w m t n1 i1 rmw.Swap (Kept kb) v (λ a. v) (λ a. set w q a t) (λ a. puts w q a done) same1 is at
      (gives_kept t n1 i1 kb v second) (λ a fit. refl)
      (λ a fit ka n2 i2 same2 later2 old. puts_ends may place after fits table w q t n2 i2 (Kept ka) a same2 held at old.below
      (old.is ∙ low_of_fit w a fit)))
  swap_means w m (operand.Mem q) is held f t s at same = absurd held
  swap_means w m (operand.Imm n) is held f t s at same = absurd held

  -- XADD with memory
  pub lock_xadd_means : (w : Width) (m : Mem) (from : Operand) → IsMemory m → IsInRegister w from → Here
      (instr.Xadd w (operand.Mem m) from true)
  unfolding acts lifts xadd_row rows.puts holds adds_locked lifted.fetches puts_operand
  lock_xadd_means w m (operand.Reg q) is held f t s at same =
      let end = ends.Goto after in
      let b = register w q t in
      let out = λ (a : ℕ). alu_outcome op.Add (bits w) a b t.flags in
      let left = λ (a : ℕ). set w q a (with_flags (out a).flags t) in
      let tree = rows.changes may place true w (operand.Mem m) t (λ a. (out a).value) left then Follows may table in
      let behind = λ (b a : Formula). keeps (result place after op.Add w a b)
      (λ r. flags_of place after op.Add w a b r (puts w q a done)) in
      keeps_does may end tree t temps s (register_formula w q) b (λ b. locks place after rmw.Add w (operand.Mem m) b (behind b)) same
      (below_register temps w q) (value_register t s w q same held)
      (λ kb n1 i1 same1 later1 second.
      locks_does w m t n1 i1 rmw.Add (Kept kb) b (λ a. (out a).value) left (behind (Kept kb)) same1 is at (gives_kept t n1 i1 kb b second)
      (λ a fit. written op.Add (λ is. cc) w a b t.flags (register_below w q t))
      (λ a fit ka n2 i2 same2 later2 old.
      let both : Both w n2 i2 ka kb a b = record { first = old; second = holds_later later2 second; fit = fit; fits = register_below w q t }
      in
      let q' = leaves (left a) then Follows may table in
      keeps_does may end q' t n2 i2 (result place after op.Add w (Kept ka) (Kept kb)) (out a).value
      (λ r. flags_of place after op.Add w (Kept ka) (Kept kb) r (puts w q (Kept ka) done)) same2
      (below_result place after op.Add w n2 ka kb both.first.below both.second.below)
      (result_here place after op.Add w t.flags ka kb a b n2 i2 both (has_flags t i2 same2))
      (λ kr n3 i3 same3 later3 sum.
      flags_does place after op.Add w may end q' t n3 i3 ka kb kr a b (puts w q (Kept ka) done) same3
      (both_later w n2 i2 ka kb a b n3 i3 later3 both) sum
      (λ n4 i4 same4 later4.
      let still = holds_later (later_then later3 later4) old in
      puts_ends may place after fits table w q (with_flags (out a).flags t) n4 i4 (Kept ka) a same4 held at still.below
      (still.is ∙ low_of_fit w a fit)))))
  lock_xadd_means w m (operand.Mem q) is held f t s at same = absurd held
  lock_xadd_means w m (operand.Imm n) is held f t s at same = absurd held

  -- CMPXCHG: behind the locked access the flags are set, and then RAX
  module _ (w : Width) (t : Thread) (at : t.at ≡ after) where
    -- what the accumulator holds
    abbrev Expected : ℕ
    Expected = register w rax t

    -- what the flags compare, and the thread behind the instruction
    abbrev Compared : (v : ℕ) → Flags
    Compared v = (alu_outcome op.Cmp (bits w) Expected v t.flags).flags

    abbrev Left : (v : ℕ) → Thread
    Left v = with_flags (Compared v) (compared may place w t v)

    -- it goes on behind the instruction
    stays : (b : Bool) (v : ℕ) → (if b then t else set w rax v t).at ≡ after
    unfolding set
    stays true v = at
    stays false v = at

    -- the flags were set before
    with_compared : (b : Bool) (v : ℕ) (f : Flags) (j : IrState) → SameThread (if b then with_flags f t else set w rax v (with_flags f t)) j
        → SameThread (with_flags f (if b then t else set w rax v t)) j
    unfolding set
    with_compared true v f j same = same
    with_compared false v f j same = same

    -- RAX is set where the flags are
    accumulates : (v : ℕ) → v < 2 ^ bits w → (ke ko n : ℕ) (j : IrState) → SameThread (with_flags (Compared v) t) j → Holds n j ke Expected
        → Holds n j ko v
        → Does may (ends.Goto after) (leaves (Left v) then Follows may table) (sets_register 0 (accumulator w (Kept ke) (Kept ko)) done n) j
    unfolding register
    accumulates v fit ke ko n j same expected old =
        let u = with_flags (Compared v) t in
        let b = Expected == v in
        sets_register_does may (ends.Goto after) (leaves (Left v) then Follows may table) u n j 0 (accumulator w (Kept ke) (Kept ko))
        (accumulated w u b v) done same
        (below_accumulator w n ke ko expected.below old.below) (value_accumulator u j same ke ko v old.is w expected.is fit)
        (accumulated_below w u b v (same.fit 0 (omega arith)))
        (λ n' j' same' later. ends_does may place after fits table (Left v) j' (stays b v)
        (with_compared b v (Compared v) j' (same_compared w u b v j' same')))

  pub cmpxchg_means : (w : Width) (to from : Operand) (locked : Bool) → IsInMemory to → IsInRegister w from → Here
      (instr.Cmpxchg w to from locked)
  unfolding acts lifts cmpxchg_row address_of holds compares_locked lifted.fetches finds replaces_there
  cmpxchg_means w (operand.Mem m) (operand.Reg q) locked is held f t s at same =
      let end = ends.Goto after in
      let follows = Follows may table in
      let e = register w rax t in
      let v = register w q t in
      let low = low_register w rax refl (omega arith) in
      let out = λ (old : ℕ). alu_outcome op.Cmp (bits w) e old t.flags in
      let row = λ (old : ℕ). leaves (Left w t at old) in
      let tree = rows.cmpxchg_row may place w (operand.Mem m) (operand.Reg q) t then follows in
      let last = λ (ke ko : Formula). keeps (result place after op.Cmp w ke ko)
      (λ r. flags_of place after op.Cmp w ke ko r (sets_register 0 (accumulator w ke ko) done)) in
      keeps_does may end tree t temps s (register_formula w rax) e
      (λ ke. keeps (register_formula w q) (λ kv. keeps (address_formula m after)
      (λ p. replaces place (bytes w) (kept_in p) (kept_in ke) (kept_in kv) (last ke)))) same
      (below_register temps w rax) (value_register t s w rax same low)
      (λ ke n1 i1 same1 later1 expected.
      keeps_does may end tree t n1 i1 (register_formula w q) v
      (λ kv. keeps (address_formula m after) (λ p. replaces place (bytes w) (kept_in p) ke (kept_in kv) (last (Kept ke)))) same1
      (below_register n1 w q) (value_register t i1 w q same1 held)
      (λ kv n2 i2 same2 later2 new.
      keeps_does may end tree t n2 i2 (address_formula m after) (address m t)
      (λ p. replaces place (bytes w) (kept_in p) ke kv (last (Kept ke))) same2
      (below_address n2 m after) (value_address_at t i2 m after at fits same2 is)
      (λ tp n3 i3 same3 later3 there.
      let wanted = holds_later (later_then later2 later3) expected in
      replaces_does may end follows row t n3 i3 place (bytes w) (address m t) (last (Kept ke)) same3 tp there ke kv e v wanted
      (holds_later later3 new)
      (subst (λ k. e < k) (sym (width_bytes w)) (register_below w rax t))
      (λ old lt n4 i4 same4 later4 held4.
      let fit = subst (λ k. old < k) (width_bytes w) lt in
      let both : Both w n4 i4 ke n3 e old = record
      { first = holds_later later4 wanted; second = held4; fit = register_below w rax t; fits = fit } in
      let q' = row old then follows in
      keeps_does may end q' t n4 i4 (result place after op.Cmp w (Kept ke) (Kept n3)) (out old).value
      (λ r. flags_of place after op.Cmp w (Kept ke) (Kept n3) r (sets_register 0 (accumulator w (Kept ke) (Kept n3)) done)) same4
      (below_result place after op.Cmp w n4 ke n3 both.first.below both.second.below)
      (result_here place after op.Cmp w t.flags ke n3 e old n4 i4 both (has_flags t i4 same4))
      (λ kr n5 i5 same5 later5 difference.
      let still = both_later w n4 i4 ke n3 e old n5 i5 later5 both in
      flags_does place after op.Cmp w may end q' t n5 i5 ke n3 kr e old
      (sets_register 0 (accumulator w (Kept ke) (Kept n3)) done) same5 still difference
      (λ n6 i6 same6 later6. accumulates w t at old fit ke n3 n6 i6 same6 (holds_later later6 still.first)
      (holds_later later6 still.second)))))))
  cmpxchg_means w (operand.Mem m) (operand.Mem q) locked is held f t s at same = absurd held
  cmpxchg_means w (operand.Mem m) (operand.Imm n) locked is held f t s at same = absurd held
  cmpxchg_means w (operand.Reg r) from locked is held f t s at same = absurd is
  cmpxchg_means w (operand.Imm n) from locked is held f t s at same = absurd is
