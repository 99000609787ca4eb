-- Locked steps keep steps selectable.
use Rattle.std.proofs.Common.{◌≡◌, ℕ, ◌+◌, ◌≤◌, true, false, List, [], ◌∷◌, length, refl, inl, inr, subst, arith}
use Rattle.word_arith.specs.Masks.{ones}
use Rattle.x64_syntax.specs.Formed.{IsMemory, IsInMemory, IsInRegister, ArePair}
use Rattle.x64_syntax.specs.Operands.{bits, is_in_memory}
use Rattle.x64_syntax.specs.declared.instr.AluOp.{AluOp}
use Rattle.x64_syntax.specs.declared.instr.AluOp.TheVariants as op
use Rattle.x64_syntax.specs.declared.operand.Mem.{Mem}
use Rattle.x64_syntax.specs.declared.operand.Operand.{Operand}
use Rattle.x64_syntax.specs.declared.operand.Operand.TheVariants as operand
use Rattle.x64_syntax.specs.declared.operand.Width.{Width}
use Rattle.x64_syntax.specs.declared.operand.Width.TheVariants as width
use Rattle.x64_table.specs.State.{bytes, rax}
use Rattle.limm_ir.specs.Conditions.{IsSize}
use Rattle.limm_ir.specs.declared.block.IrEnd.{IrEnd}
use Rattle.limm_ir.specs.declared.block.IrEnd.TheVariants as ends
use Rattle.limm_ir.specs.declared.step.IrOp.TheVariants as ops
use Rattle.limm_ir.specs.declared.step.RmwOp.{RmwOp}
use Rattle.lift_alu.specs.Formulas.{Formula, Kept, Number, Operation, Lifting, done}
use Rattle.lift_alu.specs.Operands.{clean, address_formula}
use Rattle.lift_alu.specs.Locks.{modifies, replaces, locked_op, given, accumulator}
use Rattle.lift_alu.specs.Lifted.{result, locks, finds, modifies_there, replaces_there, combines_locked, increments_locked}
use Rattle.lift_alu.specs.Lifted.{decrements_locked, inverts_locked, swaps, adds_locked, compares_locked}
use Rattle.lift_alu.proofs.Tame.{Among, Tame, setting}
use Rattle.lift_alu.proofs.Modest.{ordinary, Within, within_more}
use Rattle.lift_alu.proofs.Bounds.{kept_within, number_within, one_within, by_one_within, merged_within, address_within}
use Rattle.lift_alu.proofs.Bounds.{result_within, sum_overflow_within, difference_overflow_within}
use Rattle.lift_alu.proofs.Liftings.{TameLifting, less_live, done_tame, keeps_tame, sets_register_tame, sets_result_tame}
use Rattle.lift_alu.proofs.OperandSteps.{size_of, Reached, reached_register, reached_pair, fetch_price, fetch_register, kept_in_three}
use Rattle.lift_alu.proofs.OperandSteps.{fetches_tame, puts_kept_operand_tame, flags_tame}

module _ (live : List ℕ) where
  -- what is given to the locked step of an operation
  given_within : (o : AluOp) (b : ℕ) → Among live b → Within live 3 4 (given o (Kept b))
  given_within op.Add b in_b = within_more (omega arith) (omega arith) (kept_within live b in_b)
  given_within op.Or b in_b = within_more (omega arith) (omega arith) (kept_within live b in_b)
  given_within op.Adc b in_b = record { sound = (in_b, omega arith, ordinary (λ k. tt)); in_room = omega arith; in_price = omega arith }
  given_within op.Sbb b in_b =
      record { sound = (tt, (in_b, omega arith, ordinary (λ k. tt)), ordinary (λ k. tt)); in_room = omega arith; in_price = omega arith }
  given_within op.And b in_b = record { sound = (in_b, tt, ordinary (λ k. tt)); in_room = omega arith; in_price = omega arith }
  given_within op.Sub b in_b = record { sound = (tt, in_b, ordinary (λ k. tt)); in_room = omega arith; in_price = omega arith }
  given_within op.Xor b in_b = within_more (omega arith) (omega arith) (kept_within live b in_b)
  given_within op.Cmp b in_b = within_more (omega arith) (omega arith) (kept_within live b in_b)

  -- RAX after CMPXCHG
  accumulator_within : (w : Width) (e old : ℕ) → Among live e → Among live old → Within live 4 6 (accumulator w (Kept e) (Kept old))
  unfolding accumulator
  accumulator_within width.Byte e old in_e in_old =
      merged_within live 0 (Kept old) (omega arith) (omega arith) (kept_in_three live old in_old) width.Byte false
  accumulator_within width.Word e old in_e in_old =
      merged_within live 0 (Kept old) (omega arith) (omega arith) (kept_in_three live old in_old) width.Word false
  accumulator_within width.Quad e old in_e in_old =
      merged_within live 0 (Kept old) (omega arith) (omega arith) (kept_in_three live old in_old) width.Quad false
  accumulator_within width.Long e old in_e in_old =
      record { sound = ((in_e, in_old, ordinary (λ k. tt)), omega arith, in_old); in_room = omega arith; in_price = omega arith }

module _ (end : IrEnd) where
  -- what is at an address is changed
  modifies_tame : (live : List ℕ) (o : RmwOp) (at count address v most left : ℕ) (rest : Formula → Lifting) → IsSize count
      → Among live address → Among live v → length live ≤ 5 → 3 + left ≤ most
      → ((t : ℕ) → TameLifting end (t ∷ live) left (rest (Kept t))) → TameLifting end live most (modifies o at count address v rest)
  unfolding modifies
  modifies_tame live o at count address v most left rest is in_address in_v few cost tame next =
      setting refl (in_address, (in_v, tt)) (λ known. is) few (omega (arith, cost)) (omega (arith, cost))
      (subst (λ n. Tame end (next ∷ live) n left (rest (Kept next) (next + 1))) (omega arith) (tame next (next + 1)))

  -- a value takes the place of another
  replaces_tame : (live : List ℕ) (at count address e v most left : ℕ) (rest : Formula → Lifting) → IsSize count → Among live address
      → Among live e → Among live v → length live ≤ 5
      → 4 + left ≤ most → ((t : ℕ) → TameLifting end (t ∷ live) left (rest (Kept t)))
      → TameLifting end live most (replaces at count address e v rest)
  unfolding replaces
  replaces_tame live at count address e v most left rest is in_address in_e in_v few cost tame next =
      setting refl (in_address, (in_e, (in_v, tt))) (λ known. is) few (omega (arith, cost)) (omega (arith, cost))
      (subst (λ n. Tame end (next ∷ live) n left (rest (Kept next) (next + 1))) (omega arith) (tame next (next + 1)))

  module _ (at after : ℕ) where
    -- memory is changed by what costs at most 4
    locks_tame : (live : List ℕ) (o : RmwOp) (w : Width) (m : Mem) (e : Formula) (most left : ℕ) (rest : Formula → Lifting) → IsMemory m
        → length live ≤ 2
        → ((seen : List ℕ) → ((t : ℕ) → Among live t → Among seen t) → Within seen 3 4 e) → 17 + left ≤ most
        → ((a : ℕ) → TameLifting end (a ∷ live) left (rest (Kept a)))
        → TameLifting end live most (locks at after o w (operand.Mem m) e rest)
    unfolding locks finds modifies_there
    locks_tame live o w m e most left rest is few within cost tame =
        keeps_tame end (address_formula m after) (address_within live m after is) (omega (arith, few)) most (7 + left) _
        (omega (arith, cost))
        (λ address. keeps_tame end e (within (address ∷ live) (λ t among. inr among)) (omega (arith, few)) (7 + left) (3 + left) _
        (omega arith)
        (λ v. modifies_tame (v ∷ address ∷ live) o at (bytes w) address v (3 + left) left rest (size_of w) (inr (inl refl)) (inl refl)
        (omega (arith, few)) (omega arith)
        (λ a. less_live end (a ∷ v ∷ address ∷ live) (a ∷ live) _ (old_only a v address) (tame a))))
      where
        old_only : (a v address t : ℕ) → Among (a ∷ live) t → Among (a ∷ v ∷ address ∷ live) t
        old_only a v address t (inl same) = inl same
        old_only a v address t (inr among) = inr (inr (inr among))

-- the second operand of a pair is no memory where the first is
second_price : (w : Width) (m : Mem) (from : Operand) → ArePair w (operand.Mem m) from → fetch_price from ≤ 5
second_price w m from (inl both) = fetch_register w from both.1
second_price w m from (inr (inl both)) = absurd both.0
second_price w m (operand.Imm n) (inr (inr both)) = omega arith
second_price w m (operand.Reg r) (inr (inr both)) = absurd both.1
second_price w m (operand.Mem q) (inr (inr both)) = absurd both.1

module _ (at after goal : ℕ) where
  -- where these instructions end
  abbrev goto : IrEnd
  goto = ends.Goto goal

  -- a locked instruction begins with nothing live, and costs at most 62
  abbrev Few : Lifting → Type 0
  Few l = TameLifting goto [] 62 l

  -- nothing is left to do
  nothing_left : (live : List ℕ) (most : ℕ) → TameLifting goto live most done
  nothing_left live most = done_tame goto live most tt tt

  pub combines_locked_tame : (o : AluOp) (w : Width) (to from : Operand) → is_in_memory to ≡ true → ArePair w to from → Few
      (combines_locked at after o w to from)
  unfolding combines_locked
  combines_locked_tame o w (operand.Mem m) from memory pair =
      let is = reached_pair w (operand.Mem m) from pair in
      fetches_tame goto at after [] w from 62 57 _ is.1 (omega arith) (omega (arith, second_price w m from pair))
      (λ b. locks_tame goto at after (b ∷ []) (locked_op o) w m (given o (Kept b)) 57 40 _ is.0 (omega arith)
      (λ seen grows. given_within seen o b (grows b (inl refl))) (omega arith)
      (λ a. keeps_tame goto (result at after o w (Kept a) (Kept b))
      (result_within (a ∷ b ∷ []) at after a b (inl refl) (inr (inl refl)) o w) (omega arith) 40 35 _ (omega arith)
      (λ r. flags_tame goto at after (r ∷ a ∷ b ∷ []) w a b r (inr (inl refl)) (inr (inr (inl refl))) (inl refl) (omega arith) o 35 13 done
      (omega arith) (nothing_left (r ∷ a ∷ b ∷ []) 13))))
  combines_locked_tame o w (operand.Reg r) from memory pair = absurd cc
  combines_locked_tame o w (operand.Imm n) from memory pair = absurd cc

  pub increments_locked_tame : (w : Width) (to : Operand) → is_in_memory to ≡ true → Reached to → Few (increments_locked at after w to)
  unfolding increments_locked
  increments_locked_tame w (operand.Mem m) memory is =
      locks_tame goto at after [] _ w m (Number 1) 62 45 _ is (omega arith)
      (λ seen grows. within_more (omega arith) (omega arith) (one_within seen)) (omega arith)
      (λ a. keeps_tame goto (clean w (Operation ops.Add (Kept a) (Number 1)))
      (by_one_within (a ∷ []) ops.Add (λ k. tt) (omega arith) w a (inl refl)) (omega arith) 45 40 _ (omega arith)
      (λ r. sets_result_tame goto (r ∷ a ∷ []) w r _ (omega arith) (inl refl)
      (sum_overflow_within (r ∷ a ∷ []) w a r (Number 1) (inr (inl refl)) (inl refl) (one_within (r ∷ a ∷ []))) 40 26 done (omega arith)
      (nothing_left (r ∷ a ∷ []) 26)))
  increments_locked_tame w (operand.Reg r) memory is = absurd cc
  increments_locked_tame w (operand.Imm n) memory is = absurd cc

  pub decrements_locked_tame : (w : Width) (to : Operand) → is_in_memory to ≡ true → Reached to → Few (decrements_locked at after w to)
  unfolding decrements_locked
  decrements_locked_tame w (operand.Mem m) memory is =
      locks_tame goto at after [] _ w m (Number (ones 64)) 62 45 _ is (omega arith)
      (λ seen grows. within_more (omega arith) (omega arith) (number_within seen (ones 64))) (omega arith)
      (λ a. keeps_tame goto (clean w (Operation ops.Sub (Kept a) (Number 1)))
      (by_one_within (a ∷ []) ops.Sub (λ k. tt) (omega arith) w a (inl refl)) (omega arith) 45 40 _ (omega arith)
      (λ r. sets_result_tame goto (r ∷ a ∷ []) w r _ (omega arith) (inl refl)
      (difference_overflow_within (r ∷ a ∷ []) w a r (Number 1) (inr (inl refl)) (inl refl) (one_within (r ∷ a ∷ []))) 40 26 done
      (omega arith) (nothing_left (r ∷ a ∷ []) 26)))
  decrements_locked_tame w (operand.Reg r) memory is = absurd cc
  decrements_locked_tame w (operand.Imm n) memory is = absurd cc

  pub inverts_locked_tame : (w : Width) (to : Operand) → is_in_memory to ≡ true → Reached to → Few (inverts_locked at after w to)
  unfolding inverts_locked
  inverts_locked_tame w (operand.Mem m) memory is =
      locks_tame goto at after [] _ w m (Number (ones (bits w))) 62 45 _ is (omega arith)
      (λ seen grows. within_more (omega arith) (omega arith) (number_within seen (ones (bits w)))) (omega arith)
      (λ a. nothing_left (a ∷ []) 45)
  inverts_locked_tame w (operand.Reg r) memory is = absurd cc
  inverts_locked_tame w (operand.Imm n) memory is = absurd cc

  -- XCHG and XADD with memory, of a register
  module _ (w : Width) (m : Mem) (from : Operand) (is : IsMemory m) (held : IsInRegister w from) where
    pub swaps_tame : Few (swaps at after w (operand.Mem m) from)
    unfolding swaps
    swaps_tame =
        fetches_tame goto at after [] w from 62 57 _ (reached_register w from held) (omega arith)
        (omega (arith, fetch_register w from held))
        (λ b. locks_tame goto at after (b ∷ []) _ w m (Kept b) 57 40 _ is (omega arith)
        (λ seen grows. within_more (omega arith) (omega arith) (kept_within seen b (grows b (inl refl)))) (omega arith)
        (λ a. puts_kept_operand_tame goto at after (a ∷ b ∷ []) w from a 40 33 done (reached_register w from held) (inl refl) (omega arith)
        (omega arith) (nothing_left (a ∷ b ∷ []) 33)))

    pub adds_locked_tame : Few (adds_locked at after w (operand.Mem m) from)
    unfolding adds_locked
    adds_locked_tame =
        fetches_tame goto at after [] w from 62 57 _ (reached_register w from held) (omega arith)
        (omega (arith, fetch_register w from held))
        (λ b. locks_tame goto at after (b ∷ []) _ w m (Kept b) 57 40 _ is (omega arith)
        (λ seen grows. within_more (omega arith) (omega arith) (kept_within seen b (grows b (inl refl)))) (omega arith)
        (λ a. keeps_tame goto (result at after op.Add w (Kept a) (Kept b))
        (result_within (a ∷ b ∷ []) at after a b (inl refl) (inr (inl refl)) op.Add w) (omega arith) 40 35 _ (omega arith)
        (λ r. flags_tame goto at after (r ∷ a ∷ b ∷ []) w a b r (inr (inl refl)) (inr (inr (inl refl))) (inl refl)
        (omega arith) op.Add 35 13 _ (omega arith)
        (less_live goto (r ∷ a ∷ b ∷ []) (a ∷ []) _ (old_only r a b)
        (puts_kept_operand_tame goto at after (a ∷ []) w from a 13 6 done (reached_register w from held) (inl refl) (omega arith)
        (omega arith) (nothing_left (a ∷ []) 6))))))
      where
        old_only : (r a b t : ℕ) → Among (a ∷ []) t → Among (r ∷ a ∷ b ∷ []) t
        old_only r a b t (inl same) = inr (inl same)
        old_only r a b t (inr none) = absurd none

  -- CMPXCHG
  pub compares_locked_tame : (w : Width) (to from : Operand) → IsInMemory to → IsInRegister w from → Few
      (compares_locked at after w to from)
  unfolding compares_locked finds replaces_there
  compares_locked_tame w (operand.Mem m) from is held =
      fetches_tame goto at after [] w (operand.Reg rax) 62 57 _ (omega arith) (omega arith) (omega arith)
      (λ e. fetches_tame goto at after (e ∷ []) w from 57 52 _ (reached_register w from held) (omega arith)
      (omega (arith, fetch_register w from held))
      (λ v. keeps_tame goto (address_formula m after) (address_within (v ∷ e ∷ []) m after is) (omega arith) 52 42 _ (omega arith)
      (λ p. replaces_tame goto (p ∷ v ∷ e ∷ []) at (bytes w) p e v 42 38 _ (size_of w) (inl refl) (inr (inr (inl refl))) (inr (inl refl))
      (omega arith) (omega arith)
      (λ old. less_live goto (old ∷ p ∷ v ∷ e ∷ []) (old ∷ e ∷ []) _ (compared_only old p v e)
      (keeps_tame goto (result at after op.Cmp w (Kept e) (Kept old))
      (result_within (old ∷ e ∷ []) at after e old (inr (inl refl)) (inl refl) op.Cmp w) (omega arith) 38 33 _ (omega arith)
      (λ r. flags_tame goto at after (r ∷ old ∷ e ∷ []) w e old r (inr (inr (inl refl))) (inr (inl refl)) (inl refl)
      (omega arith) op.Cmp 33 11 _ (omega arith)
      (less_live goto (r ∷ old ∷ e ∷ []) (old ∷ e ∷ []) _ (λ t among. inr among)
      (sets_register_tame goto (accumulator w (Kept e) (Kept old)) (accumulator_within (old ∷ e ∷ []) w e old (inr (inl refl)) (inl refl))
      (omega arith) 0 11 4 done (omega arith) (omega arith)
      (nothing_left (old ∷ e ∷ []) 4)))))))))
    where
      compared_only : (old p v e t : ℕ) → Among (old ∷ e ∷ []) t → Among (old ∷ p ∷ v ∷ e ∷ []) t
      compared_only old p v e t (inl same) = inl same
      compared_only old p v e t (inr among) = inr (inr (inr among))
  compares_locked_tame w (operand.Reg r) from is held = absurd is
  compares_locked_tame w (operand.Imm n) from is held = absurd is
