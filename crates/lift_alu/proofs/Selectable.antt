-- The steps of an instruction cost little, use their own temporaries, and have few of them live.
use Rattle.std.proofs.Common.{◌≡◌, ℕ, ◌+◌, ◌^◌, ◌<◌, ◌≤◌, true, false, List, [], ◌∷◌, length, refl, inl, inr, ◌⊎◌, arith}
use Rattle.word_arith.specs.Masks.{ones}
use Rattle.x64_syntax.specs.Formed.{IsFormed, IsFlowOf, IsStored, IsNumber, IsInRegister, IsInMemory}
use Rattle.x64_syntax.specs.Operands.{bits}
use Rattle.x64_syntax.specs.declared.instr.AluOp.{AluOp}
use Rattle.x64_syntax.specs.declared.instr.AluOp.TheVariants as op
use Rattle.x64_syntax.specs.declared.instr.Instr.{Instr}
use Rattle.x64_syntax.specs.declared.instr.Instr.TheVariants as instr
use Rattle.x64_syntax.specs.declared.operand.Operand.{Operand}
use Rattle.x64_syntax.specs.declared.operand.Operand.TheVariants as operand
use Rattle.x64_syntax.specs.declared.operand.Width.{Width}
use Rattle.x64_syntax.specs.declared.operand.Width.TheVariants as width
use Rattle.x64_syntax.specs.declared.placed.Flow.{Flow}
use Rattle.x64_syntax.specs.declared.placed.Flow.TheVariants as flow
use Rattle.x64_table.specs.State.{rax, upper}
use Rattle.x64_table.specs.Rows.{half}
use Rattle.limm_ir.specs.Conditions.{IsSelectable, Known, Unset, HasConstant}
use Rattle.limm_ir.specs.Costs.{op_cost, cost_of, fenced_cost}
use Rattle.limm_ir.specs.declared.block.IrEnd.{IrEnd}
use Rattle.limm_ir.specs.declared.block.IrEnd.TheVariants as ends
use Rattle.limm_ir.specs.declared.step.IrOp.{IrOp}
use Rattle.limm_ir.specs.declared.step.IrOp.TheVariants as ops
use Rattle.lift_alu.specs.Built.{is_lifted}
use Rattle.lift_alu.specs.Formulas.{Formula, Kept, Number, Register, Operation, Choice, Lifting, done, temp, place, keeps, sets_register}
use Rattle.lift_alu.specs.Operands.{clean, with_sign, register_formula}
use Rattle.lift_alu.specs.Flags.{top, sum_overflow, difference_overflow, borrow, sets_result, sets_flags, condition_formula}
use Rattle.lift_alu.specs.Lifted.{puts, fetches, puts_operand, changes, result, flags_of, compares, combines, lifts_alu, takes_address, exchanges, adds_exchanged, pushes, pops, leaves_frame, chooses, fences, moves, lifts, takes_in, puts_out, writes_return, calls, jumps, lifts_with}
use Rattle.lift_alu.specs.Meant.{end_from, led_to, words_of, SetsFrom}
use Rattle.lift_alu.proofs.Tame.{Among, Tame, tame_more, ended, acting, tame_cost, tame_well, tame_sets, tame_once, tame_few}
use Rattle.lift_alu.proofs.Modest.{ordinary, own_one, Within}
use Rattle.lift_alu.proofs.Bounds.{number_most, number_within, kept_within, small_within, clean_within, with_sign_within, register_within, address_within, top_within, result_within, sum_overflow_within, difference_overflow_within, condition_within}
use Rattle.lift_alu.proofs.Bounds.{one_within, by_one_within}
use Rattle.lift_alu.proofs.Liftings.{TameLifting, less_live, done_tame, keeps_at, keeps_tame, sets_register_tame, loads_at, loads_tame, stores_tame, sets_result_tame, sets_flags_tame}
use Rattle.lift_alu.proofs.OperandSteps.{Reached, reached_stored, reached_register, reached_number, reached_pair, fetch_price, fetch_most, puts_tame, fetches_tame, moves_tame, kept_in_three, puts_operand_tame, puts_kept_operand_tame, flags_tame, changes_tame}
use Rattle.lift_alu.proofs.OperandSteps.{fetch_register}
use Rattle.lift_alu.proofs.LockSteps.{combines_locked_tame, increments_locked_tame, decrements_locked_tame, inverts_locked_tame, swaps_tame}
use Rattle.lift_alu.proofs.LockSteps.{adds_locked_tame, compares_locked_tame}
use Rattle.lift_alu.proofs.ProductSteps.{multiplies_tame, multiplies_into_tame}
use Rattle.lift_alu.proofs.QuotientSteps.{divides_tame}
use Rattle.lift_alu.proofs.ShiftSteps.{shifts_tame}

-- the stack pointer, or the frame's, eight bytes further up or down
above : (live : List ℕ) (r : ℕ) → r < 16 → Within live 3 3 (Operation ops.Add (Register r) (Number 8))
above live r is = record { sound = (is, tt, ordinary (λ k. tt)); in_room = omega arith; in_price = omega arith }

below : (live : List ℕ) (r : ℕ) → r < 16 → Within live 3 3 (Operation ops.Sub (Register r) (Number 8))
below live r is = record { sound = (is, tt, ordinary (λ k. tt)); in_room = omega arith; in_price = omega arith }

-- what is in a register
pointer_within : (live : List ℕ) (r : ℕ) → r < 16 → Within live 1 1 (Register r)
pointer_within live r is = record { sound = is; in_room = omega arith; in_price = omega arith }

-- what is pushed
reached_pushed : (o : Operand) → (IsStored width.Quad o ⊎ IsNumber width.Quad o) → Reached o
reached_pushed o (inl stored) = reached_stored width.Quad o stored
reached_pushed o (inr number) = reached_number width.Quad o number

module _ (at after goal : ℕ) where
  -- the block goes on where these instructions end
  abbrev goto : IrEnd
  goto = ends.Goto goal

  -- a lifting that begins with nothing live, and costs at most 62
  abbrev Few : Lifting → Type 0
  Few l = TameLifting goto [] 62 l

  -- nothing is left to do, and nothing is read any more
  nothing_left : (live : List ℕ) (most : ℕ) → TameLifting goto live most done
  nothing_left live most = done_tame goto live most tt tt

  -- two operands and an operation

  compares_tame : (o : AluOp) (w : Width) (to from : Operand) → Reached to → Reached from → Few (compares at after o w to from)
  unfolding compares
  compares_tame o w to from is_to is_from =
      fetches_tame goto at after [] w to 62 50 _ is_to (omega arith) (omega (arith, fetch_most to))
      (λ a. fetches_tame goto at after (a ∷ []) w from 50 38 _ is_from (omega arith) (omega (arith, fetch_most from))
      (λ b. keeps_tame goto (result at after o w (Kept a) (Kept b)) (result_within (b ∷ a ∷ []) at after a b (inr (inl refl)) (inl refl) o w) (omega arith) 38 33 _ (omega arith)
      (λ r. flags_tame goto at after (r ∷ b ∷ a ∷ []) w a b r (inr (inr (inl refl))) (inr (inl refl)) (inl refl) (omega arith) o 33 11 done (omega arith)
      (nothing_left (r ∷ b ∷ a ∷ []) 11))))

  combines_tame : (o : AluOp) (w : Width) (to from : Operand) → Reached to → Reached from → Few (combines at after o w to from)
  unfolding combines
  combines_tame o w to from is_to is_from =
      fetches_tame goto at after [] w from 62 50 _ is_from (omega arith) (omega (arith, fetch_most from))
      (λ b. changes_tame goto at after (b ∷ []) w (λ a. result at after o w a (Kept b)) (λ a r. flags_of at after o w a (Kept b) r) (omega arith)
      (λ seen a grows in_a. result_within seen at after a b in_a (grows b (inl refl)) o w)
      (λ a r most left rest cost tame. flags_tame goto at after (r ∷ a ∷ b ∷ []) w a b r (inr (inl refl)) (inr (inr (inl refl))) (inl refl) (omega arith) o most left rest cost tame)
      nothing_left to 50 is_to (omega arith))

  alu_tame : (o : AluOp) (w : Width) (to from : Operand) → Reached to → Reached from → Few (lifts_alu at after o w to from)
  alu_tame op.Cmp w to from is_to is_from = compares_tame op.Cmp w to from is_to is_from
  alu_tame o w to from is_to is_from = combines_tame o w to from is_to is_from

  address_tame : (w : Width) (to from : Operand) → Reached to → IsInMemory from → Few (takes_address at after w to from)
  unfolding takes_address
  address_tame w to (operand.Mem m) is_to is_from =
      puts_operand_tame goto at after w to _ 62 0 done (clean_within [] w _ (omega arith) (address_within [] m after is_from)) (omega arith) (omega arith) is_to (omega arith)
      (nothing_left [] 0)
  address_tame w to (operand.Reg r) is_to is_from = elim is_from [ ]
  address_tame w to (operand.Imm n) is_to is_from = elim is_from [ ]

  exchanges_tame : (w : Width) (to from : Operand) → Reached to → Reached from → Few (exchanges at after w to from)
  unfolding exchanges
  exchanges_tame w to from is_to is_from =
      fetches_tame goto at after [] w to 62 50 _ is_to (omega arith) (omega (arith, fetch_most to))
      (λ a. fetches_tame goto at after (a ∷ []) w from 50 38 _ is_from (omega arith) (omega (arith, fetch_most from))
      (λ b. puts_kept_operand_tame goto at after (b ∷ a ∷ []) w from a 38 31 _ is_from (inr (inl refl)) (omega arith) (omega arith)
      (puts_kept_operand_tame goto at after (b ∷ a ∷ []) w to b 31 24 done is_to (inl refl) (omega arith) (omega arith) (nothing_left (b ∷ a ∷ []) 24))))

  adds_exchanged_tame : (w : Width) (to from : Operand) → Reached to → IsInRegister w from → Few (adds_exchanged at after w to from)
  unfolding adds_exchanged
  adds_exchanged_tame w to from is_to in_register =
      let is_from = reached_register w from in_register in
      fetches_tame goto at after [] w to 62 50 _ is_to (omega arith) (omega (arith, fetch_most to))
      (λ a. fetches_tame goto at after (a ∷ []) w from 50 45 _ is_from (omega arith) (omega (arith, fetch_register w from in_register))
      (λ b. keeps_tame goto (result at after op.Add w (Kept a) (Kept b)) (result_within (b ∷ a ∷ []) at after a b (inr (inl refl)) (inl refl) op.Add w) (omega arith) 45 40 _
      (omega arith)
      (λ r. flags_tame goto at after (r ∷ b ∷ a ∷ []) w a b r (inr (inr (inl refl))) (inr (inl refl)) (inl refl) (omega arith) op.Add 40 18 _ (omega arith)
      (less_live goto (r ∷ b ∷ a ∷ []) (r ∷ a ∷ []) _ (but_second r b a)
      (puts_kept_operand_tame goto at after (r ∷ a ∷ []) w from a 18 11 _ is_from (inr (inl refl)) (omega arith) (omega arith)
      (puts_kept_operand_tame goto at after (r ∷ a ∷ []) w to r 11 4 done is_to (inl refl) (omega arith) (omega arith) (nothing_left (r ∷ a ∷ []) 4)))))))
    where
      but_second : (r b a t : ℕ) → Among (r ∷ a ∷ []) t → Among (r ∷ b ∷ a ∷ []) t
      but_second r b a t (inl same) = inl same
      but_second r b a t (inr among) = inr (inr among)

  -- the stack

  pushes_tame : (from : Operand) → Reached from → Few (pushes at after from)
  unfolding pushes
  pushes_tame from is =
      fetches_tame goto at after [] width.Quad from 62 50 _ is (omega arith) (omega (arith, fetch_most from))
      (λ v. keeps_tame goto (Operation ops.Sub (Register 4) (Number 8)) (below (v ∷ []) 4 (omega arith)) (omega arith) 50 47 _ (omega arith)
      (λ address. stores_tame goto (address ∷ v ∷ []) at 8 address v 47 45 _ (inr (inr (inr refl))) (inl refl) (inr (inl refl)) (omega arith) (omega arith)
      (sets_register_tame goto (Kept address) (kept_within (address ∷ v ∷ []) address (inl refl)) (omega arith) 4 45 44 done (omega arith) (omega arith)
      (nothing_left (address ∷ v ∷ []) 44))))

  pop_tame : (to : Operand) → Reached to → Few (pops at after (λ v. moves at after width.Quad to v done))
  unfolding pops
  pop_tame to is =
      loads_tame goto (Register 4) (pointer_within [] 4 (omega arith)) (omega arith) at 8 62 59 _ (inr (inr (inr refl))) (omega arith) (omega arith)
      (λ v. sets_register_tame goto (Operation ops.Add (Register 4) (Number 8)) (above (v ∷ []) 4 (omega arith)) (omega arith) 4 59 55 _ (omega arith) (omega arith)
      (moves_tame goto at after (v ∷ []) width.Quad to v 55 43 done is (inl refl) (omega arith) (omega arith) (nothing_left (v ∷ []) 43)))

  leave_tame : Few (leaves_frame at after)
  unfolding leaves_frame
  leave_tame =
      loads_tame goto (Register 5) (pointer_within [] 5 (omega arith)) (omega arith) at 8 62 59 _ (inr (inr (inr refl))) (omega arith) (omega arith)
      (λ v. sets_register_tame goto (Operation ops.Add (Register 5) (Number 8)) (above (v ∷ []) 5 (omega arith)) (omega arith) 4 59 55 _ (omega arith) (omega arith)
      (sets_register_tame goto (Kept v) (kept_within (v ∷ []) v (inl refl)) (omega arith) 5 55 54 done (omega arith) (omega arith) (nothing_left (v ∷ []) 54)))

  -- conditions

  sets_condition_tame : (code : ℕ) (to : Operand) → Reached to → Few (keeps (condition_formula code) (λ v. moves at after width.Byte to v done))
  sets_condition_tame code to is =
      keeps_tame goto (condition_formula code) (condition_within [] code) (omega arith) 62 55 _ (omega arith)
      (λ v. moves_tame goto at after (v ∷ []) width.Byte to v 55 43 done is (inl refl) (omega arith) (omega arith) (nothing_left (v ∷ []) 43))

  chooses_tame : (code : ℕ) (w : Width) (to from : Operand) → Reached to → Reached from → Few (fetches at after w from (λ v. chooses at after code w to v))
  unfolding chooses
  chooses_tame code w to from is_to is_from =
      fetches_tame goto at after [] w from 62 50 _ is_from (omega arith) (omega (arith, fetch_most from)) (λ v. chosen to is_to v)
    where
      chosen : (to : Operand) → Reached to → (v : ℕ) → TameLifting goto (v ∷ []) 50 (chooses at after code w to (Kept v))
      chosen (operand.Reg r) is v =
          let c = condition_within (v ∷ []) code in
          let old = register_within (v ∷ []) w r is in
          let chosen_within : Within (v ∷ []) 4 14 (Choice (condition_formula code) (Kept v) (register_formula w r)) =
          record {
            sound = (c.sound, inl refl, old.sound);
            in_room = omega (arith, c.in_room, old.in_room, own_one (condition_formula code), own_one (register_formula w r));
            in_price = omega (arith, c.in_price, old.in_price);
          } in
          puts_tame goto w r _ 50 29 done chosen_within (omega arith) (omega arith) is (omega arith) (nothing_left (v ∷ []) 29)
      chosen (operand.Mem m) is v = nothing_left (v ∷ []) 50
      chosen (operand.Imm n) is v = nothing_left (v ∷ []) 50

  -- one operand that changes

  increases_tame : (w : Width) (to : Operand) → Reached to
      → Few (changes at after w to (λ a. clean w (Operation ops.Add a (Number 1))) (λ a r. sets_result w (sum_overflow w a (Number 1) r) r))
  increases_tame w to is =
      changes_tame goto at after [] w _ _ (omega arith) (λ seen a grows in_a. by_one_within seen ops.Add (λ k. tt) (omega arith) w a in_a)
      (λ a r most left rest cost tame. sets_result_tame goto (r ∷ a ∷ []) w r _ (omega arith) (inl refl) (overflow a r) most left rest (omega (arith, cost)) tame)
      nothing_left to 62 is (omega arith)
    where
      overflow : (a r : ℕ) → Within (r ∷ a ∷ []) 3 6 (sum_overflow w (Kept a) (Number 1) (Kept r))
      overflow a r = sum_overflow_within (r ∷ a ∷ []) w a r (Number 1) (inr (inl refl)) (inl refl) (one_within (r ∷ a ∷ []))

  decreases_tame : (w : Width) (to : Operand) → Reached to
      → Few (changes at after w to (λ a. clean w (Operation ops.Sub a (Number 1))) (λ a r. sets_result w (difference_overflow w a (Number 1) r) r))
  decreases_tame w to is =
      changes_tame goto at after [] w _ _ (omega arith) (λ seen a grows in_a. by_one_within seen ops.Sub (λ k. tt) (omega arith) w a in_a)
      (λ a r most left rest cost tame. sets_result_tame goto (r ∷ a ∷ []) w r _ (omega arith) (inl refl) (overflow a r) most left rest (omega (arith, cost)) tame)
      nothing_left to 62 is (omega arith)
    where
      overflow : (a r : ℕ) → Within (r ∷ a ∷ []) 3 6 (difference_overflow w (Kept a) (Number 1) (Kept r))
      overflow a r = difference_overflow_within (r ∷ a ∷ []) w a r (Number 1) (inr (inl refl)) (inl refl) (one_within (r ∷ a ∷ []))

  turns_tame : (w : Width) (to : Operand) → Reached to → Few (changes at after w to (λ a. Operation ops.Xor a (Number (ones (bits w)))) (λ a r rest. rest))
  turns_tame w to is =
      changes_tame goto at after [] w _ _ (omega arith) turned (λ a r most left rest cost tame next. tame_more (omega (arith, cost)) (tame next)) nothing_left to 62 is (omega arith)
    where
      turned : (seen : List ℕ) (a : ℕ) → ((t : ℕ) → Among [] t → Among seen t) → Among seen a → Within seen 3 5 (Operation ops.Xor (Kept a) (Number (ones (bits w))))
      turned seen a grows in_a = record { sound = (in_a, tt, ordinary (λ k. tt)); in_room = omega arith; in_price = omega (arith, number_most (ones (bits w))) }

  negates_tame : (w : Width) (to : Operand) → Reached to
      → Few (changes at after w to (λ a. clean w (Operation ops.Sub (Number 0) a)) (λ a r. sets_flags w (top w (Operation ops.And a r)) (borrow (Number 0) a) r))
  negates_tame w to is =
      changes_tame goto at after [] w _ _ (omega arith) (λ seen a grows in_a. clean_within seen w _ (omega arith) (negated seen a in_a))
      (λ a r most left rest cost tame. sets_flags_tame goto (r ∷ a ∷ []) w r _ (omega arith) (inl refl) (top_within (r ∷ a ∷ []) w _ (omega arith) (both a r)) _ most left rest
      (borrowed a r) cost tame)
      nothing_left to 62 is (omega arith)
    where
      negated : (seen : List ℕ) (a : ℕ) → Among seen a → Within seen 3 3 (Operation ops.Sub (Number 0) (Kept a))
      negated seen a in_a = record { sound = (tt, in_a, ordinary (λ k. tt)); in_room = omega arith; in_price = omega arith }

      both : (a r : ℕ) → Within (r ∷ a ∷ []) 3 4 (Operation ops.And (Kept a) (Kept r))
      both a r = record { sound = (inr (inl refl), inl refl, ordinary (λ k. tt)); in_room = omega arith; in_price = omega arith }

      borrowed : (a r : ℕ) → Within (r ∷ a ∷ []) 3 7 (borrow (Number 0) (Kept a))
      borrowed a r = record { sound = (tt, inr (inl refl), ordinary (λ k. tt)); in_room = omega arith; in_price = omega arith }

  -- moves

  copies_tame : (w : Width) (to from : Operand) → Reached to → Reached from → Few (fetches at after w from (λ v. moves at after w to v done))
  copies_tame w to from is_to is_from =
      fetches_tame goto at after [] w from 62 50 _ is_from (omega arith) (omega (arith, fetch_most from))
      (λ v. moves_tame goto at after (v ∷ []) w to v 50 38 done is_to (inl refl) (omega arith) (omega arith) (nothing_left (v ∷ []) 38))

  extends_tame : (w v : Width) (to from : Operand) → Reached to → Reached from → Few (fetches at after v from (λ a. puts_operand at after w to a done))
  extends_tame w v to from is_to is_from =
      fetches_tame goto at after [] v from 62 50 _ is_from (omega arith) (omega (arith, fetch_most from))
      (λ a. puts_kept_operand_tame goto at after (a ∷ []) w to a 50 43 done is_to (inl refl) (omega arith) (omega arith) (nothing_left (a ∷ []) 43))

  sign_extends_tame : (to from : Operand) → Reached to → Reached from → Few (fetches at after width.Long from (λ a. puts_operand at after width.Quad to (with_sign width.Long a) done))
  sign_extends_tame to from is_to is_from =
      fetches_tame goto at after [] width.Long from 62 50 _ is_from (omega arith) (omega (arith, fetch_most from))
      (λ a. puts_operand_tame goto at after width.Quad to _ 50 0 done (with_sign_within (a ∷ []) width.Long (Kept a) (omega arith) (kept_in_three (a ∷ []) a (inl refl)))
      (omega arith) (omega arith) is_to (omega arith) (nothing_left (a ∷ []) 0))

  signed_tame : (w v : Width) (to from : Operand) → Reached to → Reached from → Few (fetches at after v from (λ a. puts_operand at after w to (clean w (with_sign v a)) done))
  signed_tame w v to from is_to is_from =
      fetches_tame goto at after [] v from 62 50 _ is_from (omega arith) (omega (arith, fetch_most from))
      (λ a. puts_operand_tame goto at after w to _ 50 0 done
      (clean_within (a ∷ []) w _ (omega arith) (with_sign_within (a ∷ []) v (Kept a) (omega arith) (kept_in_three (a ∷ []) a (inl refl))))
      (omega arith) (omega arith) is_to (omega arith) (nothing_left (a ∷ []) 0))

  widens_tame : (w : Width) → Few (puts w rax (clean w (with_sign (half w) (register_formula (half w) rax))) done)
  widens_tame w =
      puts_tame goto w rax _ 62 0 done (clean_within [] w _ (omega arith) (with_sign_within [] (half w) _ (omega arith) (register_within [] (half w) rax (omega arith))))
      (omega arith) (omega arith) (omega arith) (omega arith) (nothing_left [] 0)

  fills_tame : (w : Width) → Few (puts w (upper w) (clean w (Operation ops.Sar (with_sign w (register_formula w rax)) (Number 63))) done)
  fills_tame w =
      let old = with_sign_within [] w _ (omega arith) (register_within [] w rax (omega arith)) in
      let shifted : Within [] 3 9 (Operation ops.Sar (with_sign w (register_formula w rax)) (Number 63)) =
      record { sound = (old.sound, tt, ordinary (λ k. tt)); in_room = omega (arith, old.in_room, own_one (with_sign w (register_formula w rax))); in_price = omega (arith, old.in_price) } in
      puts_tame goto w (upper w) _ 62 0 done (clean_within [] w _ (omega arith) shifted) (omega arith) (omega arith) (there w) (omega arith) (nothing_left [] 0)
    where
      there : (w : Width) → (upper w).number < 16
      there width.Byte = omega arith
      there w = omega arith

  -- MFENCE

  fences_tame : Few (fences at after)
  fences_tame next = acting {left = 0} refl tt (λ known. tt) (omega arith) (omega arith) (ended tt tt)

-- RET: the address that it pops is in the second temporary, and stays there
return_tame : (at after temps : ℕ) → Tame (ends.Return (temp (temps + 1))) [] temps 61 (pops at after (λ v. done) temps)
unfolding pops
return_tame at after temps =
    let end = ends.Return (temp (temps + 1)) in
    let live = (temps + 1) ∷ [] in
    loads_at end (Register 4) (pointer_within [] 4 (omega arith)) (omega arith) at 8 61 58 _ temps (inr (inr (inr refl))) (omega arith) (omega arith)
    (sets_register_tame end (Operation ops.Add (Register 4) (Number 8)) (above live 4 (omega arith)) (omega arith) 4 58 54 done (omega arith) (omega arith)
    (done_tame end live 54 (inl refl, tt) tt) (temps + 1 + 1))

-- a value comes in, or goes out
module _ (end : IrEnd) (live : List ℕ) (few : length live ≤ 6) (next most left : ℕ) (cost : 1 + left ≤ most) (rest : Lifting) where
  takes_in_tame : Tame end live next left (rest next) → Tame end live next most (takes_in rest next)
  takes_in_tame tame = acting {left = left} refl tt (λ known. tt) few (omega (arith, cost)) tame

  puts_out_tame : Tame end live next left (rest next) → Tame end live next most (puts_out rest next)
  puts_out_tame tame = acting {left = left} refl tt (λ known. tt) few (omega (arith, cost)) tame

-- the address behind an instruction is written below the stack
module _ (at after goal : ℕ) where
  writes_return_tame : (rest : Formula → Lifting) → ((v b : ℕ) → TameLifting (goto at after goal) (b ∷ v ∷ []) 39 (rest (Kept b))) → TameLifting (goto at after goal) [] 48 (writes_return at after rest)
  unfolding writes_return
  writes_return_tame rest tame =
      let end = goto at after goal in
      keeps_tame end (Number after) (number_within [] after) (omega arith) 48 44 _ (omega arith)
      (λ v. keeps_tame end (Operation ops.Sub (Register 4) (Number 8)) (below (v ∷ []) 4 (omega arith)) (omega arith) 44 41 _ (omega arith)
      (λ b. stores_tame end (b ∷ v ∷ []) at 8 b v 41 39 _ (inr (inr (inr refl))) (inl refl) (inr (inl refl)) (omega arith) (omega arith) (tame v b)))

-- CALL
calls_tame : (at after next_address temps d : ℕ) (f : Flow) → IsFlowOf (instr.Call d) f → Tame (end_from (instr.Call d) f next_address temps) [] temps 48 (calls at after f temps)
unfolding calls
calls_tame at after next temps d flow.Plain flows =
    let goal = led_to next d in
    writes_return_tame at after goal (λ b. sets_register 4 b done)
    (λ v b. sets_register_tame (goto at after goal) (Kept b) (kept_within (b ∷ v ∷ []) b (inl refl)) (omega arith) 4 39 38 done (omega arith) (omega arith)
    (nothing_left at after goal (b ∷ v ∷ []) 38)) temps
calls_tame at after next temps d flow.ListedIn flows =
    writes_return_tame at after next (λ b. takes_in done)
    (λ v b n. takes_in_tame (goto at after next) (b ∷ v ∷ []) (omega arith) n 39 38 (omega arith) done (nothing_left at after next (b ∷ v ∷ []) 38 n)) temps
calls_tame at after next temps d flow.ListedOut flows =
    writes_return_tame at after next (λ b. puts_out done)
    (λ v b n. puts_out_tame (goto at after next) (b ∷ v ∷ []) (omega arith) n 39 38 (omega arith) done (nothing_left at after next (b ∷ v ∷ []) 38 n)) temps
calls_tame at after next temps d flow.TableJump flows = elim flows [ ]

-- JMP
jumps_tame : (at after next_address temps d : ℕ) (f : Flow) → IsFlowOf (instr.Jmp d) f → Tame (end_from (instr.Jmp d) f next_address temps) [] temps 62 (jumps at after f temps)
unfolding jumps
jumps_tame at after next temps d flow.Plain flows = ended tt tt
jumps_tame at after next temps d flow.ListedIn flows =
    takes_in_tame (ends.Return (temp (temps + 1))) [] (omega arith) temps 62 61 (omega arith) (pops at after (λ v. done)) (return_tame at after temps)
jumps_tame at after next temps d flow.ListedOut flows =
    puts_out_tame (ends.Return (temp (temps + 1))) [] (omega arith) temps 62 61 (omega arith) (pops at after (λ v. done)) (return_tame at after temps)
jumps_tame at after next temps d flow.TableJump flows = elim flows [ ]

-- Jcc: the end reads its condition
condition_tame : (code temps goal next_address : ℕ)
    → Tame (ends.Branch (temp (place temps (condition_formula code))) goal next_address) [] temps 61 (keeps (condition_formula code) (λ v. done) temps)
condition_tame code temps goal next =
    let e = condition_formula code in
    keeps_at (ends.Branch (temp (place temps e)) goal next) e (condition_within [] code) (omega arith) 61 54 (λ v. done) temps (omega arith) (ended (inl refl, tt) tt)

-- each instruction that is lifted, with its flow
lifts_with_tame : (at after next_address temps : ℕ) (f : Flow) (i : Instr) → IsFormed i → is_lifted i ≡ true → IsFlowOf i f
    → Tame (end_from i f next_address temps) [] temps (words_of i) (lifts_with at after f i temps)
unfolding lifts lifts_with pops
lifts_with_tame at after next temps f (instr.Alu o w to from true) formed lifted flows =
    combines_locked_tame at after next o w to from (formed.1.0 refl) formed.0 temps
lifts_with_tame at after next temps f (instr.Alu o w to from false) formed lifted flows =
    let is = reached_pair w to from formed.0 in alu_tame at after next o w to from is.0 is.1 temps
lifts_with_tame at after next temps f (instr.Test w to from) formed lifted flows =
    let is = reached_pair w to from formed in compares_tame at after next op.And w to from is.0 is.1 temps
lifts_with_tame at after next temps f (instr.Xchg w (operand.Mem m) from true) formed lifted flows =
    swaps_tame at after next w m from formed.0 formed.1.0 temps
lifts_with_tame at after next temps f (instr.Xchg w (operand.Reg r) from true) formed lifted flows = absurd (let locks = formed.1.1 in cc)
lifts_with_tame at after next temps f (instr.Xchg w (operand.Imm n) from true) formed lifted flows = absurd formed.0
lifts_with_tame at after next temps f (instr.Xchg w to from false) formed lifted flows =
    exchanges_tame at after next w to from (reached_stored w to formed.0) (reached_register w from formed.1.0) temps
lifts_with_tame at after next temps f (instr.Mov w to from) formed lifted flows =
    let is = reached_pair w to from formed in copies_tame at after next w to from is.0 is.1 temps
lifts_with_tame at after next temps f (instr.Lea w to from) formed lifted flows =
    address_tame at after next w to from (reached_register w to formed.1.0) formed.1.1 temps
lifts_with_tame at after next temps f (instr.MovZx w v to from) formed lifted flows =
    extends_tame at after next w v to from (reached_register w to formed.1.1.0) (reached_stored v from formed.1.1.1) temps
lifts_with_tame at after next temps f (instr.MovSx w v to from) formed lifted flows =
    signed_tame at after next w v to from (reached_register w to formed.1.1.0) (reached_stored v from formed.1.1.1) temps
lifts_with_tame at after next temps f (instr.MovSxd to from) formed lifted flows =
    sign_extends_tame at after next to from (reached_register width.Quad to formed.0) (reached_stored width.Long from formed.1) temps
lifts_with_tame at after next temps f (instr.Push from) formed lifted flows = pushes_tame at after next from (reached_pushed from formed) temps
lifts_with_tame at after next temps f (instr.Pop to) formed lifted flows = pop_tame at after next to (reached_stored width.Quad to formed) temps
lifts_with_tame at after next temps f instr.Leave formed lifted flows = leave_tame at after next temps
lifts_with_tame at after next temps f instr.Ret formed lifted flows = tame_more (omega arith) (return_tame at after temps)
lifts_with_tame at after next temps f (instr.Call d) formed lifted flows = calls_tame at after next temps d f flows
lifts_with_tame at after next temps f (instr.Jmp d) formed lifted flows = jumps_tame at after next temps d f flows
lifts_with_tame at after next temps f (instr.Jcc c d) formed lifted flows = condition_tame c.code temps (led_to next d) next
lifts_with_tame at after next temps f (instr.SetCc c to) formed lifted flows =
    sets_condition_tame at after next c.code to (reached_stored width.Byte to formed.1) temps
lifts_with_tame at after next temps f (instr.CmovCc c w to from) formed lifted flows =
    chooses_tame at after next c.code w to from (reached_register w to formed.1.1.0) (reached_stored w from formed.1.1.1) temps
lifts_with_tame at after next temps f (instr.Inc w to true) formed lifted flows =
    increments_locked_tame at after next w to (formed.1 refl) (reached_stored w to formed.0) temps
lifts_with_tame at after next temps f (instr.Inc w to false) formed lifted flows =
    increases_tame at after next w to (reached_stored w to formed.0) temps
lifts_with_tame at after next temps f (instr.Dec w to true) formed lifted flows =
    decrements_locked_tame at after next w to (formed.1 refl) (reached_stored w to formed.0) temps
lifts_with_tame at after next temps f (instr.Dec w to false) formed lifted flows =
    decreases_tame at after next w to (reached_stored w to formed.0) temps
lifts_with_tame at after next temps f (instr.Not w to true) formed lifted flows =
    inverts_locked_tame at after next w to (formed.1 refl) (reached_stored w to formed.0) temps
lifts_with_tame at after next temps f (instr.Not w to false) formed lifted flows =
    turns_tame at after next w to (reached_stored w to formed.0) temps
lifts_with_tame at after next temps f (instr.Neg w to) formed lifted flows = negates_tame at after next w to (reached_stored w to formed) temps
lifts_with_tame at after next temps f (instr.Xadd w (operand.Mem m) from true) formed lifted flows =
    adds_locked_tame at after next w m from formed.0 formed.1.0 temps
lifts_with_tame at after next temps f (instr.Xadd w (operand.Reg r) from true) formed lifted flows = absurd (let locks = formed.1.1 in cc)
lifts_with_tame at after next temps f (instr.Xadd w (operand.Imm n) from true) formed lifted flows = absurd formed.0
lifts_with_tame at after next temps f (instr.Xadd w to from false) formed lifted flows =
    adds_exchanged_tame at after next w to from (reached_stored w to formed.0) formed.1.0 temps
lifts_with_tame at after next temps f (instr.Cmpxchg w to from locked) formed lifted flows =
    compares_locked_tame at after next w to from formed.0 formed.1.0 temps
lifts_with_tame at after next temps f (instr.Mul w from) formed lifted flows =
    multiplies_tame at after next false w from (reached_stored w from formed) temps
lifts_with_tame at after next temps f (instr.ImulOne w from) formed lifted flows =
    multiplies_tame at after next true w from (reached_stored w from formed) temps
lifts_with_tame at after next temps f (instr.Div w from) formed lifted flows =
    divides_tame at after next false w from (reached_stored w from formed.1) temps
lifts_with_tame at after next temps f (instr.Idiv w from) formed lifted flows =
    divides_tame at after next true w from (reached_stored w from formed.1) temps
lifts_with_tame at after next temps f (instr.ImulTwo w to from) formed lifted flows =
    let is = reached_register w to formed.1.0 in multiplies_into_tame at after next w to to from is is
    (reached_stored w from formed.1.1) temps
lifts_with_tame at after next temps f (instr.ImulThree w to from by) formed lifted flows =
    multiplies_into_tame at after next w to from by (reached_register w to formed.1.0) (reached_stored w from formed.1.1.0)
    (reached_number w by formed.1.1.1) temps
lifts_with_tame at after next temps f (instr.Shift o w to by) formed lifted flows =
    shifts_tame (ends.Goto next) at after (nothing_left at after next) w to (reached_stored w to formed.0) o by formed.1 temps
lifts_with_tame at after next temps f (instr.Widen w) formed lifted flows = widens_tame at after next w temps
lifts_with_tame at after next temps f (instr.SignFill w) formed lifted flows = fills_tame at after next w temps
lifts_with_tame at after next temps f instr.Nop formed lifted flows = ended tt tt
lifts_with_tame at after next temps f instr.Pause formed lifted flows = ended tt tt
lifts_with_tame at after next temps f instr.Endbr formed lifted flows = ended tt tt
lifts_with_tame at after next temps f instr.Mfence formed lifted flows = fences_tame at after next temps
lifts_with_tame at after next temps f instr.Ud2 formed lifted flows = ended tt (λ same. absurd cc)
lifts_with_tame at after next temps f i formed lifted flows = absurd cc

-- no instruction has more words
pub words_most : (i : Instr) → words_of i ≤ 62
words_most (instr.Call d) = omega arith
words_most (instr.Jcc c d) = omega arith
words_most i = omega arith

-- ---- what follows for a block

module _ (at after temps : ℕ) (f : Flow) (i : Instr) (formed : IsFormed i) (lifted : is_lifted i ≡ true) (flows : IsFlowOf i f) where
  pub lifts_few : cost_of fenced_cost (lifts_with at after f i temps) ≤ words_of i
  lifts_few = tame_cost (lifts_with_tame at after 0 temps f i formed lifted flows)

  pub lifts_most : cost_of fenced_cost (lifts_with at after f i temps) ≤ 62
  lifts_most = omega (arith, lifts_few, words_most i)

  pub lifts_own : SetsFrom temps (lifts_with at after f i temps)
  lifts_own t set = let within = tame_sets (lifts_with_tame at after 0 temps f i formed lifted flows) t set in (within.0, omega (arith, within.1, words_most i))

  pub lifts_selectable : (next_address : ℕ) → temps ≤ 2 ^ 24 → IsSelectable (lifts_with at after f i temps) (end_from i f next_address temps)
  lifts_selectable next few =
      let tame = lifts_with_tame at after next temps f i formed lifted flows in
      record {
        well = tame_well tame (λ t. Unset) (λ t among. elim among [ ]);
        once = tame_once tame;
        small = λ t set. omega (arith, (tame_sets tame t set).1, words_most i, few);
        few = tame_few tame;
      }
