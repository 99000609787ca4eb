-- The steps of shifts and rotates are selectable.
use Rattle.std.proofs.Common.{ℕ, ◌+◌, ◌<◌, ◌≤◌, ◌==◌, List, [], ◌∷◌, length, refl, inl, inr, arith}
use Rattle.alu_width.specs.declared.operations.Rotate.{Rotate}
use Rattle.alu_width.specs.declared.operations.Rotate.TheVariants.{Rol, Ror}
use Rattle.alu_width.specs.declared.operations.Shift.{Shift}
use Rattle.alu_width.specs.declared.operations.Shift.TheVariants.{Shl, Shr, Sar}
use Rattle.alu_width.specs.Masked.{masked}
use Rattle.x64_syntax.specs.Formed.{IsCount}
use Rattle.x64_syntax.specs.Operands.{bits}
use Rattle.x64_syntax.specs.declared.instr.ShiftOp.{ShiftOp}
use Rattle.x64_syntax.specs.declared.instr.ShiftOp.TheVariants as shift
use Rattle.x64_syntax.specs.declared.operand.Operand.{Operand}
use Rattle.x64_syntax.specs.declared.operand.Operand.TheVariants as operand
use Rattle.x64_syntax.specs.declared.operand.Width.{Width}
use Rattle.x64_table.specs.State.{bytes}
use Rattle.limm_ir.specs.declared.block.IrEnd.{IrEnd}
use Rattle.limm_ir.specs.declared.step.IrOp.TheVariants as ops
use Rattle.lift_alu.specs.declared.shifts.Count.{Count}
use Rattle.lift_alu.specs.declared.shifts.Count.TheVariants.{Fixed, InTemp}
use Rattle.lift_alu.specs.Formulas.{Formula, Kept, Number, Operation, Lifting, done, temp}
use Rattle.lift_alu.specs.Operands.{register_formula, address_formula}
use Rattle.lift_alu.specs.Flags.{CF, ZF, SF, OF}
use Rattle.lift_alu.specs.Shifts.{masked_formula, shift_formula, shift_flags}
use Rattle.lift_alu.specs.Turns.{turn_formula, turn_flags}
use Rattle.lift_alu.specs.Lifted.{finds, reads_there, writes_there, puts_there, changes, rewrites, shifts_by, shifts_number, shifts}
use Rattle.lift_alu.proofs.Tame.{Among, tame_more}
use Rattle.lift_alu.proofs.Modest.{Within, within_more}
use Rattle.lift_alu.proofs.Bounds.{kept_within, small_within, register_within, address_within, top_within, zero_within}
use Rattle.lift_alu.proofs.Liftings.{TameLifting, less_live, keeps_tame, sets_flag_tame, loads_tame, stores_tame}
use Rattle.lift_alu.proofs.OperandSteps.{size_of, Reached, puts_kept_tame}
use Rattle.lift_alu.proofs.ShiftValues.{masked_below, below_64}
use Rattle.lift_alu.proofs.ShiftRules.{one_of_two}
use Rattle.lift_alu.proofs.ShiftBounds.{IsReadable, masked_within, unless_zero_within, shift_within, carry_within, overflow_within}
use Rattle.lift_alu.proofs.ShiftBounds.{turned_within, turn_carry_within, turn_overflow_within}

-- a count that may be read may be read among more
readable_more : (live more : List ℕ) (c : Count) → ((t : ℕ) → Among live t → Among more t) → IsReadable live c → IsReadable more c
readable_more live more (Fixed n) grows is = is
readable_more live more (InTemp t) grows is = grows t.0 is

module _ (end : IrEnd) (at after : ℕ) where
  -- An operand is read and changed, where `live` may be read besides, at the prices of the new value and of its flags.
  module _ (live : List ℕ) (w : Width) (new : Formula → Formula) (flags : Formula → Formula → Lifting → Lifting)
      (new_price flags_price : ℕ) (few : length live ≤ 1)
      (new_within : (seen : List ℕ) (a : ℕ) → ((t : ℕ) → Among live t → Among seen t) → Among seen a
      → Within seen 3 new_price (new (Kept a)))
      (flags_are : (a r most left : ℕ) (rest : Lifting) → flags_price + left ≤ most → TameLifting end (r ∷ a ∷ live) left rest
      → TameLifting end (r ∷ a ∷ live) most (flags (Kept a) (Kept r) rest))
      (ends : (seen : List ℕ) (most : ℕ) → TameLifting end seen most done) where
    changes_priced : (to : Operand) (most : ℕ) → Reached to → 14 + (new_price + flags_price) ≤ most
        → TameLifting end live most (changes at after w to new flags)
    unfolding changes finds reads_there writes_there puts_there
    changes_priced (operand.Reg reg) most is cost =
        keeps_tame end (register_formula w reg) (register_within live w reg is) (omega (arith, few)) most (new_price + (flags_price + 7)) _
        (omega (arith, cost))
        (λ a. keeps_tame end (new (Kept a)) (new_within (a ∷ live) a (λ t among. inr among) (inl refl)) (omega (arith, few))
        (new_price + (flags_price + 7)) (flags_price + 7) _ (omega arith)
        (λ r. flags_are a r (flags_price + 7) 7 _ (omega arith)
        (less_live end (r ∷ a ∷ live) (r ∷ []) _ (only r a)
        (puts_kept_tame end (r ∷ []) w reg r 7 0 done (inl refl) (omega arith) is (omega arith) (ends (r ∷ []) 0)))))
      where
        only : (r a t : ℕ) → Among (r ∷ []) t → Among (r ∷ a ∷ live) t
        only r a t (inl same) = inl same
        only r a t (inr none) = elim none [ ]
    changes_priced (operand.Mem m) most is cost =
        keeps_tame end (address_formula m after) (address_within live m after is) (omega (arith, few)) most
        (2 + (new_price + (2 + flags_price))) _ (omega (arith, cost))
        (λ address. loads_tame end (Kept address) (kept_within (address ∷ live) address (inl refl)) (omega (arith, few)) at (bytes w)
        (2 + (new_price + (2 + flags_price))) (new_price + (2 + flags_price)) _ (size_of w) (omega (arith, few)) (omega arith)
        (λ a. keeps_tame end (new (Kept a)) (new_within (a ∷ address ∷ live) a (λ t among. inr (inr among)) (inl refl)) (omega (arith, few))
        (new_price + (2 + flags_price)) (2 + flags_price) _ (omega arith)
        (λ r. stores_tame end (r ∷ a ∷ address ∷ live) at (bytes w) address r (2 + flags_price) flags_price _ (size_of w)
        (inr (inr (inl refl))) (inl refl) (omega (arith, few)) (omega arith)
        (less_live end (r ∷ a ∷ address ∷ live) (r ∷ a ∷ live) _ (but_address r a address)
        (flags_are a r flags_price 0 done (omega arith) (ends (r ∷ a ∷ live) 0))))))
      where
        but_address : (r a address t : ℕ) → Among (r ∷ a ∷ live) t → Among (r ∷ a ∷ address ∷ live) t
        but_address r a address t (inl same) = inl same
        but_address r a address t (inr (inl same)) = inr (inl same)
        but_address r a address t (inr (inr among)) = inr (inr (inr among))
    changes_priced (operand.Imm n) most is cost =
        keeps_tame end (Number 0) (small_within live 0 (omega arith)) (omega (arith, few)) most (new_price + flags_price) _
        (omega (arith, cost))
        (λ a. keeps_tame end (new (Kept a)) (new_within (a ∷ live) a (λ t among. inr among) (inl refl)) (omega (arith, few))
        (new_price + flags_price) flags_price _ (omega arith)
        (λ r. flags_are a r flags_price 0 done (omega arith) (ends (r ∷ a ∷ live) 0)))

  -- the flags of shifts and rotates
  module _ (live : List ℕ) (w : Width) (c : Count) (is : IsReadable live c) (a r : ℕ) (in_a : Among live a) (in_r : Among live r)
      (few : 3 + length live ≤ 6) where
    shift_flags_tame : (o : Shift) (most left : ℕ) (rest : Lifting) → 37 + left ≤ most → TameLifting end live left rest
        → TameLifting end live most (shift_flags o w c (Kept a) (Kept r) rest)
    unfolding shift_flags
    shift_flags_tame o most left rest cost tame =
        let zero_flag : Within live 3 3 (Operation ops.Eq (Kept r) (Number 0)) =
        within_more (omega arith) (omega arith) (zero_within live r in_r) in
        let sign = top_within live {most_room = 3} {most_price = 0} w (Kept r) (omega arith)
        (within_more (omega arith) (omega arith) (kept_within live r in_r)) in
        sets_flag_tame end _
        (unless_zero_within live _ (omega arith) (overflow_within live w c is a in_a o r in_r) c OF (omega arith) is)
        few OF most (26 + left) _ (omega arith) (omega (arith, cost))
        (sets_flag_tame end _ (unless_zero_within live _ (omega arith) zero_flag c ZF (omega arith) is) few ZF (26 + left) (19 + left) _
        (omega arith) (omega arith)
        (sets_flag_tame end _ (unless_zero_within live _ (omega arith) sign c SF (omega arith) is) few SF (19 + left) (13 + left) _
        (omega arith) (omega arith)
        (sets_flag_tame end _ (unless_zero_within live _ (omega arith) (carry_within live w c is a in_a o) c CF (omega arith) is) few CF
        (13 + left) left rest (omega arith) (omega arith) tame)))

    turn_flags_tame : (o : Rotate) (most left : ℕ) (rest : Lifting) → 21 + left ≤ most → TameLifting end live left rest
        → TameLifting end live most (turn_flags o w c (Kept a) (Kept r) rest)
    unfolding turn_flags
    turn_flags_tame o most left rest cost tame =
        sets_flag_tame end _
        (unless_zero_within live _ (omega arith) (turn_overflow_within live w r in_r o c is) c OF (omega arith) is)
        few OF most (6 + left) _ (omega arith) (omega (arith, cost))
        (sets_flag_tame end _ (unless_zero_within live _ (omega arith) (turn_carry_within live w r in_r o) c CF (omega arith) is) few CF
        (6 + left) left rest (omega arith) (omega arith) tame)

  module _ (ends : (seen : List ℕ) (most : ℕ) → TameLifting end seen most done) (w : Width) (to : Operand) (reached : Reached to) where
    -- by a count
    module _ (live : List ℕ) (few : length live ≤ 1) (c : Count) (is : IsReadable live c) where
      -- what may be read where the flags are set
      behind : (r a t : ℕ) → Among live t → Among (r ∷ a ∷ live) t
      behind r a t among = inr (inr among)

      shift_tame : (o : Shift) → TameLifting end live 59 (changes at after w to (shift_formula o w c) (shift_flags o w c))
      shift_tame o =
          changes_priced live w _ _ 6 37 few (λ seen a grows in_a. shift_within seen w c (readable_more live seen c grows is) a in_a o)
          (λ a r most left rest cost tame.
          shift_flags_tame (r ∷ a ∷ live) w c (readable_more live (r ∷ a ∷ live) c (behind r a) is) a r (inr (inl refl)) (inl refl)
          (omega (arith, few)) o most left rest cost tame)
          ends to 59 reached (omega arith)

      turn_tame : (o : Rotate) → TameLifting end live 59 (changes at after w to (turn_formula o w c) (turn_flags o w c))
      turn_tame o =
          changes_priced live w _ _ 11 21 few (λ seen a grows in_a. turned_within seen c (readable_more live seen c grows is) a in_a o w)
          (λ a r most left rest cost tame.
          turn_flags_tame (r ∷ a ∷ live) w c (readable_more live (r ∷ a ∷ live) c (behind r a) is) a r (inr (inl refl)) (inl refl)
          (omega (arith, few)) o most left rest cost tame)
          ends to 59 reached (omega arith)

      shifts_by_tame : (o : ShiftOp) → TameLifting end live 59 (shifts_by at after o w to c)
      shifts_by_tame shift.Rol = turn_tame Rol
      shifts_by_tame shift.Ror = turn_tame Ror
      shifts_by_tame shift.Shl = shift_tame Shl
      shifts_by_tame shift.Shr = shift_tame Shr
      shifts_by_tame shift.Sar = shift_tame Sar

    -- an operand gets its own value
    rewrites_tame : TameLifting end [] 59 (rewrites at after w to)
    unfolding rewrites
    rewrites_tame =
        changes_priced [] w _ _ 0 0 (omega arith) (λ seen a grows in_a. within_more (omega arith) (omega arith) (kept_within seen a in_a))
        (λ a r most left rest cost tame next. tame_more (omega (arith, cost)) (tame next)) ends to 59 reached (omega arith)

  module _ (ends : (seen : List ℕ) (most : ℕ) → TameLifting end seen most done) (w : Width) (to : Operand) (reached : Reached to) where
    -- by a number
    shifts_number_tame : (o : ShiftOp) (n : ℕ) → n < 64 → TameLifting end [] 59 (shifts_number at after o w to n)
    shifts_number_tame o n lt =
        one_of_two (TameLifting end [] 59) (n == 0) _ _ (λ none. rewrites_tame ends _ to reached)
        (λ some. shifts_by_tame ends w to reached [] (omega arith) (Fixed n) lt o)

    -- shifts and rotates
    pub shifts_tame : (o : ShiftOp) (by : Operand) → IsCount by → TameLifting end [] 62 (shifts at after o w to by)
    unfolding shifts
    shifts_tame o (operand.Imm n) is =
        λ next. tame_more (omega arith) (shifts_number_tame o (masked (bits w) n) (below_64 w (masked (bits w) n) (masked_below w n)) next)
    shifts_tame o (operand.Reg r) is =
        keeps_tame end (masked_formula w r) (masked_within [] w r (omega (arith, is.0))) (omega arith) 62 59 _ (omega arith)
        (λ t. shifts_by_tame ends w to reached (t ∷ []) (omega arith) (InTemp (temp t)) (inl refl) o)
    shifts_tame o (operand.Mem m) is = elim is [ ]
