-- Reading and changing operands keeps steps selectable.
use Rattle.std.proofs.Common.{ℕ, suc, ◌+◌, ◌<◌, ◌≤◌, List, [], ◌∷◌, length, refl, inl, inr, arith}
use Rattle.x64_syntax.specs.Formed.{IsMemory, IsStored, IsInRegister, IsNumber, ArePair}
use Rattle.x64_syntax.specs.declared.instr.AluOp.{AluOp}
use Rattle.x64_syntax.specs.declared.instr.AluOp.TheVariants as op
use Rattle.x64_syntax.specs.declared.operand.Operand.{Operand}
use Rattle.x64_syntax.specs.declared.operand.Operand.TheVariants as operand
use Rattle.x64_syntax.specs.declared.operand.Reg.{Reg}
use Rattle.x64_syntax.specs.declared.operand.Width.{Width}
use Rattle.x64_syntax.specs.declared.operand.Width.TheVariants as width
use Rattle.x64_table.specs.State.{bytes}
use Rattle.limm_ir.specs.Conditions.{IsSize}
use Rattle.limm_ir.specs.declared.block.IrEnd.{IrEnd}
use Rattle.lift_alu.specs.Formulas.{Formula, Kept, Number, Register, Lifting, done}
use Rattle.lift_alu.specs.Operands.{register_formula, merged_formula, address_formula}
use Rattle.lift_alu.specs.Lifted.{puts, fetches, finds, reads_there, writes_there, puts_there, moves, puts_operand, changes, flags_of}
use Rattle.lift_alu.proofs.Tame.{Among, tame_more}
use Rattle.lift_alu.proofs.Modest.{Within, within_more, own_one}
use Rattle.lift_alu.proofs.Bounds.{kept_within, number_within, small_within, register_within, merged_within, address_within, sum_overflow_within, difference_overflow_within, sum_carry_within, sum_carry_in_within, borrow_within, borrow_in_within}
use Rattle.lift_alu.proofs.Liftings.{TameLifting, less_live, keeps_tame, sets_register_tame, loads_tame, stores_tame, sets_flags_tame}

-- the bytes of a width are the size of an access
pub size_of : (w : Width) → IsSize (bytes w)
size_of width.Byte = inl refl
size_of width.Word = inr (inl refl)
size_of width.Long = inr (inr (inl refl))
size_of width.Quad = inr (inr (inr refl))

-- an operand whose registers there are
abbrev pub Reached : Operand → Type 0
Reached (operand.Reg r) = r.number < 16
Reached (operand.Mem m) = IsMemory m
Reached (operand.Imm n) = Unit {0}

-- the operands of instructions that are formed
pub reached_stored : (w : Width) (o : Operand) → IsStored w o → Reached o
reached_stored w (operand.Reg r) is = is.number
reached_stored w (operand.Mem m) is = is
reached_stored w (operand.Imm n) is = tt

pub reached_register : (w : Width) (o : Operand) → IsInRegister w o → Reached o
reached_register w (operand.Reg r) is = is.number
reached_register w (operand.Mem m) is = elim is [ ]
reached_register w (operand.Imm n) is = tt

pub reached_number : (w : Width) (o : Operand) → IsNumber w o → Reached o
reached_number w (operand.Reg r) is = elim is [ ]
reached_number w (operand.Mem m) is = elim is [ ]
reached_number w (operand.Imm n) is = tt

pub reached_pair : (w : Width) (to from : Operand) → ArePair w to from → Reached to × Reached from
reached_pair w to from (inl (stored, held)) = (reached_stored w to stored, reached_register w from held)
reached_pair w to from (inr (inl (held, stored))) = (reached_register w to held, reached_stored w from stored)
reached_pair w to from (inr (inr (stored, number))) = (reached_stored w to stored, reached_number w from number)

-- what it costs at most to fetch an operand
abbrev pub fetch_price : Operand → ℕ
fetch_price (operand.Reg r) = 5
fetch_price (operand.Mem m) = 12
fetch_price (operand.Imm n) = 4

-- it is no more than memory costs
pub fetch_most : (o : Operand) → fetch_price o ≤ 12
fetch_most (operand.Reg r) = omega arith
fetch_most (operand.Mem m) = omega arith
fetch_most (operand.Imm n) = omega arith

-- a register is fetched at less cost
pub fetch_register : (w : Width) (o : Operand) → IsInRegister w o → fetch_price o ≤ 5
fetch_register w (operand.Reg r) is = omega arith
fetch_register w (operand.Mem m) is = elim is [ ]
fetch_register w (operand.Imm n) is = elim is [ ]

-- what is kept takes no room of its own
pub kept_in_three : (live : List ℕ) (t : ℕ) → Among live t → Within live 3 0 (Kept t)
kept_in_three live t among = within_more (omega arith) (omega arith) (kept_within live t among)

module _ (end : IrEnd) where
  -- a register gets a value
  pub puts_tame : {live : List ℕ} {most_room most_price : ℕ} (w : Width) (r : Reg) (e : Formula) (most left : ℕ) (rest : Lifting) → Within live most_room most_price e → 3 ≤ most_room
      → suc most_room + length live ≤ 6 → r.number < 16 → most_price + (7 + left) ≤ most → TameLifting end live left rest → TameLifting end live most (puts w r e rest)
  unfolding puts
  puts_tame {live = live} w r e most left rest h wide few is cost tame =
      sets_register_tame end (merged_formula w r.high (Register r.number) e) (merged_within live r.number e is wide h w r.high) few r.number most left rest is (omega (arith, cost)) tame

  -- a register gets a value that is kept
  pub puts_kept_tame : (live : List ℕ) (w : Width) (r : Reg) (t most left : ℕ) (rest : Lifting) → Among live t → 4 + length live ≤ 6 → r.number < 16 → 7 + left ≤ most
      → TameLifting end live left rest → TameLifting end live most (puts w r (Kept t) rest)
  puts_kept_tame live w r t most left rest in_t few is cost tame =
      puts_tame w r (Kept t) most left rest (kept_in_three live t in_t) (omega arith) few is (omega (arith, cost)) tame

  module _ (at after : ℕ) where
    -- the value of an operand is kept
    pub fetches_tame : (live : List ℕ) (w : Width) (from : Operand) (most left : ℕ) (rest : Formula → Lifting) → Reached from → 4 + length live ≤ 6 → fetch_price from + left ≤ most
        → ((t : ℕ) → TameLifting end (t ∷ live) left (rest (Kept t))) → TameLifting end live most (fetches at after w from rest)
    unfolding fetches
    fetches_tame live w (operand.Reg r) most left rest is few cost tame = keeps_tame end (register_formula w r) (register_within live w r is) (omega (arith, few)) most left rest cost tame
    fetches_tame live w (operand.Mem m) most left rest is few cost tame =
        loads_tame end (address_formula m after) (address_within live m after is) few at (bytes w) most left rest (size_of w)
        (omega (arith, few, own_one (address_formula m after))) (omega (arith, cost)) tame
    fetches_tame live w (operand.Imm n) most left rest is few cost tame = keeps_tame end (Number n) (number_within live n) (omega (arith, few)) most left rest cost tame

    -- an operand gets a value that is kept
    pub moves_tame : (live : List ℕ) (w : Width) (to : Operand) (t most left : ℕ) (rest : Lifting) → Reached to → Among live t → 4 + length live ≤ 6 → 12 + left ≤ most
        → TameLifting end live left rest → TameLifting end live most (moves at after w to (Kept t) rest)
    unfolding moves finds writes_there puts_there
    moves_tame live w (operand.Reg r) t most left rest is in_t few cost tame = puts_kept_tame live w r t most left rest in_t few is (omega (arith, cost)) tame
    moves_tame live w (operand.Mem m) t most left rest is in_t few cost tame =
        keeps_tame end (address_formula m after) (address_within live m after is) few most (2 + left) _ (omega (arith, cost))
        (λ address. stores_tame end (address ∷ live) at (bytes w) address t (2 + left) left rest (size_of w) (inl refl) (inr in_t) (omega (arith, few)) (omega arith)
        (less_live end (address ∷ live) live rest (λ u among. inr among) tame))
    moves_tame live w (operand.Imm n) t most left rest is in_t few cost tame = λ next. tame_more (omega (arith, cost)) (tame next)

    -- a register operand gets a value
    pub puts_operand_tame : {live : List ℕ} {most_room most_price : ℕ} (w : Width) (to : Operand) (e : Formula) (most left : ℕ) (rest : Lifting)
        → Within live most_room most_price e → 3 ≤ most_room
        → suc most_room + length live ≤ 6 → Reached to → most_price + (7 + left) ≤ most → TameLifting end live left rest → TameLifting end live most (puts_operand at after w to e rest)
    unfolding puts_operand
    puts_operand_tame w (operand.Reg r) e most left rest h wide few is cost tame = puts_tame w r e most left rest h wide few is cost tame
    puts_operand_tame w (operand.Mem m) e most left rest h wide few is cost tame = λ next. tame_more (omega (arith, cost)) (tame next)
    puts_operand_tame w (operand.Imm n) e most left rest h wide few is cost tame = λ next. tame_more (omega (arith, cost)) (tame next)

    -- a register operand gets a value that is kept
    pub puts_kept_operand_tame : (live : List ℕ) (w : Width) (to : Operand) (t most left : ℕ) (rest : Lifting) → Reached to → Among live t → 4 + length live ≤ 6 → 7 + left ≤ most
        → TameLifting end live left rest → TameLifting end live most (puts_operand at after w to (Kept t) rest)
    puts_kept_operand_tame live w to t most left rest is in_t few cost tame =
        puts_operand_tame w to (Kept t) most left rest (kept_in_three live t in_t) (omega arith) few is (omega (arith, cost)) tame

    -- the flags of an operation on two values
    module _ (live : List ℕ) (w : Width) (a b r : ℕ) (in_a : Among live a) (in_b : Among live b) (in_r : Among live r) (few : 3 + length live ≤ 6) where
      -- the second value is kept
      second_within : Within live 1 1 (Kept b)
      second_within = within_more (omega arith) (omega arith) (kept_within live b in_b)

      -- the number 0
      nothing_within : {most_room most_price : ℕ} → 1 ≤ most_room → 1 ≤ most_price → Within live most_room most_price (Number 0)
      nothing_within wide dear = within_more wide dear (small_within live 0 (omega arith))

      pub flags_tame : (o : AluOp) (most left : ℕ) (rest : Lifting) → 22 + left ≤ most → TameLifting end live left rest
          → TameLifting end live most (flags_of at after o w (Kept a) (Kept b) (Kept r) rest)
      flags_tame op.Add most left rest cost tame =
          sets_flags_tame end live w r _ few in_r (sum_overflow_within live w a r (Kept b) in_a in_r second_within) _ most left rest (sum_carry_within live a r in_a in_r) cost tame
      flags_tame op.Adc most left rest cost tame =
          sets_flags_tame end live w r _ few in_r (sum_overflow_within live w a r (Kept b) in_a in_r second_within) _ most left rest (sum_carry_in_within live a r in_a in_r) cost tame
      flags_tame op.Sbb most left rest cost tame =
          sets_flags_tame end live w r _ few in_r (difference_overflow_within live w a r (Kept b) in_a in_r second_within) _ most left rest (borrow_in_within live a b in_a in_b) cost tame
      flags_tame op.Sub most left rest cost tame =
          sets_flags_tame end live w r _ few in_r (difference_overflow_within live w a r (Kept b) in_a in_r second_within) _ most left rest (borrow_within live a b in_a in_b) cost tame
      flags_tame op.Cmp most left rest cost tame =
          sets_flags_tame end live w r _ few in_r (difference_overflow_within live w a r (Kept b) in_a in_r second_within) _ most left rest (borrow_within live a b in_a in_b) cost tame
      flags_tame op.Or most left rest cost tame =
          sets_flags_tame end live w r _ few in_r (nothing_within (omega arith) (omega arith)) _ most left rest (nothing_within (omega arith) (omega arith)) cost tame
      flags_tame op.And most left rest cost tame =
          sets_flags_tame end live w r _ few in_r (nothing_within (omega arith) (omega arith)) _ most left rest (nothing_within (omega arith) (omega arith)) cost tame
      flags_tame op.Xor most left rest cost tame =
          sets_flags_tame end live w r _ few in_r (nothing_within (omega arith) (omega arith)) _ most left rest (nothing_within (omega arith) (omega arith)) cost tame

    -- An operand is read and changed, where `live` may be read besides: the new value costs at most 5, and its flags 22.
    module _ (live : List ℕ) (w : Width) (new : Formula → Formula) (flags : Formula → Formula → Lifting → Lifting) (few : length live ≤ 1)
        (new_within : (seen : List ℕ) (a : ℕ) → ((t : ℕ) → Among live t → Among seen t) → Among seen a → Within seen 3 5 (new (Kept a)))
        (flags_are : (a r most left : ℕ) (rest : Lifting) → 22 + left ≤ most → TameLifting end (r ∷ a ∷ live) left rest → TameLifting end (r ∷ a ∷ live) most (flags (Kept a) (Kept r) rest))
        (ends : (seen : List ℕ) (most : ℕ) → TameLifting end seen most done) where
      pub changes_tame : (to : Operand) (most : ℕ) → Reached to → 41 ≤ most → TameLifting end live most (changes at after w to new flags)
      unfolding changes finds reads_there writes_there puts_there
      changes_tame (operand.Reg reg) most is cost =
          keeps_tame end (register_formula w reg) (register_within live w reg is) (omega (arith, few)) most 34 _ (omega (arith, cost))
          (λ a. keeps_tame end (new (Kept a)) (new_within (a ∷ live) a (λ t among. inr among) (inl refl)) (omega (arith, few)) 34 29 _ (omega arith)
          (λ r. flags_are a r 29 7 _ (omega arith)
          (less_live end (r ∷ a ∷ live) (r ∷ []) _ (only r a) (puts_kept_tame (r ∷ []) w reg r 7 0 done (inl refl) (omega arith) is (omega arith) (ends (r ∷ []) 0)))))
        where
          only : (r a t : ℕ) → Among (r ∷ []) t → Among (r ∷ a ∷ live) t
          only r a t (inl same) = inl same
          only r a t (inr none) = elim none [ ]
      changes_tame (operand.Mem m) most is cost =
          keeps_tame end (address_formula m after) (address_within live m after is) (omega (arith, few)) most 31 _ (omega (arith, cost))
          (λ address. loads_tame end (Kept address) (kept_within (address ∷ live) address (inl refl)) (omega (arith, few)) at (bytes w) 31 29 _ (size_of w)
          (omega (arith, few)) (omega arith)
          (λ a. keeps_tame end (new (Kept a)) (new_within (a ∷ address ∷ live) a (λ t among. inr (inr among)) (inl refl)) (omega (arith, few)) 29 24 _ (omega arith)
          (λ r. stores_tame end (r ∷ a ∷ address ∷ live) at (bytes w) address r 24 22 _ (size_of w) (inr (inr (inl refl))) (inl refl) (omega (arith, few)) (omega arith)
          (less_live end (r ∷ a ∷ address ∷ live) (r ∷ a ∷ live) _ (but_address r a address) (flags_are a r 22 0 done (omega arith) (ends (r ∷ a ∷ live) 0))))))
        where
          but_address : (r a address t : ℕ) → Among (r ∷ a ∷ live) t → Among (r ∷ a ∷ address ∷ live) t
          but_address r a address t (inl same) = inl same
          but_address r a address t (inr (inl same)) = inr (inl same)
          but_address r a address t (inr (inr among)) = inr (inr (inr among))
      changes_tame (operand.Imm n) most is cost =
          keeps_tame end (Number 0) (small_within live 0 (omega arith)) (omega (arith, few)) most 27 _ (omega (arith, cost))
          (λ a. keeps_tame end (new (Kept a)) (new_within (a ∷ live) a (λ t among. inr among) (inl refl)) (omega (arith, few)) 27 22 _ (omega arith)
          (λ r. flags_are a r 22 0 done (omega arith) (ends (r ∷ a ∷ live) 0)))
