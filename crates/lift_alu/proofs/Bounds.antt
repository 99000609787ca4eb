-- The formulas of operands, results, flags and conditions take few temporaries at once and cost little.
use Rattle.std.proofs.Common.{◌≡◌, ℕ, suc, ◌+◌, ◌-◌, ◌%◌, ◌^◌, ◌<◌, ◌≤◌, ◌==◌, Bool, true, false, not, List, Option, Some, None, refl, inl, inr, arith}
use Rattle.std.specs.Prelude.{nat_le, if◌then◌else◌, IfSome}
use Rattle.std.proofs.lemmas.Bool.Decides.{nat_tests}
use Rattle.word_arith.specs.Bits.{bit}
use Rattle.x64_syntax.specs.Formed.{IsMemory}
use Rattle.x64_syntax.specs.Operands.{bits}
use Rattle.x64_syntax.specs.declared.instr.AluOp.{AluOp}
use Rattle.x64_syntax.specs.declared.instr.AluOp.TheVariants as op
use Rattle.x64_syntax.specs.declared.operand.Mem.{Mem}
use Rattle.x64_syntax.specs.declared.operand.Reg.{Reg}
use Rattle.x64_syntax.specs.declared.operand.Width.{Width}
use Rattle.x64_syntax.specs.declared.operand.Width.TheVariants as width
use Rattle.limm_ir.specs.Conditions.{Known, HasConstant}
use Rattle.limm_ir.specs.Costs.{op_cost, number_cost, quarter_of, quarters_not}
use Rattle.limm_ir.specs.declared.step.IrOp.{IrOp}
use Rattle.limm_ir.specs.declared.step.IrOp.TheVariants as ops
use Rattle.lift_alu.specs.Formulas.{Formula, Kept, Number, Register, Flag, Operation}
use Rattle.lift_alu.specs.Operands.{clean, with_sign, shifted_down, register_formula, byte_into, merged_formula, shift_of, scaled, base_part, with_index, displacement, with_displacement, address_formula}
use Rattle.lift_alu.specs.Flags.{CF, ZF, SF, OF, top, sum_overflow, difference_overflow, sum_carry, sum_carry_in, borrow, borrow_in, even_formula, condition_formula}
use Rattle.lift_alu.specs.Lifted.{result}
use Rattle.lift_alu.proofs.Tame.{Among}
use Rattle.lift_alu.proofs.Modest.{ordinary, extension, own_one, Within, within_more}

-- ---- numbers

-- a number of 16 bits takes one word
pub number_small : (n : ℕ) → n < 2 ^ 16 → number_cost n ≡ 1
number_small n small = grind (arith, nat_tests)

-- a bit is 1 at most
bit_most : (b : Bool) → bit b ≤ 1
bit_most true = omega arith
bit_most false = omega arith

-- three quarters at most are otherwise
quarters_most : (pattern n : ℕ) → quarters_not pattern n ≤ 3
quarters_most pattern n = omega (arith, bit_most (not (quarter_of n 1 == pattern)), bit_most (not (quarter_of n 2 == pattern)), bit_most (not (quarter_of n 3 == pattern)))

-- the lesser of two counts
fewer_most : (b : Bool) (x y : ℕ) → x ≤ 3 → y ≤ 3 → 1 + (if b then x else y) ≤ 4
fewer_most true x y first second = omega (arith, first)
fewer_most false x y first second = omega (arith, second)

-- a number takes four words at most
pub number_most : (n : ℕ) → number_cost n ≤ 4
number_most n = fewer_most (nat_le (quarters_not 0 n) (quarters_not 0xFFFF n)) (quarters_not 0 n) (quarters_not 0xFFFF n) (quarters_most 0 n) (quarters_most 0xFFFF n)

module _ (live : List ℕ) where
  -- what is kept
  pub kept_within : (t : ℕ) → Among live t → Within live 0 0 (Kept t)
  kept_within t among = record { sound = among; in_room = omega arith; in_price = omega arith }

  -- a number, and a small one
  pub number_within : (n : ℕ) → Within live 1 4 (Number n)
  number_within n = record { sound = tt; in_room = omega arith; in_price = number_most n }

  pub small_within : (n : ℕ) → n < 2 ^ 16 → Within live 1 1 (Number n)
  small_within n small = record { sound = tt; in_room = omega arith; in_price = omega (arith, number_small n small) }

  -- ---- registers

  -- the low bits of a value
  pub clean_within : {most_room most_price : ℕ} (w : Width) (e : Formula) → 3 ≤ most_room → Within live most_room most_price e → Within live most_room (most_price + 2) (clean w e)
  unfolding clean
  clean_within width.Quad e wide h = within_more (omega arith) (omega arith) h
  clean_within width.Byte e wide h = record { sound = (h.sound, tt, extension (inl refl)); in_room = omega (arith, wide, h.in_room, own_one e); in_price = omega (arith, h.in_price) }
  clean_within width.Word e wide h = record {
    sound = (h.sound, tt, extension (inr (inl refl)));
    in_room = omega (arith, wide, h.in_room, own_one e);
    in_price = omega (arith, h.in_price);
  }
  clean_within width.Long e wide h = record {
    sound = (h.sound, tt, extension (inr (inr refl)));
    in_room = omega (arith, wide, h.in_room, own_one e);
    in_price = omega (arith, h.in_price);
  }

  -- the number 1
  pub one_within : Within live 1 1 (Number 1)
  one_within = small_within 1 (omega arith)

  -- a value of the width, one more or less
  pub by_one_within : (o : IrOp) → ((k : Known) → HasConstant o k) → op_cost o ≤ 1 → (w : Width) (a : ℕ) → Among live a
      → Within live 3 5 (clean w (Operation o (Kept a) (Number 1)))
  by_one_within o plain cheap w a in_a = clean_within w _ (omega arith) counted
    where
      counted : Within live 3 3 (Operation o (Kept a) (Number 1))
      counted = record { sound = (in_a, tt, ordinary plain); in_room = omega arith; in_price = omega (arith, cheap) }

  -- a value with its sign
  pub with_sign_within : {most_room most_price : ℕ} (w : Width) (e : Formula) → 3 ≤ most_room → Within live most_room most_price e
      → Within live most_room (most_price + 2) (with_sign w e)
  unfolding with_sign
  with_sign_within width.Quad e wide h = within_more (omega arith) (omega arith) h
  with_sign_within width.Byte e wide h = record {
    sound = (h.sound, tt, extension (inl refl));
    in_room = omega (arith, wide, h.in_room, own_one e);
    in_price = omega (arith, h.in_price);
  }
  with_sign_within width.Word e wide h = record {
    sound = (h.sound, tt, extension (inr (inl refl)));
    in_room = omega (arith, wide, h.in_room, own_one e);
    in_price = omega (arith, h.in_price);
  }
  with_sign_within width.Long e wide h = record {
    sound = (h.sound, tt, extension (inr (inr refl)));
    in_room = omega (arith, wide, h.in_room, own_one e);
    in_price = omega (arith, h.in_price);
  }

  -- a register from its second byte on
  shifted_within : (high : Bool) (number : ℕ) → number < 16 → Within live 3 3 (shifted_down high (Register number))
  shifted_within true number is = record { sound = (is, tt, ordinary (λ k. tt)); in_room = omega arith; in_price = omega arith }
  shifted_within false number is = record { sound = is; in_room = omega arith; in_price = omega arith }

  -- what a register holds at a width
  pub register_within : (w : Width) (r : Reg) → r.number < 16 → Within live 3 5 (register_formula w r)
  unfolding register_formula
  register_within w r is = clean_within w (shifted_down r.high (Register r.number)) (omega arith) (shifted_within r.high r.number is)

  -- what a register gets
  module _ {most_room most_price : ℕ} (number : ℕ) (e : Formula) (is : number < 16) (wide : 3 ≤ most_room) (h : Within live most_room most_price e) where
    -- a byte of it
    byte_within : (high : Bool) → Within live (suc most_room) (most_price + 6) (byte_into high (Register number) e)
    byte_within true = record {
      sound = ((is, tt, ordinary (λ k. tt)), (h.sound, tt, ordinary (λ k. tt)), ordinary (λ k. tt));
      in_room = omega (arith, wide, h.in_room, own_one e);
      in_price = omega (arith, h.in_price);
    }
    byte_within false = record {
      sound = ((is, tt, ordinary (λ k. tt)), h.sound, ordinary (λ k. tt));
      in_room = omega (arith, wide, h.in_room, own_one e);
      in_price = omega (arith, h.in_price);
    }

    -- a part of it, or all
    pub merged_within : (w : Width) (high : Bool) → Within live (suc most_room) (most_price + 6) (merged_formula w high (Register number) e)
    unfolding merged_formula
    merged_within width.Byte high = byte_within high
    merged_within width.Word high = record {
      sound = ((is, tt, ordinary (λ k. tt)), h.sound, ordinary (λ k. tt));
      in_room = omega (arith, wide, h.in_room, own_one e);
      in_price = omega (arith, h.in_price);
    }
    merged_within width.Long high = within_more (omega arith) (omega arith) h
    merged_within width.Quad high = within_more (omega arith) (omega arith) h

  -- ---- addresses

  -- one of two formulas
  pub chosen_within : {most_room most_price : ℕ} (b : Bool) (x y : Formula) → Within live most_room most_price x → Within live most_room most_price y
      → Within live most_room most_price (if b then x else y)
  chosen_within true x y first second = first
  chosen_within false x y first second = second

  -- a shift is a small number
  shift_small : (scale : ℕ) → shift_of scale < 2 ^ 16
  shift_small scale = grind (arith, nat_tests)

  -- an index times its scale
  scaled_within : (index scale : ℕ) → index < 16 → Within live 3 3 (scaled index scale)
  unfolding scaled
  scaled_within index scale is = chosen_within (scale == 1) (Register index) (Operation ops.Shl (Register index) (Number (shift_of scale)))
      (record { sound = is; in_room = omega arith; in_price = omega arith })
      (record { sound = (is, tt, ordinary (λ k. tt)); in_room = omega arith; in_price = omega (arith, number_small (shift_of scale) (shift_small scale)) })

  -- what is moved by an offset
  moved_within : (d : ℕ) (e : Formula) → Within live 4 5 e → Within live 4 10 (with_displacement d (Some e))
  moved_within d e h = chosen_within (d == 0) e (Operation ops.Add e (Number d)) (within_more (omega arith) (omega arith) h)
      (record { sound = (h.sound, tt, ordinary (λ k. tt)); in_room = omega (arith, h.in_room, own_one e); in_price = omega (arith, h.in_price, number_most d) })

  -- the sum of base, index and offset
  parts_within : (d : ℕ) (base index : Option ℕ) (scale : ℕ) → IfSome base (λ n. n < 16) → IfSome index (λ n. n < 16)
      → Within live 4 10 (with_displacement d (with_index index scale (base_part base)))
  parts_within d None None scale based indexed = within_more (omega arith) (omega arith) (number_within d)
  parts_within d (Some base) None scale based indexed = moved_within d (Register base) (record { sound = based; in_room = omega arith; in_price = omega arith })
  parts_within d None (Some index) scale based indexed = moved_within d (scaled index scale) (within_more (omega arith) (omega arith) (scaled_within index scale indexed))
  parts_within d (Some base) (Some index) scale based indexed =
      let h = scaled_within index scale indexed in
      moved_within d (Operation ops.Add (Register base) (scaled index scale))
      (record { sound = (based, h.sound, ordinary (λ k. tt)); in_room = omega (arith, h.in_room, own_one (scaled index scale)); in_price = omega (arith, h.in_price) })

  -- an index is a register
  indexed_only : (index : Option ℕ) → IfSome index (λ n. (n < 16) × (n ≡ 4 → ⊥)) → IfSome index (λ n. n < 16)
  indexed_only None is = is
  indexed_only (Some n) is = is.0

  -- the address of memory
  pub address_within : (m : Mem) (after : ℕ) → IsMemory m → Within live 4 10 (address_formula m after)
  unfolding address_formula
  address_within m after is = parts_within (displacement m after) m.base m.index m.scale is.base (indexed_only m.index is.index)

  -- ---- results and flags

  -- the highest bit
  pub top_within : {most_room most_price : ℕ} (w : Width) (e : Formula) → 3 ≤ most_room → Within live most_room most_price e → Within live most_room (most_price + 2) (top w e)
  top_within w e wide h = record {
    sound = (h.sound, tt, ordinary (λ k. tt));
    in_room = omega (arith, wide, h.in_room, own_one e);
    in_price = omega (arith, h.in_price, number_small (bits w - 1) (narrow w));
  }
    where
      narrow : (w : Width) → bits w - 1 < 2 ^ 16
      narrow width.Byte = omega arith
      narrow width.Word = omega arith
      narrow width.Long = omega arith
      narrow width.Quad = omega arith

  -- whether a result is zero
  pub zero_within : (r : ℕ) → Among live r → Within live 2 3 (Operation ops.Eq (Kept r) (Number 0))
  zero_within r in_r = record { sound = (in_r, tt, ordinary (λ k. tt)); in_room = omega arith; in_price = omega arith }

  module _ (at after : ℕ) (a b : ℕ) (in_a : Among live a) (in_b : Among live b) where
    -- an operation on both
    operation : (o : IrOp) → ((k : Known) → HasConstant o k) → op_cost o ≤ 1 → Within live 3 3 (Operation o (Kept a) (Kept b))
    operation o plain cheap = record { sound = (in_a, in_b, ordinary plain); in_room = omega arith; in_price = omega (arith, cheap) }

    -- the same, and then with the carry
    with_flag : (o : IrOp) → ((k : Known) → HasConstant o k) → op_cost o ≤ 1 → Within live 3 3 (Operation o (Operation o (Kept a) (Kept b)) (Flag 0))
    with_flag o plain cheap = record { sound = ((in_a, in_b, ordinary plain), omega arith, ordinary plain); in_room = omega arith; in_price = omega (arith, cheap) }

    -- the result of an operation on both
    pub result_within : (o : AluOp) (w : Width) → Within live 3 5 (result at after o w (Kept a) (Kept b))
    result_within op.Add w = clean_within w _ (omega arith) (operation ops.Add (λ k. tt) (omega arith))
    result_within op.Or w = within_more (omega arith) (omega arith) (operation ops.Or (λ k. tt) (omega arith))
    result_within op.Adc w = clean_within w _ (omega arith) (with_flag ops.Add (λ k. tt) (omega arith))
    result_within op.Sbb w = clean_within w _ (omega arith) (with_flag ops.Sub (λ k. tt) (omega arith))
    result_within op.And w = within_more (omega arith) (omega arith) (operation ops.And (λ k. tt) (omega arith))
    result_within op.Sub w = clean_within w _ (omega arith) (operation ops.Sub (λ k. tt) (omega arith))
    result_within op.Xor w = within_more (omega arith) (omega arith) (operation ops.Xor (λ k. tt) (omega arith))
    result_within op.Cmp w = clean_within w _ (omega arith) (operation ops.Sub (λ k. tt) (omega arith))

  -- the overflow of a sum and of a difference, of which a and r are kept
  module _ (w : Width) (a r : ℕ) (b : Formula) (in_a : Among live a) (in_r : Among live r) (h : Within live 1 1 b) where
    pub sum_overflow_within : Within live 3 6 (sum_overflow w (Kept a) b (Kept r))
    sum_overflow_within = top_within {most_price = 4} w _ (omega arith) (record {
      sound = ((in_a, in_r, ordinary (λ k. tt)), (h.sound, in_r, ordinary (λ k. tt)), ordinary (λ k. tt));
      in_room = omega (arith, h.in_room, own_one b);
      in_price = omega (arith, h.in_price);
    })

    pub difference_overflow_within : Within live 3 6 (difference_overflow w (Kept a) b (Kept r))
    difference_overflow_within = top_within {most_price = 4} w _ (omega arith) (record {
      sound = ((in_a, h.sound, ordinary (λ k. tt)), (in_a, in_r, ordinary (λ k. tt)), ordinary (λ k. tt));
      in_room = omega (arith, h.in_room, own_one b);
      in_price = omega (arith, h.in_price);
    })

  -- the carry or borrow of two values that are kept
  module _ (a r : ℕ) (in_a : Among live a) (in_r : Among live r) where
    pub sum_carry_within : Within live 3 7 (sum_carry (Kept a) (Kept r))
    sum_carry_within = record { sound = (in_r, in_a, ordinary (λ k. tt)); in_room = omega arith; in_price = omega arith }

    pub sum_carry_in_within : Within live 3 7 (sum_carry_in (Kept a) (Kept r))
    sum_carry_in_within = record {
      sound = (((in_r, in_a, ordinary (λ k. tt)), omega arith, ordinary (λ k. tt)), (in_r, in_a, ordinary (λ k. tt)), ordinary (λ k. tt));
      in_room = omega arith;
      in_price = omega arith;
    }

    pub borrow_within : Within live 3 7 (borrow (Kept a) (Kept r))
    borrow_within = record { sound = (in_a, in_r, ordinary (λ k. tt)); in_room = omega arith; in_price = omega arith }

    pub borrow_in_within : Within live 3 7 (borrow_in (Kept a) (Kept r))
    borrow_in_within = record {
      sound = (((in_a, in_r, ordinary (λ k. tt)), omega arith, ordinary (λ k. tt)), (in_a, in_r, ordinary (λ k. tt)), ordinary (λ k. tt));
      in_room = omega arith;
      in_price = omega arith;
    }

  -- ---- conditions

  -- a flag, and two
  flag : (f : ℕ) → f < 4 → Within live 4 5 (Flag f)
  flag f is = record { sound = is; in_room = omega arith; in_price = omega arith }

  two_flags : (o : IrOp) (f g : ℕ) → ((k : Known) → HasConstant o k) → op_cost o ≤ 1 → f < 4 → g < 4 → Within live 4 5 (Operation o (Flag f) (Flag g))
  two_flags o f g plain cheap first second = record { sound = (first, second, ordinary plain); in_room = omega arith; in_price = omega (arith, cheap) }

  -- the condition of an even code, and of any
  pub even_within : (code : ℕ) → Within live 4 5 (even_formula code)
  even_within code =
      chosen_within (code == 0) _ _ (flag OF (omega arith)) (chosen_within (code == 2) _ _ (flag CF (omega arith)) (chosen_within (code == 4) _ _ (flag ZF (omega arith))
      (chosen_within (code == 6) _ _ (two_flags ops.Or CF ZF (λ k. tt) (omega arith) (omega arith) (omega arith)) (chosen_within (code == 8) _ _ (flag SF (omega arith))
      (chosen_within (code == 12) _ _ (two_flags ops.Xor SF OF (λ k. tt) (omega arith) (omega arith) (omega arith))
      (record { sound = (omega arith, (omega arith, omega arith, ordinary (λ k. tt)), ordinary (λ k. tt)); in_room = omega arith; in_price = omega arith }))))))

  pub condition_within : (code : ℕ) → Within live 4 7 (condition_formula code)
  unfolding condition_formula
  condition_within code =
      let h = even_within (code - 1) in
      chosen_within (code % 2 == 1) (Operation ops.Xor (even_formula (code - 1)) (Number 1)) (even_formula code)
      (record { sound = (h.sound, tt, ordinary (λ k. tt)); in_room = omega (arith, h.in_room, own_one (even_formula (code - 1))); in_price = omega (arith, h.in_price) })
      (within_more (omega arith) (omega arith) (even_within code))
