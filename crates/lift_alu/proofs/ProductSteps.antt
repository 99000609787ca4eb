-- The steps of MUL and IMUL are selectable.
use Rattle.std.proofs.Common.{◌≡◌, ℕ, ◌+◌, ◌≤◌, Bool, true, false, List, [], ◌∷◌, length, refl, inl, inr, arith}
use Rattle.x64_syntax.specs.Operands.{bits}
use Rattle.x64_syntax.specs.declared.operand.Operand.{Operand}
use Rattle.x64_syntax.specs.declared.operand.Width.{Width}
use Rattle.x64_syntax.specs.declared.operand.Width.TheVariants as width
use Rattle.x64_table.specs.State.{rax, rdx}
use Rattle.limm_ir.specs.declared.block.IrEnd.{IrEnd}
use Rattle.limm_ir.specs.declared.block.IrEnd.TheVariants as ends
use Rattle.limm_ir.specs.declared.step.IrOp.TheVariants as ops
use Rattle.lift_alu.specs.Formulas.{Formula, Kept, Number, Operation, Lifting, done}
use Rattle.lift_alu.specs.Operands.{with_sign, register_formula}
use Rattle.lift_alu.specs.Flags.{CF, ZF, SF, OF}
use Rattle.lift_alu.specs.Products.{differs, extension, cut, product_formula, high_formula, filling, over_formula, sets_pairs, sets_over}
use Rattle.lift_alu.specs.Lifted.{puts_word, puts_halves, puts_product, multiplies, multiplies_into}
use Rattle.lift_alu.proofs.Tame.{Among}
use Rattle.lift_alu.proofs.Modest.{ordinary, own_one, Within, within_more}
use Rattle.lift_alu.proofs.Bounds.{kept_within, small_within, clean_within, with_sign_within, register_within}
use Rattle.lift_alu.proofs.Liftings.{TameLifting, less_live, done_tame, keeps_tame, sets_flag_tame}
use Rattle.lift_alu.proofs.OperandSteps.{Reached, fetch_most, puts_tame, puts_kept_tame, fetches_tame, kept_in_three, puts_operand_tame}

module _ (live : List ℕ) where
  -- the low bits of a value that has others where it has a sign
  pub cut_within : {most_room most_price : ℕ} (sign : Bool) (w : Width) (e : Formula) → 3 ≤ most_room → Within live most_room most_price e
      → Within live most_room (most_price + 2) (cut sign w e)
  cut_within false w e wide h = within_more (omega arith) (omega arith) h
  cut_within true w e wide h = clean_within live w e wide h

  -- an extension of what is kept
  extension_within : (sign : Bool) (w : Width) (p : ℕ) → Among live p → Within live 3 2 (extension sign w (Kept p))
  extension_within false w p in_p = clean_within live w (Kept p) (omega arith) (kept_in_three live p in_p)
  extension_within true w p in_p = with_sign_within live w (Kept p) (omega arith) (kept_in_three live p in_p)

  -- whether two values differ, of which the first is kept or takes one step
  differs_within : (x y : Formula) → Within live 1 1 x → Within live 2 2 y → Within live 3 7 (differs x y)
  differs_within x y first second = record {
    sound = ((first.sound, second.sound, ordinary (λ k. tt)), tt, ordinary (λ k. tt));
    in_room = omega (arith, first.in_room, second.in_room, own_one x, own_one y);
    in_price = omega (arith, first.in_price, second.in_price);
  }

  -- a value that is kept, and another
  differs_kept : (p : ℕ) (y : Formula) → Among live p → Within live 3 2 y → Within live 3 7 (differs (Kept p) y)
  differs_kept p y in_p second = record {
    sound = ((in_p, second.sound, ordinary (λ k. tt)), tt, ordinary (λ k. tt));
    in_room = omega (arith, second.in_room, own_one y);
    in_price = omega (arith, second.in_price);
  }

  -- copies of a sign
  filling_within : (sign : Bool) (p : ℕ) → Among live p → Within live 2 2 (filling sign (Kept p))
  filling_within false p in_p = within_more (omega arith) (omega arith) (small_within live 0 (omega arith))
  filling_within true p in_p = record { sound = (in_p, tt, ordinary (λ k. tt)); in_room = omega arith; in_price = omega arith }

  -- a product of two values
  product_within : (sign : Bool) (w : Width) (a b : ℕ) → Among live a → Among live b
      → Within live 4 6 (product_formula sign w (Kept a) (Kept b))
  product_within false w a b in_a in_b = record { sound = (in_a, in_b, ordinary (λ k. tt)); in_room = omega arith; in_price = omega arith }
  product_within true w a b in_a in_b =
      let first = with_sign_within live w (Kept a) (omega arith) (kept_in_three live a in_a) in
      let second = with_sign_within live w (Kept b) (omega arith) (kept_in_three live b in_b) in
      record {
        sound = (first.sound, second.sound, ordinary (λ k. tt));
        in_room = omega (arith, first.in_room, second.in_room, own_one (with_sign w (Kept a)), own_one (with_sign w (Kept b)));
        in_price = omega (arith, first.in_price, second.in_price);
      }

  -- a shift to the right by a width
  pub shifted_within : (w : Width) (p : ℕ) → Among live p → Within live 3 2 (Operation ops.Shr (Kept p) (Number (bits w)))
  shifted_within width.Byte p in_p = record { sound = (in_p, tt, ordinary (λ k. tt)); in_room = omega arith; in_price = omega arith }
  shifted_within width.Word p in_p = record { sound = (in_p, tt, ordinary (λ k. tt)); in_room = omega arith; in_price = omega arith }
  shifted_within width.Long p in_p = record { sound = (in_p, tt, ordinary (λ k. tt)); in_room = omega arith; in_price = omega arith }
  shifted_within width.Quad p in_p = record { sound = (in_p, tt, ordinary (λ k. tt)); in_room = omega arith; in_price = omega arith }

  -- the upper half of the product, which of 64 bits takes one step
  above_within : (sign : Bool) (w : Width) (p : ℕ) → Among live p
      → Within live 3 4 (cut sign w (Operation ops.Shr (Kept p) (Number (bits w))))
  above_within sign w p in_p = cut_within sign w _ (omega arith) (shifted_within w p in_p)

  upper_within : (sign : Bool) (a b p : ℕ) → Among live a → Among live b
      → Within live 1 1 (high_formula sign width.Quad (Kept a) (Kept b) (Kept p))
  upper_within false a b p in_a in_b = record { sound = (in_a, in_b, ordinary (λ k. tt)); in_room = omega arith; in_price = omega arith }
  upper_within true a b p in_a in_b = record { sound = (in_a, in_b, ordinary (λ k. tt)); in_room = omega arith; in_price = omega arith }

  high_within : (sign : Bool) (w : Width) (a b p : ℕ) → Among live a → Among live b → Among live p
      → Within live 3 4 (high_formula sign w (Kept a) (Kept b) (Kept p))
  high_within sign width.Byte a b p in_a in_b in_p = above_within sign width.Byte p in_p
  high_within sign width.Word a b p in_a in_b in_p = above_within sign width.Word p in_p
  high_within sign width.Long a b p in_a in_b in_p = above_within sign width.Long p in_p
  high_within sign width.Quad a b p in_a in_b in_p = within_more (omega arith) (omega arith) (upper_within sign a b p in_a in_b)

  -- whether it is more than its low half
  over_within : (sign : Bool) (w : Width) (high : Formula) (p : ℕ) → Among live p → (w ≡ width.Quad → Within live 1 1 high)
      → Within live 3 7 (over_formula sign w high (Kept p))
  over_within sign width.Byte high p in_p h = differs_kept p _ in_p (extension_within sign width.Byte p in_p)
  over_within sign width.Word high p in_p h = differs_kept p _ in_p (extension_within sign width.Word p in_p)
  over_within sign width.Long high p in_p h = differs_kept p _ in_p (extension_within sign width.Long p in_p)
  over_within sign width.Quad high p in_p h = differs_within high _ (h refl) (filling_within sign p in_p)

module _ (end : IrEnd) where
  -- CF and OF get what is kept, and ZF and SF too
  pub sets_pairs_tame : (live : List ℕ) (o z most left : ℕ) (rest : Lifting) → Among live o → Among live z → length live ≤ 6
      → 4 + left ≤ most → TameLifting end live left rest
      → TameLifting end live most (sets_pairs (Kept o) (Kept z) rest)
  unfolding sets_pairs
  sets_pairs_tame live o z most left rest in_o in_z few cost tame =
      sets_flag_tame end (Kept o) (kept_within live o in_o) (omega (arith, few)) OF most (3 + left) _ (omega arith) (omega (arith, cost))
      (sets_flag_tame end (Kept z) (kept_within live z in_z) (omega (arith, few)) ZF (3 + left) (2 + left) _ (omega arith) (omega arith)
      (sets_flag_tame end (Kept z) (kept_within live z in_z) (omega (arith, few)) SF (2 + left) (1 + left) _ (omega arith) (omega arith)
      (sets_flag_tame end (Kept o) (kept_within live o in_o) (omega (arith, few)) CF (1 + left) left rest (omega arith)
      (omega arith) tame)))

  -- the flags of a product
  sets_over_tame : (live : List ℕ) (e : Formula) (most left : ℕ) (rest : Lifting) → Within live 3 7 e → length live ≤ 3 → 12 + left ≤ most
      → TameLifting end live left rest
      → TameLifting end live most (sets_over e rest)
  unfolding sets_over
  sets_over_tame live e most left rest h few cost tame =
      keeps_tame end e h (omega (arith, few)) most (5 + left) _ (omega (arith, cost))
      (λ o. keeps_tame end (Number 0) (small_within (o ∷ live) 0 (omega arith)) (omega (arith, few)) (5 + left) (4 + left) _ (omega arith)
      (λ z. sets_pairs_tame (z ∷ o ∷ live) o z (4 + left) left rest (inr (inl refl)) (inl refl) (omega (arith, few)) (omega arith)
      (less_live end (z ∷ o ∷ live) live rest (λ t among. inr (inr among)) tame)))

-- only the first may be read further on
first_of : (x y z t : ℕ) → Among (x ∷ []) t → Among (x ∷ y ∷ z ∷ []) t
first_of x y z t (inl same) = inl same
first_of x y z t (inr none) = elim none [ ]

-- or the first two
pub two_of : (x y z u t : ℕ) → Among (x ∷ y ∷ []) t → Among (x ∷ y ∷ z ∷ u ∷ []) t
two_of x y z u t (inl same) = inl same
two_of x y z u t (inr (inl same)) = inr (inl same)
two_of x y z u t (inr (inr none)) = elim none [ ]

-- nothing is left to do, and nothing is read any more
pub nothing_left : (goal : ℕ) (live : List ℕ) (most : ℕ) → TameLifting (ends.Goto goal) live most done
nothing_left goal live most = done_tame (ends.Goto goal) live most tt tt

module _ (at after goal : ℕ) where
  -- the block goes on where these instructions end
  abbrev goto : IrEnd
  goto = ends.Goto goal

  -- the double product of bytes
  word_tame : (sign : Bool) (p : ℕ) → TameLifting goto (p ∷ []) 39 (puts_word sign (Kept p))
  unfolding puts_word
  word_tame sign p =
      sets_over_tame goto (p ∷ []) _ 39 27 _ (over_within (p ∷ []) sign width.Byte (Kept p) p (inl refl) (λ quad. absurd cc)) (omega arith)
      (omega arith)
      (puts_tame goto width.Word rax _ 27 0 done (cut_within (p ∷ []) sign width.Word (Kept p) (omega arith)
      (kept_in_three (p ∷ []) p (inl refl)))
      (omega arith) (omega arith) (omega arith) (omega arith) (nothing_left goal (p ∷ []) 0))

  -- and that of other widths
  halves_tame : (sign : Bool) (w : Width) (a b p : ℕ) → TameLifting goto (p ∷ a ∷ b ∷ []) 39 (puts_halves sign w (Kept a) (Kept b) (Kept p))
  unfolding puts_halves
  halves_tame sign w a b p =
      keeps_tame goto _ (high_within (p ∷ a ∷ b ∷ []) sign w a b p (inr (inl refl)) (inr (inr (inl refl))) (inl refl))
      (omega arith) 39 35 _ (omega arith)
      (λ h. less_live goto (h ∷ p ∷ a ∷ b ∷ []) (h ∷ p ∷ []) _ (two_of h p a b)
      (sets_over_tame goto (h ∷ p ∷ []) _ 35 23 _ (over_within (h ∷ p ∷ []) sign w (Kept h) p (inr (inl refl))
      (λ quad. within_more (omega arith) (omega arith) (kept_within (h ∷ p ∷ []) h (inl refl))))
      (omega arith) (omega arith)
      (puts_tame goto w rax _ 23 14 _ (clean_within (h ∷ p ∷ []) w (Kept p) (omega arith) (kept_in_three (h ∷ p ∷ []) p (inr (inl refl))))
      (omega arith) (omega arith) (omega arith) (omega arith)
      (puts_kept_tame goto (h ∷ p ∷ []) w rdx h 14 7 done (inl refl) (omega arith) (omega arith) (omega arith)
      (nothing_left goal (h ∷ p ∷ []) 7)))))

  product_tame : (sign : Bool) (w : Width) (a b p : ℕ)
      → TameLifting goto (p ∷ a ∷ b ∷ []) 39 (puts_product sign w (Kept a) (Kept b) (Kept p))
  unfolding puts_product
  product_tame sign width.Byte a b p = less_live goto (p ∷ a ∷ b ∷ []) (p ∷ []) _ (first_of p a b) (word_tame sign p)
  product_tame sign width.Word a b p = halves_tame sign width.Word a b p
  product_tame sign width.Long a b p = halves_tame sign width.Long a b p
  product_tame sign width.Quad a b p = halves_tame sign width.Quad a b p

  -- MUL and IMUL with one operand
  pub multiplies_tame : (sign : Bool) (w : Width) (from : Operand) → Reached from → TameLifting goto [] 62 (multiplies at after sign w from)
  unfolding multiplies
  multiplies_tame sign w from is =
      fetches_tame goto at after [] w from 62 50 _ is (omega arith) (omega (arith, fetch_most from))
      (λ b. keeps_tame goto (register_formula w rax) (register_within (b ∷ []) w rax (omega arith)) (omega arith) 50 45 _ (omega arith)
      (λ a. keeps_tame goto _ (product_within (a ∷ b ∷ []) sign w a b (inl refl) (inr (inl refl))) (omega arith) 45 39 _ (omega arith)
      (λ p. product_tame sign w a b p)))

  -- IMUL with two or three operands
  pub multiplies_into_tame : (w : Width) (to first second : Operand) → Reached to → Reached first → Reached second
      → TameLifting goto [] 62 (multiplies_into at after w to first second)
  unfolding multiplies_into
  multiplies_into_tame w to first second is one two =
      fetches_tame goto at after [] w first 62 50 _ one (omega arith) (omega (arith, fetch_most first))
      (λ a. fetches_tame goto at after (a ∷ []) w second 50 38 _ two (omega arith) (omega (arith, fetch_most second))
      (λ b. keeps_tame goto _ (product_within (b ∷ a ∷ []) true w a b (inr (inl refl)) (inl refl)) (omega arith) 38 32 _ (omega arith)
      (λ p. sets_over_tame goto (p ∷ b ∷ a ∷ []) _ 32 20 _ (over_within (p ∷ b ∷ a ∷ []) true w _ p (inl refl) (high w a b p))
      (omega arith) (omega arith)
      (less_live goto (p ∷ b ∷ a ∷ []) (p ∷ []) _ (first_of p b a)
      (puts_operand_tame goto at after w to _ 20 0 done
      (clean_within (p ∷ []) w (Kept p) (omega arith) (kept_in_three (p ∷ []) p (inl refl)))
      (omega arith) (omega arith) is (omega arith) (nothing_left goal (p ∷ []) 0))))))
    where
      high : (w : Width) (a b p : ℕ) → w ≡ width.Quad → Within (p ∷ b ∷ a ∷ []) 1 1 (high_formula true w (Kept a) (Kept b) (Kept p))
      high width.Byte a b p quad = absurd cc
      high width.Word a b p quad = absurd cc
      high width.Long a b p quad = absurd cc
      high width.Quad a b p quad = upper_within (p ∷ b ∷ a ∷ []) true a b p (inr (inr (inl refl))) (inr (inl refl))
