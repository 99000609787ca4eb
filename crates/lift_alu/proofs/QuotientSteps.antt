-- The steps of DIV and IDIV are selectable.
use Rattle.std.proofs.Common.{◌≢◌, ℕ, ◌+◌, ◌^◌, ◌<◌, ◌≤◌, Bool, true, false, List, [], ◌∷◌, length, refl, inl, inr, arith}
use Rattle.ev_graph.specs.declared.events.TrapKind.{TrapKind}
use Rattle.ev_graph.specs.declared.events.TrapKind.TheVariants.{BadAccess, Divide}
use Rattle.x64_syntax.specs.Operands.{bits}
use Rattle.x64_syntax.specs.declared.operand.Operand.{Operand}
use Rattle.x64_syntax.specs.declared.operand.Width.{Width}
use Rattle.x64_syntax.specs.declared.operand.Width.TheVariants as width
use Rattle.x64_table.specs.State.{low_part, rax, rdx}
use Rattle.limm_ir.specs.declared.block.IrEnd.{IrEnd}
use Rattle.limm_ir.specs.declared.block.IrEnd.TheVariants as ends
use Rattle.limm_ir.specs.declared.step.IrOp.TheVariants as ops
use Rattle.lift_alu.specs.Formulas.{Formula, Kept, Number, Register, Operation, Lifting, done, size}
use Rattle.lift_alu.specs.Operands.{clean, with_sign, register_formula}
use Rattle.lift_alu.specs.Quotients.{traps_if, double, double_word, dividend_formula, divisor_formula, quotient_formula, range_formula}
use Rattle.lift_alu.specs.Quotients.{remainder_formula, bytes_formula, sets_zeros}
use Rattle.lift_alu.specs.Lifted.{puts_bytes, puts_parts, puts_quotient, divides_by, divides}
use Rattle.lift_alu.proofs.Tame.{Among, acting, dropped}
use Rattle.lift_alu.proofs.Modest.{ordinary, own_one, own_room, place_among, beside_more, beside_count, computed, Within, within_more}
use Rattle.lift_alu.proofs.Bounds.{small_within, clean_within, with_sign_within}
use Rattle.lift_alu.proofs.Liftings.{TameLifting, less_live, keeps_tame}
use Rattle.lift_alu.proofs.OperandSteps.{Reached, fetch_most, puts_tame, fetches_tame, kept_in_three}
use Rattle.lift_alu.proofs.ProductSteps.{cut_within, shifted_within, sets_pairs_tame, two_of, nothing_left}

module _ (live : List ℕ) where
  -- a low part of a register takes three words at most
  low_within : (w : Width) (number : ℕ) → number < 16 → Within live 3 3 (register_formula w (low_part number))
  unfolding register_formula
  low_within w number is = clean_within live {most_room = 3} {most_price = 1} w (Register number) (omega arith)
      (record { sound = is; in_room = omega arith; in_price = omega arith })

  -- a register above another
  above_within : (w : Width) → Within live 4 9 (Operation ops.Or (Operation ops.Shl (register_formula w rdx) (Number (bits w)))
      (register_formula w rax))
  above_within w =
      let upper = low_within w 2 (omega arith) in
      let lower = low_within w 0 (omega arith) in
      let count = small_within live (bits w) (few w) in
      record {
        sound = ((upper.sound, tt, ordinary (λ k. tt)), lower.sound, ordinary (λ k. tt));
        in_room = omega (arith, upper.in_room, lower.in_room, own_one (register_formula w rdx), own_one (register_formula w rax));
        in_price = omega (arith, upper.in_price, lower.in_price, count.in_price);
      }
    where
      few : (w : Width) → bits w < 2 ^ 16
      few width.Byte = omega arith
      few width.Word = omega arith
      few width.Long = omega arith
      few width.Quad = omega arith

  -- the double word, and the dividend
  double_within : (w : Width) → Within live 4 9 (double_word w)
  double_within width.Byte = record { sound = omega arith; in_room = omega arith; in_price = omega arith }
  double_within width.Word = above_within width.Word
  double_within width.Long = above_within width.Long
  double_within width.Quad = above_within width.Quad

  dividend_within : (sign : Bool) (w : Width) → Within live 4 11 (dividend_formula sign w)
  dividend_within false width.Byte = clean_within live width.Word _ (omega arith) (double_within width.Byte)
  dividend_within false width.Word = within_more (omega arith) (omega arith) (double_within width.Word)
  dividend_within false width.Long = within_more (omega arith) (omega arith) (double_within width.Long)
  dividend_within false width.Quad = within_more (omega arith) (omega arith) (double_within width.Quad)
  dividend_within true w = with_sign_within live (double w) _ (omega arith) (double_within w)

  -- the divisor
  divisor_within : (sign : Bool) (w : Width) (d : ℕ) → Among live d → Within live 3 2 (divisor_formula sign w (Kept d))
  divisor_within false w d in_d = within_more (omega arith) (omega arith) (kept_in_three live d in_d)
  divisor_within true w d in_d = with_sign_within live w (Kept d) (omega arith) (kept_in_three live d in_d)

  -- the quotient
  quotient_within : (sign : Bool) (n d : ℕ) → Among live n → Among live d → Within live 1 1 (quotient_formula sign (Kept n) (Kept d))
  quotient_within false n d in_n in_d = record { sound = (in_n, in_d, ordinary (λ k. tt)); in_room = omega arith; in_price = omega arith }
  quotient_within true n d in_n in_d = record { sound = (in_n, in_d, ordinary (λ k. tt)); in_room = omega arith; in_price = omega arith }

  -- whether it does not fit
  range_within : (sign : Bool) (w : Width) (q : ℕ) → Among live q → Within live 3 3 (range_formula sign w (Kept q))
  range_within false w q in_q = within_more (omega arith) (omega arith) (shifted_within live w q in_q)
  range_within true w q in_q =
      let extended = with_sign_within live w (Kept q) (omega arith) (kept_in_three live q in_q) in
      record {
        sound = (in_q, extended.sound, ordinary (λ k. tt));
        in_room = omega (arith, extended.in_room, own_one (with_sign w (Kept q)));
        in_price = omega (arith, extended.in_price);
      }

  -- what it leaves
  remainder_within : (n d q : ℕ) → Among live n → Among live d → Among live q
      → Within live 2 3 (remainder_formula (Kept n) (Kept d) (Kept q))
  remainder_within n d q in_n in_d in_q =
      record { sound = (in_n, (in_q, in_d, ordinary (λ k. tt)), ordinary (λ k. tt)); in_room = omega arith; in_price = omega arith }

  -- both in one word
  bytes_within : (sign : Bool) (q r : ℕ) → Among live q → Among live r → Within live 3 7 (bytes_formula sign (Kept q) (Kept r))
  unfolding clean
  bytes_within false q r in_q in_r =
      record { sound = ((in_r, tt, ordinary (λ k. tt)), in_q, ordinary (λ k. tt)); in_room = omega arith; in_price = omega arith }
  bytes_within true q r in_q in_r =
      let upper = clean_within live width.Byte (Kept r) (omega arith) (kept_in_three live r in_r) in
      let lower = clean_within live width.Byte (Kept q) (omega arith) (kept_in_three live q in_q) in
      record {
        sound = (
          (upper.sound, tt, ordinary (λ k. tt)),
          lower.sound,
          ordinary
              (λ k. tt),
        );
        in_room = omega arith;
        in_price = omega arith;
      }

module _ (end : IrEnd) where
  -- the thread ends where a value is not 0
  traps_if_tame : {live : List ℕ} {most_room most_price : ℕ} (e : Formula) → Within live most_room most_price e
      → most_room + length live ≤ 6
      → (kind : TrapKind) (most left : ℕ) (rest : Lifting) → kind ≢ BadAccess → most_price + (2 + left) ≤ most
      → TameLifting end live left rest
      → TameLifting end live most (traps_if kind e rest)
  unfolding traps_if
  traps_if_tame {live = live} e h few kind most left rest is cost tame next =
      computed end e live next most (2 + left) _ h.sound (omega (arith, h.in_room, few)) (omega (arith, h.in_price, cost))
      (acting refl (place_among next e live h.sound, tt) (λ known. is)
      (omega (arith, few, own_room e, h.in_room, beside_count next e live)) (omega arith)
      (dropped (beside_more next e live) (tame (next + size e))))

  -- all four flags are 0
  sets_zeros_tame : (live : List ℕ) (most left : ℕ) (rest : Lifting) → length live ≤ 5 → 5 + left ≤ most → TameLifting end live left rest
      → TameLifting end live most (sets_zeros rest)
  unfolding sets_zeros
  sets_zeros_tame live most left rest few cost tame =
      keeps_tame end (Number 0) (small_within live 0 (omega arith)) (omega (arith, few)) most (4 + left) _ (omega (arith, cost))
      (λ z. sets_pairs_tame end (z ∷ live) z z (4 + left) left rest (inl refl) (inl refl) (omega (arith, few)) (omega arith)
      (less_live end (z ∷ live) live rest (λ t among. inr among) tame))

module _ (at after goal : ℕ) where
  -- the block goes on where these instructions end
  abbrev goto : IrEnd
  goto = ends.Goto goal

  -- quotient and remainder of bytes
  bytes_tame : (sign : Bool) (q r : ℕ) → TameLifting goto (r ∷ q ∷ []) 23 (puts_bytes sign (Kept q) (Kept r))
  unfolding puts_bytes
  bytes_tame sign q r =
      sets_zeros_tame goto (r ∷ q ∷ []) 23 18 _ (omega arith) (omega arith)
      (puts_tame goto width.Word rax _ 18 0 done (bytes_within (r ∷ q ∷ []) sign q r (inr (inl refl)) (inl refl)) (omega arith)
      (omega arith) (omega arith) (omega arith)
      (nothing_left goal (r ∷ q ∷ []) 0))

  -- and those of other widths
  parts_tame : (sign : Bool) (w : Width) (q r : ℕ) → TameLifting goto (r ∷ q ∷ []) 23 (puts_parts sign w (Kept q) (Kept r))
  unfolding puts_parts
  parts_tame sign w q r =
      let live = r ∷ q ∷ [] in
      sets_zeros_tame goto live 23 18 _ (omega arith) (omega arith)
      (puts_tame goto w rax _ 18 9 _ (cut_within live sign w (Kept q) (omega arith) (kept_in_three live q (inr (inl refl)))) (omega arith)
      (omega arith) (omega arith) (omega arith)
      (puts_tame goto w rdx _ 9 0 done (cut_within live sign w (Kept r) (omega arith) (kept_in_three live r (inl refl))) (omega arith)
      (omega arith) (omega arith) (omega arith)
      (nothing_left goal live 0)))

  answer_tame : (sign : Bool) (w : Width) (q r : ℕ) → TameLifting goto (r ∷ q ∷ []) 23 (puts_quotient sign w (Kept q) (Kept r))
  unfolding puts_quotient
  answer_tame sign width.Byte q r = bytes_tame sign q r
  answer_tame sign width.Word q r = parts_tame sign width.Word q r
  answer_tame sign width.Long q r = parts_tame sign width.Long q r
  answer_tame sign width.Quad q r = parts_tame sign width.Quad q r

  -- two of three may be read further on
  first_two : (x y z t : ℕ) → Among (x ∷ y ∷ []) t → Among (x ∷ y ∷ z ∷ []) t
  first_two x y z t (inl same) = inl same
  first_two x y z t (inr (inl same)) = inr (inl same)
  first_two x y z t (inr (inr none)) = elim none [ ]

  -- a division by what was fetched
  by_tame : (sign : Bool) (w : Width) (by : ℕ) → TameLifting goto (by ∷ []) 50 (divides_by sign w (Kept by))
  unfolding divides_by
  by_tame sign w by =
      traps_if_tame goto (Operation ops.Eq (Kept by) (Number 0)) zero (omega arith) Divide 50 45 _ (λ same. absurd cc) (omega arith)
      (keeps_tame goto _ (dividend_within (by ∷ []) sign w) (omega arith) 45 34 _ (omega arith)
      (λ n. keeps_tame goto _ (divisor_within (n ∷ by ∷ []) sign w by (inr (inl refl))) (omega arith) 34 32 _ (omega arith)
      (λ d. less_live goto (d ∷ n ∷ by ∷ []) (d ∷ n ∷ []) _ (first_two d n by)
      (keeps_tame goto _ (quotient_within (d ∷ n ∷ []) sign n d (inr (inl refl)) (inl refl)) (omega arith) 32 31 _ (omega arith)
      (λ q. traps_if_tame goto _ (range_within (q ∷ d ∷ n ∷ []) sign w q (inl refl)) (omega arith) Divide 31 26 _ (λ same. absurd cc)
      (omega arith)
      (keeps_tame goto _ (remainder_within (q ∷ d ∷ n ∷ []) n d q (inr (inr (inl refl))) (inr (inl refl)) (inl refl)) (omega arith) 26 23 _
      (omega arith)
      (λ r. less_live goto (r ∷ q ∷ d ∷ n ∷ []) (r ∷ q ∷ []) _ (two_of r q d n) (answer_tame sign w q r))))))))
    where
      zero : Within (by ∷ []) 2 3 (Operation ops.Eq (Kept by) (Number 0))
      zero = record { sound = (inl refl, tt, ordinary (λ k. tt)); in_room = omega arith; in_price = omega arith }

  -- DIV and IDIV
  pub divides_tame : (sign : Bool) (w : Width) (from : Operand) → Reached from → TameLifting goto [] 62 (divides at after sign w from)
  unfolding divides
  divides_tame sign w from is = fetches_tame goto at after [] w from 62 50 _ is (omega arith) (omega (arith, fetch_most from))
      (λ by. by_tame sign w by)
