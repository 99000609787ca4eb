-- The values of the formulas of products.
use Rattle.std.proofs.Common.{◌≡◌, ℕ, ◌+◌, ◌-◌, ◌*◌, ◌/◌, ◌%◌, ◌^◌, ◌<◌, ◌≤◌, ◌==◌, Bool, true, false, refl, sym, ap, ◌∙◌, subst, arith}
use Rattle.std.specs.Prelude.{pos, neg_ℤ, ◌*ℤ◌, ◌≤ℤ◌, not, if◌then◌else◌}
use Rattle.std.proofs.lemmas.Int.{ints}
use Rattle.std.proofs.Math.Nat.{div-le_self}
use Rattle.word_arith.specs.ArmWords.{umulh, smulh}
use Rattle.word_arith.specs.Bits.{bit, top_bit}
use Rattle.word_arith.specs.Masks.{ones}
use Rattle.word_arith.specs.Signed.{signed, low_bits, sign_extend}
use Rattle.word_arith.specs.Width.{IsWidth}
use Rattle.word_arith.proofs.CallerLemmas.{bit_below, bit-not, mod_mod, mod_small, low_bits-mod, low_bits_below, range_by_extension}
use Rattle.word_arith.proofs.CallerLemmas.{product_of_extended, product_within, product_below}
use Rattle.alu_width.specs.Products.{product}
use Rattle.alu_width.proofs.CallerLemmas.{mul_by_words, imul_by_words, over_mul, over_imul, over_imul-is, high_mul, high_imul}
use Rattle.x64_syntax.specs.Operands.{bits}
use Rattle.x64_syntax.specs.declared.operand.Width.{Width}
use Rattle.x64_syntax.specs.declared.operand.Width.TheVariants as width
use Rattle.x64_table.specs.Outcomes.{filled}
use Rattle.limm_ir.specs.Steps.{IrState}
use Rattle.limm_ir.specs.declared.step.IrOp.TheVariants as ops
use Rattle.lift_alu.specs.Formulas.{Formula, Number, Operation, value}
use Rattle.lift_alu.specs.Operands.{clean, with_sign}
use Rattle.lift_alu.specs.Products.{differs, extension, cut, product_formula, high_formula, over_formula}
use Rattle.lift_alu.proofs.Computed.{IsKeptBelow}
use Rattle.lift_alu.proofs.KeptFormulas.{below_clean, below_with_sign}
use Rattle.lift_alu.proofs.OperandValues.{value_clean, value_with_sign}
use Rattle.lift_alu.proofs.OperandRules.{low_of_fit, low_below}
use Rattle.lift_alu.proofs.MoveValues.{is_width, width_most, value_filled}

-- ---- what the formulas keep

module _ (next : ℕ) where
  pub below_cut : (sign : Bool) (w : Width) (e : Formula) → IsKeptBelow next e → IsKeptBelow next (cut sign w e)
  below_cut false w e kept = kept
  below_cut true w e kept = below_clean next w e kept

  below_extension : (sign : Bool) (w : Width) (e : Formula) → IsKeptBelow next e → IsKeptBelow next (extension sign w e)
  below_extension false w e kept = below_clean next w e kept
  below_extension true w e kept = below_with_sign next w e kept

  pub below_product : (sign : Bool) (w : Width) (a b : Formula) → IsKeptBelow next a → IsKeptBelow next b
      → IsKeptBelow next (product_formula sign w a b)
  below_product false w a b first second = (first, second)
  below_product true w a b first second = (below_with_sign next w a first, below_with_sign next w b second)

  pub below_high : (sign : Bool) (w : Width) (a b p : Formula) → IsKeptBelow next a → IsKeptBelow next b → IsKeptBelow next p
      → IsKeptBelow next (high_formula sign w a b p)
  below_high sign width.Byte a b p first second third = below_cut sign width.Byte _ (third, tt)
  below_high sign width.Word a b p first second third = below_cut sign width.Word _ (third, tt)
  below_high sign width.Long a b p first second third = below_cut sign width.Long _ (third, tt)
  below_high false width.Quad a b p first second third = (first, second)
  below_high true width.Quad a b p first second third = (first, second)

  pub below_over : (sign : Bool) (w : Width) (high p : Formula) → IsKeptBelow next high → IsKeptBelow next p
      → IsKeptBelow next (over_formula sign w high p)
  below_over sign width.Byte high p first second = ((second, below_extension sign width.Byte p second), tt)
  below_over sign width.Word high p first second = ((second, below_extension sign width.Word p second), tt)
  below_over sign width.Long high p first second = ((second, below_extension sign width.Long p second), tt)
  below_over false width.Quad high p first second = ((first, tt), tt)
  below_over true width.Quad high p first second = ((first, (second, tt)), tt)

-- ---- numbers

-- what 64 bits hold of the product of two values
abbrev pub product_word : (sign : Bool) → (W a b : ℕ) → ℕ
product_word false W a b = a * b % 2 ^ 64
product_word true W a b = sign_extend 64 W a * sign_extend 64 W b % 2 ^ 64

-- they fit 64 bits
pub product_word_fits : (sign : Bool) (W a b : ℕ) → product_word sign W a b < 2 ^ 64
product_word_fits false W a b = omega arith
product_word_fits true W a b = omega arith

-- the low half is in them
pub low_half : (sign : Bool) (W a b : ℕ) → W ≤ 64 → (product sign W a b).low ≡ product_word sign W a b % 2 ^ W
unfolding product
low_half false W a b most = sym (mod_mod (a * b) 64 W most)
low_half true W a b most =
    let z = signed W a *ℤ signed W b in
    low_bits-mod (2 * W) W z (omega arith) ∙ sym (low_bits-mod 64 W z most) ∙ ap (λ m. m % 2 ^ W) (product_of_extended 64 W a b)

-- and fits
pub low_fits : (sign : Bool) (w : Width) (a b : ℕ) → (product sign (bits w) a b).low < 2 ^ bits w
low_fits sign w a b = subst (λ k. k < 2 ^ bits w) (sym (low_half sign (bits w) a b (width_most w)))
    (low_below w (product_word sign (bits w) a b))

-- half of a double word fits a word
upper_fits : (W n : ℕ) → IsWidth W → n < 2 ^ (2 * W) → n / 2 ^ W < 2 ^ W
upper_fits W n w fit = grind arith

-- the upper half fits
pub high_fits : (sign : Bool) (W a b : ℕ) → IsWidth W → a < 2 ^ W → b < 2 ^ W → (product sign W a b).high < 2 ^ W
unfolding product
high_fits false W a b w p q = upper_fits W (a * b) w (product_below W a b p q)
high_fits true W a b w p q = upper_fits W (low_bits (2 * W) (signed W a *ℤ signed W b)) w
    (low_bits_below (2 * W) (signed W a *ℤ signed W b))

-- below 64 bits all of a product without sign is in 64 bits
whole : (W a b : ℕ) → IsWidth W → W < 64 → a < 2 ^ W → b < 2 ^ W → a * b < 2 ^ 64
whole W a b w small p q = let below = product_below W a b p q in grind arith

-- copies of the sign of 64 bits
copies : (n : ℕ) → filled 64 n ≡ bit (top_bit 64 n) * (2 ^ 64 - 1)
unfolding filled
copies n = by (top_bit 64 n)
  where
    by : (b : Bool) → (if b then ones 64 else 0) ≡ bit b * (2 ^ 64 - 1)
    by true = refl
    by false = refl

-- the meanings of two words of at most 32 bits have a product that fits 64 bits with sign
near : (W a b : ℕ) → IsWidth W → W < 64 → a < 2 ^ W → b < 2 ^ W
    → (neg_ℤ (pos (2 ^ 63)) ≤ℤ (signed W a *ℤ signed W b)) × ((signed W a *ℤ signed W b) ≤ℤ pos (2 ^ 63))
near W a b w small p q =
    let here = product_within W a b w p q in
    let less : 2 ^ (2 * W - 2) ≤ 2 ^ 63 = grind arith in
    (omega (arith, ints, here.0, less), omega (arith, ints, here.1, less))

-- below 64 bits the product with sign is more than its low half where what 64 bits hold is not its extension
over_by_words : (W a b : ℕ) → IsWidth W → W < 64 → a < 2 ^ W → b < 2 ^ W
    → (product true W a b).over ≡ not (product_word true W a b == sign_extend 64 W (product_word true W a b % 2 ^ W))
over_by_words W a b w small p q =
    let z = signed W a *ℤ signed W b in
    let within = near W a b w small p q in
    over_imul-is W a b w p q ∙ ap not (range_by_extension W z w small within.0 within.1)
    ∙ ap (λ m. not (m == sign_extend 64 W (m % 2 ^ W))) (product_of_extended 64 W a b)

-- and without sign where they are not the low half
over_by_low : (W a b : ℕ) → IsWidth W → W < 64 → a < 2 ^ W → b < 2 ^ W
    → (product false W a b).over ≡ not (product_word false W a b == product_word false W a b % 2 ^ W)
unfolding product
over_by_low W a b w small p q = ap (λ m. not (m == m % 2 ^ W)) (sym (mod_small (a * b) 64 (whole W a b w small p q)))

-- ---- values

-- whether two values differ
value_differs : (i : IrState) (x y : Formula) → value i (differs x y) ≡ bit (not (value i x == value i y))
value_differs i x y = sym (bit-not (value i x == value i y))

-- the low bits of any value with their sign
pub value_low_extended : (i : IrState) (w : Width) (e : Formula) → bits w < 64
    → value i (with_sign w e) ≡ sign_extend 64 (bits w) (value i e % 2 ^ bits w)
unfolding with_sign
value_low_extended i width.Byte e small = refl
value_low_extended i width.Word e small = refl
value_low_extended i width.Long e small = refl
value_low_extended i width.Quad e small = absurd (omega (arith, small))

-- a shift to the right by a width
pub value_shifted : (i : IrState) (w : Width) (e : Formula) → bits w < 64
    → value i (Operation ops.Shr e (Number (bits w))) ≡ value i e / 2 ^ bits w
value_shifted i width.Byte e small = refl
value_shifted i width.Word e small = refl
value_shifted i width.Long e small = refl
value_shifted i width.Quad e small = absurd (omega (arith, small))

-- two values of a width
module _ (i : IrState) (w : Width) (x y : Formula) (a b : ℕ) (first : value i x ≡ a) (second : value i y ≡ b) (fit : a < 2 ^ bits w)
    (fits : b < 2 ^ bits w) where
  -- an extension of each
  extended_first : value i (with_sign w x) ≡ sign_extend 64 (bits w) a
  extended_first = value_with_sign i w x (subst (λ k. k < 2 ^ bits w) (sym first) fit) ∙ ap (λ k. sign_extend 64 (bits w) k) first

  extended_second : value i (with_sign w y) ≡ sign_extend 64 (bits w) b
  extended_second = value_with_sign i w y (subst (λ k. k < 2 ^ bits w) (sym second) fits) ∙ ap (λ k. sign_extend 64 (bits w) k) second

  pub value_product : (sign : Bool) → value i (product_formula sign w x y) ≡ product_word sign (bits w) a b
  value_product false = ap (λ k. k * value i y % 2 ^ 64) first ∙ ap (λ k. a * k % 2 ^ 64) second
  value_product true =
      ap (λ k. k * value i (with_sign w y) % 2 ^ 64) extended_first ∙ ap (λ k. sign_extend 64 (bits w) a * k % 2 ^ 64) extended_second

-- the low half, where what 64 bits hold of the product is known
pub value_low : (i : IrState) (sign : Bool) (w : Width) (p : Formula) (a b : ℕ) → value i p ≡ product_word sign (bits w) a b
    → value i (clean w p) ≡ (product sign (bits w) a b).low % 2 ^ bits w
value_low i sign w p a b is =
    value_clean i w p (subst (λ k. k < 2 ^ 64) (sym is) (product_word_fits sign (bits w) a b))
    ∙ ap (λ k. k % 2 ^ bits w) is
    ∙ sym (low_half sign (bits w) a b (width_most w))
    ∙ low_of_fit w (product sign (bits w) a b).low (low_fits sign w a b)

-- below 64 bits the upper half stands above the low one
high_above : (i : IrState) (sign : Bool) (w : Width) (p : Formula) (a b : ℕ) → bits w < 64 → value i p ≡ product_word sign (bits w) a b
    → a < 2 ^ bits w → b < 2 ^ bits w → value i (cut sign w (Operation ops.Shr p (Number (bits w)))) ≡ (product sign (bits w) a b).high
high_above i false w p a b small is fit fits =
    value_shifted i w p small ∙ ap (λ k. k / 2 ^ bits w) is
    ∙ sym (mul_by_words (bits w) a b (a * b % 2 ^ 64) (is_width w) small fit fits refl).1
high_above i true w p a b small is fit fits =
    let here : value i (Operation ops.Shr p (Number (bits w))) ≡ product_word true (bits w) a b / 2 ^ bits w =
    value_shifted i w p small ∙ ap (λ k. k / 2 ^ bits w) is in
    value_clean i w (Operation ops.Shr p (Number (bits w)))
    (subst (λ k. k < 2 ^ 64) (sym here) (omega (
      arith,
      div-le_self (product_word true (bits w) a b) (2 ^ bits w),
      product_word_fits true
          (bits w) a b,
    )))
    ∙ ap (λ k. k % 2 ^ bits w) here
    ∙ sym (imul_by_words (bits w) a b (product_word true (bits w) a b) (is_width w) small refl).1

-- the upper half
pub value_high : (i : IrState) (sign : Bool) (w : Width) (x y p : Formula) (a b : ℕ) → value i x ≡ a → value i y ≡ b
    → value i p ≡ product_word sign (bits w) a b
    → a < 2 ^ bits w → b < 2 ^ bits w → value i (high_formula sign w x y p) ≡ (product sign (bits w) a b).high
value_high i sign width.Byte x y p a b first second is fit fits = high_above i sign width.Byte p a b (omega arith) is fit fits
value_high i sign width.Word x y p a b first second is fit fits = high_above i sign width.Word p a b (omega arith) is fit fits
value_high i sign width.Long x y p a b first second is fit fits = high_above i sign width.Long p a b (omega arith) is fit fits
value_high i false width.Quad x y p a b first second is fit fits =
    ap (λ k. umulh k (value i y)) first ∙ ap (λ k. umulh a k) second ∙ sym (high_mul a b)
value_high i true width.Quad x y p a b first second is fit fits =
    ap (λ k. smulh k (value i y)) first ∙ ap (λ k. smulh a k) second ∙ sym (high_imul a b)

-- 64 copies of the sign
value_copies : (i : IrState) (p : Formula) (v : ℕ) → value i p ≡ v → v < 2 ^ 64 → value i (Operation ops.Sar p (Number 63)) ≡ filled 64 v
unfolding clean with_sign
value_copies i p v is fit = value_filled i width.Quad p v is fit
    ∙ mod_small (filled 64 v) 64 (omega (arith, copies v, bit_below (top_bit 64 v)))

-- below 64 bits the product is more than its low half where what 64 bits hold is not the extension of that
over_here : (i : IrState) (sign : Bool) (w : Width) (p : Formula) (a b : ℕ) → bits w < 64 → value i p ≡ product_word sign (bits w) a b
    → a < 2 ^ bits w → b < 2 ^ bits w → value i (differs p (extension sign w p)) ≡ bit (product sign (bits w) a b).over
over_here i false w p a b small is fit fits =
    let kept : value i p < 2 ^ 64 = subst (λ k. k < 2 ^ 64) (sym is) (product_word_fits false (bits w) a b) in
    value_differs i p (clean w p) ∙ ap (λ k. bit (not (value i p == k))) (value_clean i w p kept)
    ∙ ap (λ k. bit (not (k == k % 2 ^ bits w))) is
    ∙ ap bit (sym (over_by_low (bits w) a b (is_width w) small fit fits))
over_here i true w p a b small is fit fits =
    value_differs i p (with_sign w p) ∙ ap (λ k. bit (not (value i p == k))) (value_low_extended i w p small)
    ∙ ap (λ k. bit (not (k == sign_extend 64 (bits w) (k % 2 ^ bits w)))) is
    ∙ ap bit (sym (over_by_words (bits w) a b (is_width w) small fit fits))

-- whether the product is more than its low half
pub value_over : (i : IrState) (sign : Bool) (w : Width) (high p : Formula) (a b : ℕ)
    → (w ≡ width.Quad → value i high ≡ (product sign (bits w) a b).high)
    → value i p ≡ product_word sign (bits w) a b → a < 2 ^ bits w → b < 2 ^ bits w
    → value i (over_formula sign w high p) ≡ bit (product sign (bits w) a b).over
value_over i sign width.Byte high p a b above is fit fits = over_here i sign width.Byte p a b (omega arith) is fit fits
value_over i sign width.Word high p a b above is fit fits = over_here i sign width.Word p a b (omega arith) is fit fits
value_over i sign width.Long high p a b above is fit fits = over_here i sign width.Long p a b (omega arith) is fit fits
value_over i false width.Quad high p a b above is fit fits =
    value_differs i high (Number 0) ∙ ap (λ k. bit (not (k == 0))) (above refl) ∙ ap bit (sym (over_mul 64 a b (is_width width.Quad)))
value_over i true width.Quad high p a b above is fit fits =
    let v = product_word true 64 a b in
    value_differs i high (Operation ops.Sar p (Number 63))
    ∙ ap (λ k. bit (not (k == value i (Operation ops.Sar p (Number 63))))) (above refl)
    ∙ ap (λ k. bit (not ((product true 64 a b).high == k))) (value_copies i p v is (product_word_fits true 64 a b) ∙ copies v)
    ∙ ap (λ k. bit (not ((product true 64 a b).high == bit (top_bit 64 k) * (2 ^ 64 - 1))))
    (sym (low_half true 64 a b (omega arith) ∙ mod_small v 64 (product_word_fits true 64 a b)))
    ∙ ap bit (sym (over_imul 64 a b (is_width width.Quad)))

-- the two bytes of a double product of bytes, as one word
pub value_word : (i : IrState) (sign : Bool) (p : Formula) (a b : ℕ) → value i p ≡ product_word sign 8 a b → a < 2 ^ 8 → b < 2 ^ 8
    → value i (cut sign width.Word p) ≡ ((product sign 8 a b).high * 2 ^ 8 + (product sign 8 a b).low) % 2 ^ 16
value_word i false p a b is fit fits =
    let halves = mul_by_words 8 a b (a * b % 2 ^ 64) (is_width width.Byte) (omega arith) fit fits refl in
    omega (arith, is, halves.0, halves.1, product_below 8 a b fit fits)
value_word i true p a b is fit fits =
    let word = product_word true 8 a b in
    let halves = imul_by_words 8 a b word (is_width width.Byte) (omega arith) refl in
    let both : word % 2 ^ 16 ≡ ((product true 8 a b).high * 2 ^ 8 + (product true 8 a b).low) % 2 ^ 16 = omega
    (arith, halves.0, halves.1) in
    value_clean i width.Word p (subst (λ k. k < 2 ^ 64) (sym is) (product_word_fits true 8 a b)) ∙ ap (λ k. k % 2 ^ 16) is ∙ both
