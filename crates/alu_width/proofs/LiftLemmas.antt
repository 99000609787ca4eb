-- Whole operations by words of 64 bits, as a translator writes them.
use Rattle.std.proofs.Common.{◌≡◌, ◌≢◌, ℕ, ◌+◌, ◌-◌, ◌*◌, ◌/◌, ◌%◌, ◌^◌, ◌<◌, true, false, arith, refl, ap, sym, ◌∙◌, lit<}
use Rattle.std.specs.Prelude.{ℤ, ◌*ℤ◌, nat_lt, nat_le, ◌==◌, not, ◌&&◌, ◌||◌, bit_and, bit_or, bit_xor, int_div, int_rem, if◌then◌else◌, Result, Ok, Err}
use Rattle.std.proofs.lemmas.Bool.Decides.{nat_tests}
use Rattle.std.proofs.lemmas.Nat.{pow_pos, mod_below, field_of}
use Rattle.word_arith.specs.Width.{IsWidth}
use Rattle.word_arith.specs.Bits.{bit, differ, top_bit}
use Rattle.word_arith.specs.Signed.{signed, low_bits, fits_signed, sign_extend}
use Rattle.word_arith.specs.ArmWords.{msub, sdiv, udiv, smulh, umulh}
use Rattle.word_arith.proofs.BitLemmas.{top_bit_is, top_and_xor}
use Rattle.word_arith.proofs.CarryLemmas.{carry_below, carry_in_steps, borrow_in_steps, sum_cut, difference_cut, difference_cut_borrow}
use Rattle.word_arith.proofs.FlagLemmas.{bit-or}
use Rattle.word_arith.proofs.OverflowLemmas.{range_by_half, sum_overflow, difference_overflow, over_plain, over_signed}
use Rattle.word_arith.proofs.DivisionLemmas.{sdiv_of_extended, quotient_range, remainder_in_64, plain_remainder_by_msub, plain_range}
use Rattle.word_arith.proofs.LowBitsLemmas.{low_bits-mod, low_bits_below}
use Rattle.word_arith.proofs.ProductLemmas.{product_low, product_below, product_in_64, product_within}
use Rattle.word_arith.proofs.ShiftLemmas.{mod_mod, mod_small}
use Rattle.alu_width.specs.declared.flags.Outcome.{Outcome}
use Rattle.alu_width.specs.declared.operations.Quotient.{Quotient}
use Rattle.alu_width.specs.declared.operations.DivFault.{DivFault}
use Rattle.alu_width.specs.declared.operations.DivFault.TheVariants.{Range, Zero}
use Rattle.alu_width.specs.Sums.{outcome, sum_outcome, difference_outcome}
use Rattle.alu_width.specs.Products.{product}
use Rattle.alu_width.specs.Quotients.{quotient, plain_quotient}
use Rattle.alu_width.proofs.QuotientLemmas.{quotient_signed}

-- an outcome as five words, each flag as a number
pub record IsWords (o : Outcome) (v c z s f : ℕ) : Type 0 where
  pub value : o.value ≡ v
  pub carry : bit o.flags.cf ≡ c
  pub zero_flag : bit o.flags.zf ≡ z
  pub sign : bit o.flags.sf ≡ s
  pub overflow : bit o.flags.of ≡ f

-- what all widths ask of W
positive : (W : ℕ) → IsWidth W → 0 < W
positive W w = grind arith

-- ADD by a sum in 64 bits cut to W: its carry by `<`, its overflow by `&` and `^`
pub add_by_words : (W a b r : ℕ) → IsWidth W → a < 2 ^ W → b < 2 ^ W → r ≡ (a + b) % 2 ^ 64 % 2 ^ W →
    IsWords (sum_outcome W a b 0) r (bit (nat_lt r a)) (bit (r == 0)) (r / 2 ^ (W - 1)) (bit_and (bit_xor a r) (bit_xor b r) / 2 ^ (W - 1))
unfolding sum_outcome outcome
add_by_words W a b r w p q is_r =
    let none : a + b + 0 ≡ a + b = omega arith in
    let cut : (a + b) % 2 ^ W ≡ r = sym (sum_cut W (a + b) w) ∙ sym is_r in
    let v : (a + b + 0) % 2 ^ W ≡ r = ap (λ m. m % 2 ^ W) none ∙ cut in
    let word : r < 2 ^ W = rw (← cut) (mod_below (a + b) (2 ^ W) (pow_pos W)) in
    record {
      value = v;
      carry = ap (λ m. bit (nat_le (2 ^ W) m)) none ∙ ap bit (carry_below W a b w p q) ∙ ap (λ m. bit (nat_lt m a)) cut;
      zero_flag = ap (λ m. bit (m == 0)) v;
      sign = ap (λ m. bit (top_bit W m)) v ∙ sym (top_bit_is W r (positive W w) word);
      overflow = ap bit (sum_overflow W a b 0 w p q (lit< tt))
          ∙ ap (λ m. bit (differ (top_bit W a) (top_bit W m) && differ (top_bit W b) (top_bit W m))) v
          ∙ sym (top_and_xor W a r b r (positive W w) p word q word);
    }

-- SUB, CMP and, where a is 0, NEG by a difference in 64 bits cut to W: the borrow by `<`, the overflow by `&` and `^`
pub sub_by_words : (W a b r : ℕ) → IsWidth W → a < 2 ^ W → b < 2 ^ W → r ≡ (a + (2 ^ 64 - b)) % 2 ^ 64 % 2 ^ W →
    IsWords (difference_outcome W a b 0) r (bit (nat_lt a b)) (bit (r == 0)) (r / 2 ^ (W - 1)) (bit_and (bit_xor a b) (bit_xor a r) / 2 ^ (W - 1))
unfolding difference_outcome outcome
sub_by_words W a b r w p q is_r =
    let none : b + 0 ≡ b = omega arith in
    let cut : (a + (2 ^ W - b)) % 2 ^ W ≡ r = sym (difference_cut W a b w p q) ∙ sym is_r in
    let v : (a + (2 ^ W - (b + 0))) % 2 ^ W ≡ r = ap (λ m. (a + (2 ^ W - m)) % 2 ^ W) none ∙ cut in
    let word : r < 2 ^ W = rw (← cut) (mod_below (a + (2 ^ W - b)) (2 ^ W) (pow_pos W)) in
    record {
      value = v;
      carry = ap (λ m. bit (nat_lt a m)) none;
      zero_flag = ap (λ m. bit (m == 0)) v;
      sign = ap (λ m. bit (top_bit W m)) v ∙ sym (top_bit_is W r (positive W w) word);
      overflow = ap bit (difference_overflow W a b 0 w p q (lit< tt))
          ∙ ap (λ m. bit (differ (top_bit W a) (top_bit W b) && differ (top_bit W a) (top_bit W m))) v
          ∙ sym (top_and_xor W a b a r (positive W w) p q p word);
    }

-- ADC by two sums in 64 bits cut to W: it carries where one of them does
pub adc_by_words : (W a b c s r : ℕ) → IsWidth W → a < 2 ^ W → b < 2 ^ W → c < 2 →
    s ≡ (a + b) % 2 ^ 64 % 2 ^ W → r ≡ (a + b + c) % 2 ^ 64 % 2 ^ W →
    IsWords (sum_outcome W a b c) r (bit_or (bit (nat_lt s a)) (bit (nat_lt r s))) (bit (r == 0)) (r / 2 ^ (W - 1))
    (bit_and (bit_xor a r) (bit_xor b r) / 2 ^ (W - 1))
unfolding sum_outcome outcome
adc_by_words W a b c s r w p q one is_s is_r =
    let u : (a + b) % 2 ^ W ≡ s = sym (sum_cut W (a + b) w) ∙ sym is_s in
    let v : (a + b + c) % 2 ^ W ≡ r = sym (sum_cut W (a + b + c) w) ∙ sym is_r in
    let word : r < 2 ^ W = rw (← v) (mod_below (a + b + c) (2 ^ W) (pow_pos W)) in
    record {
      value = v;
      carry = ap bit (carry_in_steps W a b c w p q one)
          ∙ ap (λ m. bit (nat_lt m a || nat_lt ((a + b + c) % 2 ^ W) m)) u
          ∙ ap (λ m. bit (nat_lt s a || nat_lt m s)) v
          ∙ bit-or (nat_lt s a) (nat_lt r s);
      zero_flag = ap (λ m. bit (m == 0)) v;
      sign = ap (λ m. bit (top_bit W m)) v ∙ sym (top_bit_is W r (positive W w) word);
      overflow = ap bit (sum_overflow W a b c w p q one)
          ∙ ap (λ m. bit (differ (top_bit W a) (top_bit W m) && differ (top_bit W b) (top_bit W m))) v
          ∙ sym (top_and_xor W a r b r (positive W w) p word q word);
    }

-- SBB by two differences in 64 bits cut to W: it borrows where one of them does
pub sbb_by_words : (W a b c s r : ℕ) → IsWidth W → a < 2 ^ W → b < 2 ^ W → c < 2 →
    s ≡ (a + (2 ^ 64 - b)) % 2 ^ 64 % 2 ^ W → r ≡ (a + (2 ^ 64 - b) + (2 ^ 64 - c)) % 2 ^ 64 % 2 ^ W →
    IsWords (difference_outcome W a b c) r (bit_or (bit (nat_lt a b)) (bit (nat_lt s c))) (bit (r == 0)) (r / 2 ^ (W - 1))
    (bit_and (bit_xor a b) (bit_xor a r) / 2 ^ (W - 1))
unfolding difference_outcome outcome
sbb_by_words W a b c s r w p q one is_s is_r =
    let u : (a + (2 ^ W - b)) % 2 ^ W ≡ s = sym (difference_cut W a b w p q) ∙ sym is_s in
    let v : (a + (2 ^ W - (b + c))) % 2 ^ W ≡ r = sym (difference_cut_borrow W a b c w p q one) ∙ sym is_r in
    let word : r < 2 ^ W = rw (← v) (mod_below (a + (2 ^ W - (b + c))) (2 ^ W) (pow_pos W)) in
    record {
      value = v;
      carry = ap bit (borrow_in_steps W a b c w p q one)
          ∙ ap (λ m. bit (nat_lt a b || nat_lt m c)) u
          ∙ bit-or (nat_lt a b) (nat_lt s c);
      zero_flag = ap (λ m. bit (m == 0)) v;
      sign = ap (λ m. bit (top_bit W m)) v ∙ sym (top_bit_is W r (positive W w) word);
      overflow = ap bit (difference_overflow W a b c w p q one)
          ∙ ap (λ m. bit (differ (top_bit W a) (top_bit W b) && differ (top_bit W a) (top_bit W m))) v
          ∙ sym (top_and_xor W a b a r (positive W w) p q p word);
    }

-- a number is more than its low half where it does not fit
whole_is_low : (W n : ℕ) → IsWidth W → not (n == n % 2 ^ W) ≡ nat_le (2 ^ W) n
whole_is_low W n w = grind (arith, nat_tests)

-- MUL's `over` is that its high half is not 0
pub over_mul : (W a b : ℕ) → IsWidth W → (product false W a b).over ≡ not ((product false W a b).high == 0)
unfolding product
over_mul W a b w = ap not (over_plain W (a * b) w)

-- IMUL's `over` is that its high half is not all signs of its low half
pub over_imul : (W a b : ℕ) → IsWidth W →
    (product true W a b).over ≡ not ((product true W a b).high == bit (top_bit W (product true W a b).low) * (2 ^ W - 1))
unfolding product
over_imul W a b w =
    ap not (over_signed W (low_bits (2 * W) (signed W a *ℤ signed W b)) w (low_bits_below (2 * W) (signed W a *ℤ signed W b)))

-- MUL's `over` is that the product does not fit W bits
pub over_mul-is : (W a b : ℕ) → IsWidth W → (product false W a b).over ≡ nat_le (2 ^ W) (a * b)
unfolding product
over_mul-is W a b w = whole_is_low W (a * b) w

-- IMUL's `over` is that the product of what the operands mean does not fit W bits with sign
pub over_imul-is : (W a b : ℕ) → IsWidth W → a < 2 ^ W → b < 2 ^ W →
    (product true W a b).over ≡ not (fits_signed W (signed W a *ℤ signed W b))
unfolding product
over_imul-is W a b w p q =
    let near = product_within W a b w p q in
    ap not (range_by_half W (signed W a *ℤ signed W b) w near.0 near.1)

-- IMUL's low half is MUL's
pub low_imul : (W a b : ℕ) → a < 2 ^ W → b < 2 ^ W → (product true W a b).low ≡ a * b % 2 ^ W
unfolding product
low_imul W a b p q = product_low (2 * W) W a b (omega arith) p q

-- at 64 bits MUL's high half is what UMULH gives
pub high_mul : (a b : ℕ) → (product false 64 a b).high ≡ umulh a b
unfolding product
high_mul a b = refl

-- at 64 bits IMUL's high half is what SMULH gives
pub high_imul : (a b : ℕ) → (product true 64 a b).high ≡ smulh a b
unfolding product smulh
high_imul a b = refl

-- below 64 bits MUL by a product in 64 bits
pub mul_by_words : (W a b p : ℕ) → IsWidth W → W < 64 → a < 2 ^ W → b < 2 ^ W → p ≡ a * b % 2 ^ 64 →
    ((product false W a b).low ≡ p % 2 ^ W) × ((product false W a b).high ≡ p / 2 ^ W)
unfolding product
mul_by_words W a b p w small q r is_p =
    let below : a * b < 2 ^ (2 * W) = product_below W a b q r in
    let fits : a * b < 2 ^ 64 = grind arith in
    let whole : a * b ≡ p = sym (mod_small (a * b) 64 fits) ∙ sym is_p in
    (ap (λ m. m % 2 ^ W) whole, ap (λ m. m / 2 ^ W) whole)

-- below 64 bits IMUL by a product in 64 bits of the extensions
pub imul_by_words : (W a b p : ℕ) → IsWidth W → W < 64 → p ≡ sign_extend 64 W a * sign_extend 64 W b % 2 ^ 64 →
    ((product true W a b).low ≡ p % 2 ^ W) × ((product true W a b).high ≡ p / 2 ^ W % 2 ^ W)
unfolding product
imul_by_words W a b p w small is_p =
    let e : 2 * W ≡ W + W = omega arith in
    let whole : low_bits (2 * W) (signed W a *ℤ signed W b) ≡ p % 2 ^ (2 * W) =
    sym (product_in_64 (2 * W) W a b (grind arith)) ∙ ap (λ m. m % 2 ^ (2 * W)) (sym is_p) in (
      ap (λ m. m % 2 ^ W) whole ∙ mod_mod p (2 * W) W (omega arith),
      ap (λ m. m / 2 ^ W) whole ∙ ap (λ m. p % 2 ^ m / 2 ^ W) e ∙ field_of p W W,
    )

-- the answer of a division
abbrev answer : (x y : ℕ) → Result Quotient DivFault
answer x y = Ok (record { quotient = x; remainder = y })

-- IDIV of at most 64 bits by at most 32, by SDIV of the operands extended to 64 bits: the range by extending the
-- quotient's low bits, the remainder by MSUB
pub idiv_by_sdiv : (W high low by N D q : ℕ) → IsWidth W → W < 64 → high < 2 ^ W → low < 2 ^ W → by < 2 ^ W → by ≢ 0 →
    N ≡ sign_extend 64 (2 * W) (high * 2 ^ W + low) → D ≡ sign_extend 64 W by → q ≡ sdiv 64 N D →
    quotient true W high low by
    ≡ (if q == sign_extend 64 W (q % 2 ^ W) then Ok (record { quotient = q % 2 ^ W; remainder = msub 64 N q D % 2 ^ W }) else Err Range)
idiv_by_sdiv W high low by N D q w small h l p some is_N is_D is_q =
    let n : ℕ = high * 2 ^ W + low in
    let wide : IsWidth (2 * W) = grind arith in
    let fits : n < 2 ^ (2 * W) = grind arith in
    let given : sdiv 64 N D ≡ low_bits 64 (int_div (signed (2 * W) n) (signed W by)) =
    ap (λ m. sdiv 64 m D) is_N ∙ ap (λ m. sdiv 64 (sign_extend 64 (2 * W) n) m) is_D ∙ sdiv_of_extended (2 * W) W n by wide w fits p some in
    let is_q' : q ≡ low_bits 64 (int_div (signed (2 * W) n) (signed W by)) = is_q ∙ given in
    let z : ℤ = int_div (signed (2 * W) n) (signed W by) in
    let range : fits_signed W z ≡ (q == sign_extend 64 W (q % 2 ^ W)) =
    quotient_range (2 * W) W n by wide w small fits ∙ ap (λ m. m == sign_extend 64 W (m % 2 ^ W)) (sym is_q') in
    let low_part : low_bits W z ≡ q % 2 ^ W = sym (low_bits-mod 64 W z (omega arith)) ∙ ap (λ m. m % 2 ^ W) (sym is_q') in
    let rest : low_bits W (int_rem (signed (2 * W) n) (signed W by)) ≡ msub 64 N q D % 2 ^ W =
    sym (remainder_in_64 (2 * W) W n by w)
    ∙ ap (λ m. msub 64 m (low_bits 64 z) (sign_extend 64 W by) % 2 ^ W) (sym is_N)
    ∙ ap (λ m. msub 64 N m (sign_extend 64 W by) % 2 ^ W) (sym is_q')
    ∙ ap (λ m. msub 64 N q m % 2 ^ W) (sym is_D) in
    quotient_signed W high low by (signed (2 * W) n) (signed W by) some refl refl
    ∙ ap (λ t. if t then answer (low_bits W z) (low_bits W (int_rem (signed (2 * W) n) (signed W by))) else Err Range) range
    ∙ ap (λ m. if q == sign_extend 64 W (q % 2 ^ W) then answer m (low_bits W (int_rem (signed (2 * W) n) (signed W by))) else Err Range) low_part
    ∙ ap (λ m. if q == sign_extend 64 W (q % 2 ^ W) then answer (q % 2 ^ W) m else Err Range) rest

-- DIV of at most 64 bits by at most 32, by UDIV: the range by a shift, the remainder by MSUB
pub div_by_udiv : (W high low by n q : ℕ) → IsWidth W → W < 64 → high < 2 ^ W → low < 2 ^ W → by ≢ 0 →
    n ≡ high * 2 ^ W + low → q ≡ udiv 64 n by →
    quotient false W high low by ≡ (if q / 2 ^ W == 0 then Ok (record { quotient = q; remainder = msub 64 n q by }) else Err Range)
unfolding quotient
div_by_udiv W high low by n q w small h l some is_n is_q =
    let whole : n < 2 ^ 64 = grind arith in
    let not_zero : (by == 0) ≡ false = grind (arith, nat_tests) in
    let is_q' : q ≡ n / by = is_q ∙ (rw not_zero) in
    let rest : n % by ≡ msub 64 n q by = plain_remainder_by_msub 64 n by whole ∙ ap (λ m. msub 64 n m by) (sym is_q') in
    ap (λ m. if by == 0 then Err Zero else plain_quotient W m by) (sym is_n)
    ∙ ap (λ t. if t then Err Zero else plain_quotient W n by) not_zero
    ∙ ap (λ t. if t then answer (n / by) (n % by) else Err Range) (plain_range W (n / by) w)
    ∙ ap (λ m. if m / 2 ^ W == 0 then answer m (n % by) else Err Range) (sym is_q')
    ∙ ap (λ m. if q / 2 ^ W == 0 then answer q m else Err Range) rest
