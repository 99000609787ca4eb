-- The values of the formulas of divisions.
use Rattle.std.proofs.Common.{◌≡◌, ◌≢◌, ℕ, ◌+◌, ◌*◌, ◌/◌, ◌%◌, ◌^◌, ◌<◌, ◌==◌, Bool, true, false, refl, sym, ap, ◌∙◌, subst, arith}
use Rattle.std.specs.Prelude.{if◌then◌else◌, bit_or, bit_xor, int_div, Ok, Err}
use Rattle.std.specs.Int.Bits.{xor_assoc, xor_self, xor_zero_l, xor_zero_r}
use Rattle.std.proofs.lemmas.Bool.Decides.{nat_tests}
use Rattle.std.proofs.lemmas.Nat.{or_shifted, mod_below, pow_pos}
use Rattle.std.proofs.Math.Nat.{div-le_self}
use Rattle.word_arith.specs.ArmWords.{msub, udiv, sdiv}
use Rattle.word_arith.specs.Signed.{signed, low_bits, sign_extend}
use Rattle.word_arith.specs.Width.{IsWidth}
use Rattle.word_arith.proofs.CallerLemmas.{mod_small, low_bits_below, plain_remainder_by_msub}
use Rattle.alu_width.specs.declared.operations.DivFault.TheVariants.{Zero, Range}
use Rattle.alu_width.specs.Quotients.{quotient}
use Rattle.alu_width.proofs.CallerLemmas.{idiv_by_sdiv, div_by_udiv}
use Rattle.x64_syntax.specs.Operands.{bits}
use Rattle.x64_syntax.specs.declared.operand.Width.{Width}
use Rattle.x64_syntax.specs.declared.operand.Width.TheVariants as width
use Rattle.x64_table.specs.State.{Thread, register, rax, rdx, upper}
use Rattle.limm_ir.specs.Steps.{IrState}
use Rattle.lift_alu.specs.Formulas.{Formula, Register, value}
use Rattle.lift_alu.specs.Operands.{clean, register_formula}
use Rattle.lift_alu.specs.Products.{cut}
use Rattle.lift_alu.specs.Quotients.{double, double_word, dividend_formula, divisor_formula, quotient_formula, range_formula}
use Rattle.lift_alu.specs.Quotients.{remainder_formula, bytes_formula}
use Rattle.lift_alu.specs.Meant.{SameThread}
use Rattle.lift_alu.proofs.Computed.{IsKeptBelow}
use Rattle.lift_alu.proofs.KeptFormulas.{below_clean, below_with_sign, below_register}
use Rattle.lift_alu.proofs.OperandValues.{value_clean, value_with_sign, value_register, register_below}
use Rattle.lift_alu.proofs.MoveValues.{is_width}
use Rattle.lift_alu.proofs.ProductValues.{below_cut, value_low_extended, value_shifted}
use Rattle.lift_alu.proofs.Instructions.{low_register}

-- ---- what the formulas keep

module _ (next : ℕ) where
  below_double : (w : Width) → IsKeptBelow next (double_word w)
  below_double width.Byte = tt
  below_double width.Word = ((below_register next width.Word rdx, tt), below_register next width.Word rax)
  below_double width.Long = ((below_register next width.Long rdx, tt), below_register next width.Long rax)
  below_double width.Quad = ((below_register next width.Quad rdx, tt), below_register next width.Quad rax)

  pub below_dividend : (sign : Bool) (w : Width) → IsKeptBelow next (dividend_formula sign w)
  below_dividend false width.Byte = below_clean next width.Word _ (below_double width.Byte)
  below_dividend false width.Word = below_double width.Word
  below_dividend false width.Long = below_double width.Long
  below_dividend false width.Quad = below_double width.Quad
  below_dividend true w = below_with_sign next (double w) _ (below_double w)

  pub below_divisor : (sign : Bool) (w : Width) (d : Formula) → IsKeptBelow next d → IsKeptBelow next (divisor_formula sign w d)
  below_divisor false w d kept = kept
  below_divisor true w d kept = below_with_sign next w d kept

  pub below_quotient : (sign : Bool) (n d : Formula) → IsKeptBelow next n → IsKeptBelow next d
      → IsKeptBelow next (quotient_formula sign n d)
  below_quotient false n d first second = (first, second)
  below_quotient true n d first second = (first, second)

  pub below_range : (sign : Bool) (w : Width) (q : Formula) → IsKeptBelow next q → IsKeptBelow next (range_formula sign w q)
  below_range false w q kept = (kept, tt)
  below_range true w q kept = (kept, below_with_sign next w q kept)

  pub below_bytes : (sign : Bool) (q r : Formula) → IsKeptBelow next q → IsKeptBelow next r → IsKeptBelow next (bytes_formula sign q r)
  below_bytes sign q r first second = ((below_cut next sign width.Byte r second, tt), below_cut next sign width.Byte q first)

-- ---- numbers

-- the operands, the quotient and what it leaves, in 64 bits
abbrev pub dividend_word : (sign : Bool) → (W high low : ℕ) → ℕ
dividend_word false W high low = high * 2 ^ W + low
dividend_word true W high low = sign_extend 64 (2 * W) (high * 2 ^ W + low)

abbrev pub divisor_word : (sign : Bool) → (W by : ℕ) → ℕ
divisor_word false W by = by
divisor_word true W by = sign_extend 64 W by

abbrev pub quotient_word : (sign : Bool) → (n d : ℕ) → ℕ
quotient_word false n d = udiv 64 n d
quotient_word true n d = sdiv 64 n d

-- 0 just where the quotient fits
abbrev pub range_word : (sign : Bool) → (W q : ℕ) → ℕ
range_word false W q = q / 2 ^ W
range_word true W q = bit_xor q (sign_extend 64 W (q % 2 ^ W))

-- the low bits of what has others where it has a sign
abbrev pub cut_word : (sign : Bool) → (W v : ℕ) → ℕ
cut_word false W v = v
cut_word true W v = v % 2 ^ W

-- two numbers that differ in no bit are the same
same_bits : (a b : ℕ) → bit_xor a b ≡ 0 → a ≡ b
same_bits a b none =
    sym (xor_zero_r a) ∙ ap (bit_xor a) (sym (xor_self b)) ∙ sym (xor_assoc a b b) ∙ ap (λ m. bit_xor m b) none ∙ xor_zero_l b

-- a double word of at most 64 bits
pub double_fits : (W high low : ℕ) → IsWidth W → high < 2 ^ W → low < 2 ^ W → high * 2 ^ W + low < 2 ^ (2 * W)
double_fits W high low w p q = grind arith

-- no number is divided by 0
pub fails_zero : (sign : Bool) (W high low by : ℕ) → by ≡ 0 → quotient sign W high low by ≡ Err Zero
unfolding quotient
fails_zero sign W high low by zero = rw zero refl

-- tests of numbers
not_zero : (v : ℕ) → v ≢ 0 → (v == 0) ≡ false
not_zero v some = grind (arith, nat_tests)

is_same : (a b : ℕ) → a ≡ b → (a == b) ≡ true
is_same a b same = grind (arith, nat_tests)

not_same : (a b : ℕ) → a ≢ b → (a == b) ≡ false
not_same a b other = grind (arith, nat_tests)

-- the quotient of the words of a division
abbrev pub whole_quotient : (sign : Bool) → (W high low by : ℕ) → ℕ
whole_quotient sign W high low by = quotient_word sign (dividend_word sign W high low) (divisor_word sign W by)

-- and what it leaves
abbrev pub whole_remainder : (sign : Bool) → (W high low by : ℕ) → ℕ
whole_remainder sign W high low by = msub 64 (dividend_word sign W high low) (whole_quotient sign W high low by) (divisor_word sign W by)

-- no answer where the quotient does not fit
pub fails_range : (sign : Bool) (W high low by : ℕ) → IsWidth W → W < 64 → high < 2 ^ W → low < 2 ^ W → by < 2 ^ W → by ≢ 0
    → range_word sign W (whole_quotient sign W high low by) ≢ 0 → quotient sign W high low by ≡ Err Range
fails_range false W high low by w small p q r some beyond =
    let n = high * 2 ^ W + low in
    div_by_udiv W high low by n (udiv 64 n by) w small p q some refl refl
    ∙ ap (λ t. if t then Ok (record { quotient = udiv 64 n by; remainder = msub 64 n (udiv 64 n by) by }) else Err Range)
    (not_zero (udiv 64 n by / 2 ^ W) beyond)
fails_range true W high low by w small p q r some beyond =
    let n = dividend_word true W high low in
    let d = divisor_word true W by in
    let k = sdiv 64 n d in
    let wide = sign_extend 64 W (k % 2 ^ W) in
    let other : k ≢ wide = λ same. beyond (ap (bit_xor k) (sym same) ∙ xor_self k) in
    idiv_by_sdiv W high low by n d k w small p q r some refl refl refl
    ∙ ap (λ t. if t then Ok (record { quotient = k % 2 ^ W; remainder = msub 64 n k d % 2 ^ W }) else Err Range) (not_same k wide other)

-- and else the low bits of both
pub answers : (sign : Bool) (W high low by : ℕ) → IsWidth W → W < 64 → high < 2 ^ W → low < 2 ^ W → by < 2 ^ W → by ≢ 0
    → range_word sign W (whole_quotient sign W high low by) ≡ 0
    → quotient sign W high low by ≡ Ok (record {
      quotient = cut_word sign W
          (whole_quotient sign W high low by);
      remainder = cut_word sign W (whole_remainder sign W high low by);
    })
answers false W high low by w small p q r some within =
    let n = high * 2 ^ W + low in
    div_by_udiv W high low by n (udiv 64 n by) w small p q some refl refl
    ∙ ap (λ t. if t == 0 then Ok (record { quotient = udiv 64 n by; remainder = msub 64 n (udiv 64 n by) by }) else Err Range) within
answers true W high low by w small p q r some within =
    let n = dividend_word true W high low in
    let d = divisor_word true W by in
    let k = sdiv 64 n d in
    let wide = sign_extend 64 W (k % 2 ^ W) in
    idiv_by_sdiv W high low by n d k w small p q r some refl refl refl
    ∙ ap (λ t. if t then Ok (record { quotient = k % 2 ^ W; remainder = msub 64 n k d % 2 ^ W }) else Err Range)
    (is_same k wide (same_bits k wide within))

-- dividend and quotient fit 64 bits
pub dividend_fits : (sign : Bool) (W high low : ℕ) → IsWidth W → W < 64 → high < 2 ^ W → low < 2 ^ W
    → dividend_word sign W high low < 2 ^ 64
dividend_fits false W high low w small p q = let fit = double_fits W high low w p q in grind arith
dividend_fits true W high low w small p q = low_bits_below 64 (signed (2 * W) (high * 2 ^ W + low))

pub quotient_fits : (sign : Bool) (n d : ℕ) → n < 2 ^ 64 → quotient_word sign n d < 2 ^ 64
unfolding sdiv
quotient_fits false n d fit = by (d == 0)
  where
    by : (b : Bool) → (if b then 0 else n / d) < 2 ^ 64
    by true = omega arith
    by false = omega (arith, fit, div-le_self n d)
quotient_fits true n d fit = by (d == 0)
  where
    by : (b : Bool) → (if b then 0 else low_bits 64 (int_div (signed 64 n) (signed 64 d))) < 2 ^ 64
    by true = omega arith
    by false = low_bits_below 64 (int_div (signed 64 n) (signed 64 d))

-- what the low bits are cut to
cut_modulo : (W v : ℕ) → v % 2 ^ W < 2 ^ W
cut_modulo W v = mod_below v (2 ^ W) (pow_pos W)

-- what shifts to 0 has no more bits
no_more : (W v : ℕ) → IsWidth W → v / 2 ^ W ≡ 0 → v < 2 ^ W
no_more W v w none = grind arith

-- both parts of the answer fit the width
pub quotient_part : (sign : Bool) (W high low by : ℕ) → IsWidth W → range_word sign W (whole_quotient sign W high low by) ≡ 0
    → cut_word sign W (whole_quotient sign W high low by) < 2 ^ W
quotient_part false W high low by w within = no_more W (udiv 64 (high * 2 ^ W + low) by) w within
quotient_part true W high low by w within = cut_modulo W (whole_quotient true W high low by)

pub remainder_part : (sign : Bool) (W high low by : ℕ) → IsWidth W → W < 64 → high < 2 ^ W → low < 2 ^ W → by < 2 ^ W → by ≢ 0
    → cut_word sign W (whole_remainder sign W high low by) < 2 ^ W
remainder_part false W high low by w small p q r some =
    let n = high * 2 ^ W + low in
    let plain : udiv 64 n by ≡ n / by = ap (λ t. if t then 0 else n / by) (not_zero by some) in
    let rest : msub 64 n (udiv 64 n by) by ≡ n % by = ap (λ m. msub 64 n m by) plain
    ∙ sym (plain_remainder_by_msub 64 n by (dividend_fits false W high low w small p q)) in
    omega (arith, rest, mod_below n by (omega (arith, some)), r)
remainder_part true W high low by w small p q r some = cut_modulo W (whole_remainder true W high low by)

-- ---- values

-- what is cut to its low bits
pub value_cut : (i : IrState) (sign : Bool) (w : Width) (e : Formula) (v : ℕ) → value i e ≡ v → v < 2 ^ 64
    → value i (cut sign w e) ≡ cut_word sign (bits w) v
value_cut i false w e v is fit = is
value_cut i true w e v is fit = value_clean i w e (subst (λ k. k < 2 ^ 64) (sym is) fit) ∙ ap (λ k. k % 2 ^ bits w) is

-- one word above another
beside : (W high low : ℕ) → IsWidth W → W < 64 → high < 2 ^ W → low < 2 ^ W → bit_or (high * 2 ^ W % 2 ^ 64) low ≡ high * 2 ^ W + low
beside W high low w small p q =
    let fit = double_fits W high low w p q in
    let less : high * 2 ^ W < 2 ^ 64 = grind arith in
    ap (λ m. bit_or m low) (mod_small (high * 2 ^ W) 64 less) ∙ or_shifted high W low q

-- AX, as its two bytes
bytes_of : (n : ℕ) → n / 2 ^ 8 % 2 ^ 8 * 2 ^ 8 + n / 2 ^ 0 % 2 ^ 8 ≡ n % 2 ^ 16
bytes_of n = omega arith

-- a register above another, of 16 or 32 bits
module _ (s : Thread) (i : IrState) (same : SameThread s i) where
  value_above : (w : Width) → bits w < 64 → bit_or (value i (register_formula w rdx) * 2 ^ bits w % 2 ^ 64)
      (value i (register_formula w rax)) ≡ register w rdx s * 2 ^ bits w + register w rax s
  value_above w small =
      ap (λ m. bit_or (m * 2 ^ bits w % 2 ^ 64) (value i (register_formula w rax)))
      (value_register s i w rdx same (low_register w rdx refl (omega arith)))
      ∙ ap (λ m. bit_or (register w rdx s * 2 ^ bits w % 2 ^ 64) m) (value_register s i w rax same (low_register w rax refl (omega arith)))
      ∙ beside (bits w) (register w rdx s) (register w rax s) (is_width w) small (register_below w rdx s) (register_below w rax s)

  -- AX
  value_bytes : i.regs 0 % 2 ^ 16 ≡ register width.Byte (upper width.Byte) s * 2 ^ 8 + register width.Byte rax s
  unfolding register
  value_bytes = ap (λ m. m % 2 ^ 16) (same.regs 0 (omega arith)) ∙ sym (bytes_of (s.regs 0))

  -- the dividend
  pub value_dividend : (sign : Bool) (w : Width) → w ≢ width.Quad
      → value i (dividend_formula sign w) ≡ dividend_word sign (bits w) (register w (upper w) s) (register w rax s)
  unfolding clean
  value_dividend false width.Byte narrow = value_bytes
  value_dividend false width.Word narrow = value_above width.Word (omega arith)
  value_dividend false width.Long narrow = value_above width.Long (omega arith)
  value_dividend true width.Byte narrow = value_low_extended i width.Word (Register 0) (omega arith)
      ∙ ap (λ m. sign_extend 64 16 m) value_bytes
  value_dividend true width.Word narrow =
      let here = value_above width.Word (omega arith) in
      let fit = double_fits 16 (register width.Word rdx s) (register width.Word rax s) (is_width width.Word)
      (register_below width.Word rdx s) (register_below width.Word rax s) in
      value_with_sign i width.Long (double_word width.Word) (subst (λ k. k < 2 ^ 32) (sym here) fit) ∙ ap (λ m. sign_extend 64 32 m) here
  value_dividend true width.Long narrow =
      let here = value_above width.Long (omega arith) in
      let fit = double_fits 32 (register width.Long rdx s) (register width.Long rax s) (is_width width.Long)
      (register_below width.Long rdx s) (register_below width.Long rax s) in
      value_with_sign i width.Quad (double_word width.Long) (subst (λ k. k < 2 ^ 64) (sym here) fit) ∙ ap (λ m. sign_extend 64 64 m) here
  value_dividend sign width.Quad narrow = absurd (narrow refl)

-- the divisor
pub value_divisor : (i : IrState) (sign : Bool) (w : Width) (d : Formula) (by : ℕ) → value i d ≡ by → by < 2 ^ bits w
    → value i (divisor_formula sign w d) ≡ divisor_word sign (bits w) by
value_divisor i false w d by is fit = is
value_divisor i true w d by is fit = value_with_sign i w d (subst (λ k. k < 2 ^ bits w) (sym is) fit)
    ∙ ap (λ k. sign_extend 64 (bits w) k) is

-- the quotient
pub value_quotient : (i : IrState) (sign : Bool) (n d : Formula) (a b : ℕ) → value i n ≡ a → value i d ≡ b
    → value i (quotient_formula sign n d) ≡ quotient_word sign a b
value_quotient i false n d a b first second = ap (λ k. udiv 64 k (value i d)) first ∙ ap (λ k. udiv 64 a k) second
value_quotient i true n d a b first second = ap (λ k. sdiv 64 k (value i d)) first ∙ ap (λ k. sdiv 64 a k) second

-- whether it does not fit
pub value_range : (i : IrState) (sign : Bool) (w : Width) (q : Formula) (v : ℕ) → bits w < 64 → value i q ≡ v
    → value i (range_formula sign w q) ≡ range_word sign (bits w) v
value_range i false w q v small is = value_shifted i w q small ∙ ap (λ k. k / 2 ^ bits w) is
value_range i true w q v small is =
    ap (λ k. bit_xor (value i q) k) (value_low_extended i w q small) ∙ ap (λ k. bit_xor k (sign_extend 64 (bits w) (k % 2 ^ bits w))) is

-- what it leaves
pub value_remainder : (i : IrState) (n d q : Formula) (a b c : ℕ) → value i n ≡ a → value i d ≡ b → value i q ≡ c
    → value i (remainder_formula n d q) ≡ msub 64 a c b
value_remainder i n d q a b c first second third =
    ap (λ k. msub 64 k (value i q) (value i d)) first ∙ ap (λ k. msub 64 a k (value i d)) third ∙ ap (λ k. msub 64 a c k) second

-- remainder and quotient of bytes, as a word
pub value_both : (i : IrState) (sign : Bool) (q r : Formula) (a b : ℕ) → value i q ≡ a → value i r ≡ b → a < 2 ^ 64 → b < 2 ^ 64
    → cut_word sign 8 a < 2 ^ 8 → cut_word sign 8 b < 2 ^ 8
    → value i (bytes_formula sign q r) ≡ (cut_word sign 8 b * 2 ^ 8 + cut_word sign 8 a) % 2 ^ 16
value_both i sign q r a b first second fit fits low high =
    ap (λ m. bit_or (m * 2 ^ 8 % 2 ^ 64) (value i (cut sign width.Byte q))) (value_cut i sign width.Byte r b second fits)
    ∙ ap (λ m. bit_or (cut_word sign 8 b * 2 ^ 8 % 2 ^ 64) m) (value_cut i sign width.Byte q a first fit)
    ∙ beside 8 (cut_word sign 8 b) (cut_word sign 8 a) (is_width width.Byte) (omega arith) high low
    ∙ sym (mod_small (cut_word sign 8 b * 2 ^ 8 + cut_word sign 8 a) 16
    (double_fits 8 (cut_word sign 8 b) (cut_word sign 8 a) (is_width width.Byte) high low))
