-- The values of the formulas of operands: what a register holds at a width, what becomes of it, and the address of memory.
use Rattle.std.proofs.Common.{◌≡◌, ◌≢◌, ℕ, ◌+◌, ◌*◌, ◌/◌, ◌%◌, ◌^◌, ◌<◌, ◌≤◌, Bool, true, false, Option, arith, refl, ap, sym, ◌∙◌}
use Rattle.std.specs.Prelude.{IfSome, Some, None, pos, ◌+ℤ◌, ◌==◌, bit_and, bit_or, zero, suc, if◌then◌else◌}
use Rattle.std.proofs.lemmas.Bool.Decides.{nat_tests}
use Rattle.std.proofs.lemmas.Int.{ints}
use Rattle.std.proofs.Math.Nat.{div-le_self}
use Rattle.std.proofs.lemmas.Nat.{pow_pos, mod_below}
use Rattle.word_arith.specs.Bits.{insert}
use Rattle.word_arith.specs.Masks.{zeros_at}
use Rattle.word_arith.specs.Signed.{low_bits, sign_extend}
use Rattle.word_arith.proofs.CallerLemmas.{mod_small, mod_mod, low_bits_signed, low_bits_below, low_bits_pos, low_bits-add, insert_by_mask, insert_below}
use Rattle.x64_syntax.specs.Formed.{IsRegister, IsMemory}
use Rattle.x64_syntax.specs.Operands.{bits}
use Rattle.x64_syntax.specs.declared.operand.Mem.{Mem}
use Rattle.x64_syntax.specs.declared.operand.Reg.{Reg}
use Rattle.x64_syntax.specs.declared.operand.Width.{Width}
use Rattle.x64_syntax.specs.declared.operand.Width.TheVariants as width
use Rattle.x64_table.specs.State.{Thread, lowest, register, merged, part, address}
use Rattle.limm_ir.specs.Steps.{IrState}
use Rattle.limm_ir.specs.declared.step.IrOp.TheVariants as ops
use Rattle.lift_alu.specs.Formulas.{Formula, Number, Register, Operation, value}
use Rattle.lift_alu.specs.Operands.{clean, with_sign, shifted_down, register_formula, byte_into, merged_formula, scaled, base_part, with_index, with_displacement, displacement, address_formula}
use Rattle.lift_alu.specs.Meant.{SameThread}

-- the low bits of a value
pub value_clean : (i : IrState) (w : Width) (e : Formula) → value i e < 2 ^ 64 → value i (clean w e) ≡ value i e % 2 ^ bits w
unfolding clean
value_clean i width.Byte e fit = refl
value_clean i width.Word e fit = refl
value_clean i width.Long e fit = refl
value_clean i width.Quad e fit = sym (mod_small (value i e) 64 fit)

-- a value of a width with its sign
pub value_with_sign : (i : IrState) (w : Width) (e : Formula) → value i e < 2 ^ bits w → value i (with_sign w e) ≡ sign_extend 64 (bits w) (value i e)
unfolding with_sign
value_with_sign i width.Byte e fit = ap (sign_extend 64 8) (mod_small (value i e) 8 fit)
value_with_sign i width.Word e fit = ap (sign_extend 64 16) (mod_small (value i e) 16 fit)
value_with_sign i width.Long e fit = ap (sign_extend 64 32) (mod_small (value i e) 32 fit)
value_with_sign i width.Quad e fit = sym (low_bits_signed 64 (value i e) fit)

-- what a register holds at a width fits it
pub register_below : (w : Width) (r : Reg) (s : Thread) → register w r s < 2 ^ bits w
unfolding register
register_below w r s = mod_below (s.regs r.number / 2 ^ lowest r.high) (2 ^ bits w) (pow_pos (bits w))

-- a register from its second byte on, or whole
value_down : (i : IrState) (high : Bool) (n : ℕ) → value i (shifted_down high (Register n)) ≡ i.regs n / 2 ^ lowest high
value_down i true n = refl
value_down i false n = omega arith

-- what a register holds at a width
pub value_register : (s : Thread) (i : IrState) (w : Width) (r : Reg) → SameThread s i → IsRegister w r → value i (register_formula w r) ≡ register w r s
unfolding register_formula register
value_register s i w r same is =
    let down = value_down i r.high r.number ∙ ap (λ n. n / 2 ^ lowest r.high) (same.regs r.number is.number) in
    let below : s.regs r.number / 2 ^ lowest r.high < 2 ^ 64 = omega (arith, div-le_self (s.regs r.number) (2 ^ lowest r.high), same.fit r.number is.number) in
    value_clean i w (shifted_down r.high (Register r.number)) (rw down below) ∙ ap (λ n. n % 2 ^ bits w) down

-- a byte moved up by eight bits fits 64 bits
moved_byte : (v : ℕ) → v < 2 ^ 8 → v * 2 ^ 8 % 2 ^ 64 ≡ v * 2 ^ 8
moved_byte v fit = omega arith

-- a field that begins at bit 0, by a mask and `|`
low_by_mask_or : (len old v : ℕ) → len ≤ 64 → old < 2 ^ 64 → v < 2 ^ len → bit_or (bit_and old (zeros_at 64 0 len)) v ≡ insert 0 len old v
low_by_mask_or len old v narrow fits fit =
    let there : v * 2 ^ 0 ≡ v = omega arith in
    ap (λ m. bit_or (bit_and old (zeros_at 64 0 len)) m) (sym there) ∙ insert_by_mask 64 0 len old v (omega (arith, narrow)) fits fit

-- what becomes of a register that gets a byte
value_byte_into : (i : IrState) (high : Bool) (old e : Formula) → value i old < 2 ^ 64 → value i e < 2 ^ 8
    → value i (byte_into high old e) ≡ insert (lowest high) 8 (value i old) (value i e)
value_byte_into i true old e fits fit =
    ap (λ m. bit_or (bit_and (value i old) (zeros_at 64 8 8)) m) (moved_byte (value i e) fit)
    ∙ insert_by_mask 64 8 8 (value i old) (value i e) (omega arith) fits fit
value_byte_into i false old e fits fit = low_by_mask_or 8 (value i old) (value i e) (omega arith) fits fit

-- what becomes of a register that gets a value of a width
pub value_merged : (i : IrState) (w : Width) (high : Bool) (old e : Formula) → (high ≡ true → w ≡ width.Byte) → value i old < 2 ^ 64 → value i e < 2 ^ bits w
    → value i (merged_formula w high old e) ≡ merged w high (value i old) (value i e)
unfolding merged_formula merged
value_merged i width.Byte high old e narrow fits fit =
    value_byte_into i high old e fits fit ∙ ap (insert (lowest high) 8 (value i old)) (sym (mod_small (value i e) 8 fit))
value_merged i width.Word high old e narrow fits fit =
    low_by_mask_or 16 (value i old) (value i e) (omega arith) fits fit ∙ ap (insert 0 16 (value i old)) (sym (mod_small (value i e) 16 fit))
value_merged i width.Long high old e narrow fits fit = sym (mod_small (value i e) 32 fit)
value_merged i width.Quad high old e narrow fits fit = sym (mod_small (value i e) 64 fit)

-- what a register gets by its low bits, and that it fits
pub merged_below : (w : Width) (high : Bool) (old v : ℕ) → old < 2 ^ 64 → merged w high old v < 2 ^ 64
unfolding merged
merged_below width.Byte true old v fit = insert_below 64 8 8 old (v % 2 ^ 8) (omega arith) fit (mod_below v (2 ^ 8) (pow_pos 8))
merged_below width.Byte false old v fit = insert_below 64 0 8 old (v % 2 ^ 8) (omega arith) fit (mod_below v (2 ^ 8) (pow_pos 8))
merged_below width.Word high old v fit = insert_below 64 0 16 old (v % 2 ^ 16) (omega arith) fit (mod_below v (2 ^ 16) (pow_pos 16))
merged_below width.Long high old v fit = omega arith
merged_below width.Quad high old v fit = mod_below v (2 ^ 64) (pow_pos 64)

pub merged-low : (w : Width) (high : Bool) (old v : ℕ) → merged w high old (v % 2 ^ bits w) ≡ merged w high old v
unfolding merged
merged-low width.Byte high old v = ap (insert (lowest high) 8 old) (mod_mod v 8 8 (omega arith))
merged-low width.Word high old v = ap (insert 0 16 old) (mod_mod v 16 16 (omega arith))
merged-low width.Long high old v = mod_mod v 32 32 (omega arith)
merged-low width.Quad high old v = mod_mod v 64 64 (omega arith)

-- ---- addresses

-- the value of a part that there may be
abbrev sum_of : IrState → Option Formula → ℕ
sum_of i None = 0
sum_of i (Some e) = value i e

-- a part, at most 64 bits of it
sum_below : (i : IrState) (before : Option Formula) (n : ℕ) → sum_of i before ≡ n % 2 ^ 64 → sum_of i before < 2 ^ 64
sum_below i before n is = rw is (mod_below n (2 ^ 64) (pow_pos 64))

-- the base, where there is one
value_base : (s : Thread) (i : IrState) (base : Option ℕ) → SameThread s i → IfSome base (λ n. n < 16) → sum_of i (base_part base) ≡ part base s % 2 ^ 64
value_base s i None same is = refl
value_base s i (Some n) same is = same.regs n is ∙ sym (mod_small (s.regs n) 64 (same.fit n is))

-- an index times a power of two
value_times : (s : Thread) (i : IrState) (n k : ℕ) → SameThread s i → n < 16 → k < 4 → value i (scaled n (2 ^ k)) ≡ s.regs n * 2 ^ k % 2 ^ 64
unfolding scaled
value_times s i n zero same is few = same.regs n is ∙ omega (arith, same.fit n is)
value_times s i n (suc zero) same is few = ap (λ m. m * 2 % 2 ^ 64) (same.regs n is)
value_times s i n (suc (suc zero)) same is few = ap (λ m. m * 4 % 2 ^ 64) (same.regs n is)
value_times s i n (suc (suc (suc zero))) same is few = ap (λ m. m * 8 % 2 ^ 64) (same.regs n is)
value_times s i n (suc (suc (suc (suc k)))) same is few = absurd (omega (arith, few))

-- an index times its scale
value_scaled : (s : Thread) (i : IrState) (n scale k : ℕ) → SameThread s i → n < 16 → k < 4 → scale ≡ 2 ^ k → value i (scaled n scale) ≡ s.regs n * scale % 2 ^ 64
value_scaled s i n scale k same is few power =
    ap (λ m. value i (scaled n m)) power ∙ value_times s i n k same is few ∙ ap (λ m. s.regs n * m % 2 ^ 64) (sym power)

-- sums of 64 bits of parts that are cut to 64 bits
sum_of_parts : (b x : ℕ) → (b % 2 ^ 64 + x % 2 ^ 64) % 2 ^ 64 ≡ (b + x) % 2 ^ 64
sum_of_parts b x = omega arith

sum_with_none : (x b : ℕ) → 0 ≡ b % 2 ^ 64 → x % 2 ^ 64 ≡ (b + x) % 2 ^ 64
sum_with_none x b is = omega (arith, is)

-- base and index, where there are any
value_index : (s : Thread) (i : IrState) (index : Option ℕ) (scale k b : ℕ) (before : Option Formula) → SameThread s i → IfSome index (λ n. (n < 16) × (n ≢ 4))
    → k < 4 → scale ≡ 2 ^ k → sum_of i before ≡ b % 2 ^ 64 → sum_of i (with_index index scale before) ≡ (b + part index s * scale) % 2 ^ 64
value_index s i None scale k b before same is few power was = was ∙ omega arith
value_index s i (Some n) scale k b None same is few power was =
    let x : ℕ = s.regs n * scale in
    let scaled_is : value i (scaled n scale) ≡ x % 2 ^ 64 = value_scaled s i n scale k same is.0 few power in
    scaled_is ∙ sum_with_none x b was
value_index s i (Some n) scale k b (Some e) same is few power was =
    let x : ℕ = s.regs n * scale in
    ap (λ m. (m + value i (scaled n scale)) % 2 ^ 64) was
    ∙ ap (λ m. (b % 2 ^ 64 + m) % 2 ^ 64) (value_scaled s i n scale k same is.0 few power)
    ∙ sum_of_parts b x

-- a number that is 0 by its test
is_zero : (d : ℕ) → (d == 0) ≡ true → d ≡ 0
is_zero d is = grind (arith, nat_tests)

-- a displacement that is 0 is left out
value_displaced_by : (i : IrState) (d : ℕ) (e : Formula) (none : Bool) → (none ≡ true → d ≡ 0) → value i e < 2 ^ 64
    → value i (if none then e else Operation ops.Add e (Number d)) ≡ (value i e + d) % 2 ^ 64
value_displaced_by i d e true is fit = omega (arith, is refl, fit)
value_displaced_by i d e false is fit = refl

-- what is added to base and index
value_displaced : (i : IrState) (d : ℕ) (before : Option Formula) → d < 2 ^ 64 → sum_of i before < 2 ^ 64 → value i (with_displacement d before) ≡ (sum_of i before + d) % 2 ^ 64
value_displaced i d None few fit = omega (arith, few)
value_displaced i d (Some e) few fit = value_displaced_by i d e (d == 0) (λ is. is_zero d is) fit

-- the address of memory, where the thread has the address after the instruction; and it fits
pub value_address : (s : Thread) (i : IrState) (m : Mem) → SameThread s i → IsMemory m → s.at < 2 ^ 64 → value i (address_formula m s.at) ≡ address m s
unfolding address address_formula displacement
value_address s i m same is fit =
    let b : ℕ = part m.base s in
    let x : ℕ = part m.index s * m.scale in
    let a : ℕ = if m.rip then s.at else 0 in
    let parts : pos (b + x + a) +ℤ m.offset ≡ pos (b + x) +ℤ (pos a +ℤ m.offset) = omega (arith, ints) in
    let before = value_index s i m.index m.scale is.scale.0 b (base_part m.base) same is.index is.scale.1 is.scale.2 (value_base s i m.base same is.base) in
    value_displaced i (low_bits 64 (pos a +ℤ m.offset)) (with_index m.index m.scale (base_part m.base))
    (low_bits_below 64 (pos a +ℤ m.offset)) (sum_below i (with_index m.index m.scale (base_part m.base)) (b + x) before)
    ∙ ap (λ n. (n + low_bits 64 (pos a +ℤ m.offset)) % 2 ^ 64) (before ∙ sym (low_bits_pos 64 (b + x)))
    ∙ sym (low_bits-add 64 (pos (b + x)) (pos a +ℤ m.offset))
    ∙ ap (low_bits 64) (sym parts)

pub address_below : (m : Mem) (s : Thread) → address m s < 2 ^ 64
unfolding address
address_below m s = low_bits_below 64 (pos (part m.base s + part m.index s * m.scale + (if m.rip then s.at else 0)) +ℤ m.offset)
