-- What is read from the words of each shape: the class of encodings, the operation, and the operands.
use Rattle.std.proofs.Common.{◌≡◌, ℕ, ◌+◌, ◌*◌, ◌/◌, ◌%◌, ◌^◌, ◌<◌, ◌≤◌, Bool, true, false, inl, inr, Some, ap, ◌∙◌, arith, lit<, lit≤}
use Rattle.std.specs.Prelude.{ℤ}
use Rattle.std.proofs.lemmas.Bool.Decides.{nat_tests}
use Rattle.std.proofs.lemmas.Int.{ints}
use Rattle.word_arith.specs.Bits.{bit, field}
use Rattle.word_arith.specs.Signed.{signed, fits_signed, low_bits}
use Rattle.word_arith.proofs.CallerLemmas.{bit_below, low_bits_below, signed_low_bits}
use Rattle.a64_code.specs.declared.instr.XReg.{XReg}
use Rattle.a64_code.specs.declared.instr.A64.{A64}
use Rattle.a64_code.specs.Ranges.{bits, IsOperand, IsSize, IsShift, IsQuarter, IsDistance}
use Rattle.a64_code.specs.Words.{form, wide_field, size_code, access, rd, rt, rn, ra, rm, rs, shift, imm12, imm16, hw, immr, imms, cond, imm19}
use Rattle.a64_code.specs.Decoding.{form_in, register_in, size_in, distance_in, shifted, immediate, quarter, moved, two, chosen, three, whole, tested, offset, updated}

-- ---- single fields

-- a register's number has five bits
pub five_bits : (r : XReg) → IsOperand r → r.number < 32
five_bits r (inl h) = omega (arith, h.0)
five_bits r (inr h) = omega (arith, h)

-- a form works on 64 bits at most
pub bits_small : (x : Bool) → bits x ≤ 64
bits_small true = lit≤ tt
bits_small false = lit≤ tt

register_read : (low w : ℕ) (r : XReg) → field low 5 w ≡ r.number → register_in low w ≡ r
register_read low w r e = ap (λ n. record { number = n }) e

form_read : (w : ℕ) (x : Bool) → field 31 1 w ≡ bit x → form_in w ≡ x
form_read w true e = rw e
form_read w false e = rw e

pub size_small : (size : ℕ) → IsSize size → size_code size < 4
size_small size (inl h) = rw h (lit< tt)
size_small size (inr (inl h)) = rw h (lit< tt)
size_small size (inr (inr (inl h))) = rw h (lit< tt)
size_small size (inr (inr (inr h))) = rw h (lit< tt)

size_back : (size : ℕ) → IsSize size → 2 ^ size_code size ≡ size
size_back size (inl h) = rw h
size_back size (inr (inl h)) = rw h
size_back size (inr (inr (inl h))) = rw h
size_back size (inr (inr (inr h))) = rw h

size_read : (w size : ℕ) → IsSize size → field 30 2 w ≡ size_code size → size_in w ≡ size
size_read w size h e = ap (λ c. 2 ^ c) e ∙ size_back size h

fits : (width : ℕ) (z : ℤ) → IsDistance width z → fits_signed width z ≡ true
unfolding fits_signed
fits width z h = let low = h.0 in let high = h.1 in grind (arith, nat_tests, ints)

pub distance_read : (low width w : ℕ) (z : ℤ) → 0 < width → IsDistance width z → field low width w ≡ low_bits width z → distance_in low width w ≡ z
distance_read low width w z some h e = ap (λ n. signed width n) e ∙ signed_low_bits width z some (fits width z h)

-- ---- shapes

-- shifted registers; the class and the operation are the fixed bits from bit 24 on
pub shifted_read : (make : Bool → XReg → XReg → XReg → ℕ → ℕ → A64 XReg) (k : ℕ) (x : Bool) (d n m : XReg) (kind amount : ℕ) → k < 128 → IsOperand d → IsOperand n → IsOperand m → IsShift x kind amount
    → let w = k * 2 ^ 24 + form x + shift kind amount + rm m + rn n + rd d in
    (field 24 5 w ≡ k % 32) × (field 29 2 w ≡ k / 32) × (shifted make w ≡ Some (make x d n m kind amount))
shifted_read make k x d n m kind amount small dh nh mh h =
    let w = k * 2 ^ 24 + form x + shift kind amount + rm m + rn n + rd d in
    let all = bits_small x in
    let b = bit_below x in
    let one = five_bits d dh in
    let two = five_bits n nh in
    let three = five_bits m mh in
    let p1 = form_read w x (omega arith) in
    let p2 = register_read 0 w d (omega arith) in
    let p3 = register_read 5 w n (omega arith) in
    let p4 = register_read 16 w m (omega arith) in
    let p5 : field 22 2 w ≡ kind = omega arith in
    let p6 : field 10 6 w ≡ amount = omega arith in
    (omega arith, omega arith, cc)

-- a number of 12 bits
pub immediate_read : (make : Bool → XReg → XReg → ℕ → A64 XReg) (k : ℕ) (x : Bool) (d n : XReg) (number : ℕ) → k < 128 → IsOperand d → IsOperand n → number < 2 ^ 12
    → let w = k * 2 ^ 24 + form x + imm12 number + rn n + rd d in
    (field 24 5 w ≡ k % 32) × (field 29 2 w ≡ k / 32) × (immediate make w ≡ Some (make x d n number))
immediate_read make k x d n number small dh nh h =
    let w = k * 2 ^ 24 + form x + imm12 number + rn n + rd d in
    let b = bit_below x in
    let one = five_bits d dh in
    let two = five_bits n nh in
    let p1 = form_read w x (omega arith) in
    let p2 = register_read 0 w d (omega arith) in
    let p3 = register_read 5 w n (omega arith) in
    let p4 : field 10 12 w ≡ number = omega arith in
    (omega arith, omega arith, cc)

-- 16 bits and their quarter; the fixed bits have bit 23 too
pub quarter_read : (make : Bool → XReg → ℕ → ℕ → A64 XReg) (k : ℕ) (x : Bool) (d : XReg) (value place : ℕ) → k < 128 → IsOperand d → IsQuarter x value place
    → let w = k * 2 ^ 24 + 2 ^ 23 + form x + hw place + imm16 value + rd d in
    (field 24 5 w ≡ k % 32) × (field 29 2 w ≡ k / 32) × (quarter make w ≡ Some (make x d value place))
quarter_read make k x d value place small dh h =
    let w = k * 2 ^ 24 + 2 ^ 23 + form x + hw place + imm16 value + rd d in
    let all = bits_small x in
    let b = bit_below x in
    let one = five_bits d dh in
    let p1 = form_read w x (omega arith) in
    let p2 = register_read 0 w d (omega arith) in
    let p3 : field 5 16 w ≡ value = omega arith in
    let p4 : field 21 2 w ≡ place = omega arith in
    (omega arith, omega arith, cc)

-- bitfields
pub moved_read : (make : Bool → XReg → XReg → ℕ → ℕ → A64 XReg) (k : ℕ) (x : Bool) (d n : XReg) (r s : ℕ) → k < 128 → IsOperand d → IsOperand n → r < bits x → s < bits x
    → let w = k * 2 ^ 24 + form x + wide_field x + immr r + imms s + rn n + rd d in
    (field 24 5 w ≡ k % 32) × (field 29 2 w ≡ k / 32) × (moved make w ≡ Some (make x d n r s))
moved_read make k x d n r s small dh nh rh sh =
    let w = k * 2 ^ 24 + form x + wide_field x + immr r + imms s + rn n + rd d in
    let all = bits_small x in
    let b = bit_below x in
    let one = five_bits d dh in
    let two = five_bits n nh in
    let p1 = form_read w x (omega arith) in
    let p2 = register_read 0 w d (omega arith) in
    let p3 = register_read 5 w n (omega arith) in
    let p4 : field 16 6 w ≡ r = omega arith in
    let p5 : field 10 6 w ≡ s = omega arith in
    (omega arith, omega arith, cc)

-- two sources; the operation stands from bit 10 on
pub two_read : (make : Bool → XReg → XReg → XReg → A64 XReg) (o : ℕ) (x : Bool) (d n m : XReg) → o < 64 → IsOperand d → IsOperand n → IsOperand m
    → let w = 0x1AC00000 + o * 2 ^ 10 + form x + rm m + rn n + rd d in
    (field 24 5 w ≡ 0x1A) × (field 21 3 w ≡ 6) × (field 10 6 w ≡ o) × (two make w ≡ Some (make x d n m))
two_read make o x d n m small dh nh mh =
    let w = 0x1AC00000 + o * 2 ^ 10 + form x + rm m + rn n + rd d in
    let b = bit_below x in
    let first = five_bits d dh in
    let second = five_bits n nh in
    let third = five_bits m mh in
    let p1 = form_read w x (omega arith) in
    let p2 = register_read 0 w d (omega arith) in
    let p3 = register_read 5 w n (omega arith) in
    let p4 = register_read 16 w m (omega arith) in
    (omega arith, omega arith, omega arith, cc)

-- a choice by a condition
pub chosen_read : (make : Bool → XReg → XReg → XReg → ℕ → A64 XReg) (o : ℕ) (x : Bool) (d n m : XReg) (condition : ℕ) → o < 4 → IsOperand d → IsOperand n → IsOperand m → condition < 14
    → let w = 0x1A800000 + o * 2 ^ 10 + form x + rm m + cond condition + rn n + rd d in
    (field 24 5 w ≡ 0x1A) × (field 21 3 w ≡ 4) × (field 10 2 w ≡ o) × (chosen make w ≡ Some (make x d n m condition))
chosen_read make o x d n m condition small dh nh mh ch =
    let w = 0x1A800000 + o * 2 ^ 10 + form x + rm m + cond condition + rn n + rd d in
    let b = bit_below x in
    let first = five_bits d dh in
    let second = five_bits n nh in
    let third = five_bits m mh in
    let p1 = form_read w x (omega arith) in
    let p2 = register_read 0 w d (omega arith) in
    let p3 = register_read 5 w n (omega arith) in
    let p4 = register_read 16 w m (omega arith) in
    let p5 : field 12 4 w ≡ condition = omega arith in
    (omega arith, omega arith, omega arith, cc)

-- three sources; the operation is bit 15
pub three_read : (make : Bool → XReg → XReg → XReg → XReg → A64 XReg) (o : ℕ) (x : Bool) (d n m a : XReg) → o < 2 → IsOperand d → IsOperand n → IsOperand m → IsOperand a
    → let w = 0x1B000000 + o * 2 ^ 15 + form x + rm m + ra a + rn n + rd d in
    (field 24 5 w ≡ 0x1B) × (field 21 3 w ≡ 0) × (field 15 1 w ≡ o) × (three make w ≡ Some (make x d n m a))
three_read make o x d n m a small dh nh mh ah =
    let w = 0x1B000000 + o * 2 ^ 15 + form x + rm m + ra a + rn n + rd d in
    let b = bit_below x in
    let first = five_bits d dh in
    let second = five_bits n nh in
    let third = five_bits m mh in
    let fourth = five_bits a ah in
    let p1 = form_read w x (omega arith) in
    let p2 = register_read 0 w d (omega arith) in
    let p3 = register_read 5 w n (omega arith) in
    let p4 = register_read 16 w m (omega arith) in
    let p5 = register_read 10 w a (omega arith) in
    (omega arith, omega arith, omega arith, cc)

-- upper halves of products; the operation stands from bit 21 on
pub whole_read : (make : XReg → XReg → XReg → A64 XReg) (o : ℕ) (d n m : XReg) → o < 8 → IsOperand d → IsOperand n → IsOperand m
    → let w = 0x9B007C00 + o * 2 ^ 21 + rm m + rn n + rd d in
    (field 24 5 w ≡ 0x1B) × (field 21 3 w ≡ o) × (whole make w ≡ Some (make d n m))
whole_read make o d n m small dh nh mh =
    let w = 0x9B007C00 + o * 2 ^ 21 + rm m + rn n + rd d in
    let first = five_bits d dh in
    let second = five_bits n nh in
    let third = five_bits m mh in
    let p1 = register_read 0 w d (omega arith) in
    let p2 = register_read 5 w n (omega arith) in
    let p3 = register_read 16 w m (omega arith) in
    (omega arith, omega arith, cc)

-- a compared register; the operation is bit 24
pub tested_read : (make : Bool → XReg → ℤ → A64 XReg) (o : ℕ) (x : Bool) (t : XReg) (z : ℤ) → o < 2 → IsOperand t → IsDistance 19 z
    → let w = (0x34 + o) * 2 ^ 24 + form x + imm19 z + rt t in
    (field 24 5 w ≡ 0x14 + o) × (field 29 3 w ≡ 1 + 4 * bit x) × (field 24 2 w ≡ o) × (tested make w ≡ Some (make x t z))
tested_read make o x t z small th zh =
    let w = (0x34 + o) * 2 ^ 24 + form x + imm19 z + rt t in
    let b = bit_below x in
    let first = five_bits t th in
    let second = low_bits_below 19 z in
    let p1 = form_read w x (omega arith) in
    let p2 = register_read 0 w t (omega arith) in
    let p3 = distance_read 5 19 w z (lit< tt) zh (omega arith) in
    (omega arith, omega arith, omega arith, cc)

-- loads and stores, whose size has the code c; the operation stands from bit 22 on
offset_parts : (make : ℕ → XReg → XReg → ℕ → A64 XReg) (o c size : ℕ) (t n : XReg) (number : ℕ) → o < 4 → c < 4 → t.number < 32 → n.number < 32 → number < 2 ^ 12
    → let w = 0x39000000 + o * 2 ^ 22 + c * 2 ^ 30 + imm12 number + rn n + rt t in
    (field 30 2 w ≡ c → size_in w ≡ size) → (field 24 5 w ≡ 0x19) × (field 22 2 w ≡ o) × (offset make w ≡ Some (make size t n number))
offset_parts make o c size t n number small four first second h back =
    let w = 0x39000000 + o * 2 ^ 22 + c * 2 ^ 30 + imm12 number + rn n + rt t in
    let p1 = back (omega arith) in
    let p2 = register_read 0 w t (omega arith) in
    let p3 = register_read 5 w n (omega arith) in
    let p4 : field 10 12 w ≡ number = omega arith in
    (omega arith, omega arith, cc)

pub offset_read : (make : ℕ → XReg → XReg → ℕ → A64 XReg) (o size : ℕ) (t n : XReg) (number : ℕ) → o < 4 → IsSize size → IsOperand t → IsOperand n → number < 2 ^ 12
    → let w = 0x39000000 + o * 2 ^ 22 + access size + imm12 number + rn n + rt t in
    (field 24 5 w ≡ 0x19) × (field 22 2 w ≡ o) × (offset make w ≡ Some (make size t n number))
offset_read make o size t n number small sh th nh h =
    let w = 0x39000000 + o * 2 ^ 22 + access size + imm12 number + rn n + rt t in
    offset_parts make o (size_code size) size t n number small (size_small size sh) (five_bits t th) (five_bits n nh) h (size_read w size sh)

-- atomic operations, whose size has the code c; the operation stands from bit 10 on, and the fixed bits from bit 21 on
updated_parts : (make : ℕ → XReg → XReg → XReg → A64 XReg) (k o c size : ℕ) (s t n : XReg) → k < 512 → o < 64 → c < 4 → s.number < 32 → t.number < 32 → n.number < 32
    → let w = k * 2 ^ 21 + o * 2 ^ 10 + c * 2 ^ 30 + rs s + rn n + rt t in
    (field 30 2 w ≡ c → size_in w ≡ size) → (field 24 5 w ≡ k / 8 % 32) × (field 10 6 w ≡ o) × (updated make w ≡ Some (make size s t n))
updated_parts make k o c size s t n small less four first second third back =
    let w = k * 2 ^ 21 + o * 2 ^ 10 + c * 2 ^ 30 + rs s + rn n + rt t in
    let p1 = back (omega arith) in
    let p2 = register_read 16 w s (omega arith) in
    let p3 = register_read 0 w t (omega arith) in
    let p4 = register_read 5 w n (omega arith) in
    (omega arith, omega arith, cc)

pub updated_read : (make : ℕ → XReg → XReg → XReg → A64 XReg) (k o size : ℕ) (s t n : XReg) → k < 512 → o < 64 → IsSize size → IsOperand s → IsOperand t → IsOperand n
    → let w = k * 2 ^ 21 + o * 2 ^ 10 + access size + rs s + rn n + rt t in
    (field 24 5 w ≡ k / 8 % 32) × (field 10 6 w ≡ o) × (updated make w ≡ Some (make size s t n))
updated_read make k o size s t n small less size_h sh th nh =
    let w = k * 2 ^ 21 + o * 2 ^ 10 + access size + rs s + rn n + rt t in
    updated_parts make k o (size_code size) size s t n small less (size_small size size_h) (five_bits s sh) (five_bits t th) (five_bits n nh) (size_read w size size_h)
