-- The tests of the ranges decide them.
use Rattle.std.proofs.Common.{ℕ, ◌-◌, ◌/◌, ◌^◌, ◌<◌, ◌≤◌, ◌==◌, ◌&&◌, ◌||◌, Bool, refl, arith}
use Rattle.std.specs.Prelude.{nat_lt, nat_le, ℤ, pos, neg_ℤ, ◌≤ℤ◌, ◌<ℤ◌, int_le, int_lt}
use Rattle.std.specs.Bool.{Decides}
use Rattle.std.proofs.lemmas.Bool.Decides.{nat_tests, Decides-and, Decides-or, Decides-eqb, Decides-like}
use Rattle.std.proofs.lemmas.Int.{ints}
use Rattle.a64_code.specs.declared.instr.XReg.{XReg}
use Rattle.a64_code.specs.declared.instr.A64.{A64}
use Rattle.a64_code.specs.declared.instr.A64.TheVariants.{Add, Sub, Subs, And, Orr, Eor, AddImm, SubImm, Movz, Movk, Movn, Lslv, Lsrv, Asrv, Rorv, Udiv, Sdiv, Madd, Msub, Smulh, Umulh, Ubfm, Sbfm, Csel, Csinc, B, BCond, Cbz, Cbnz, Ldr, Str, Cas, Swp, Ldadd, Ldclr, Ldeor, Ldset, DmbFull, DmbLd, DmbSt, Nop, Brk, Svc}
use Rattle.a64_code.specs.Ranges.{bits, IsRegister, IsOperand, IsSize, IsShift, IsQuarter, IsDistance, IsEncodable}
use Rattle.a64_code.specs.Tests.{is_register, is_operand, is_size, is_shift, is_quarter, is_distance, is_encodable}

-- ---- joined tests

three : {P Q R : Type 0} (a b c : Bool) → Decides a P → Decides b Q → Decides c R → Decides (a && (b && c)) (P × Q × R)
three a b c p q r =
    Decides-like (a && (b && c)) (λ h. (h.0, h.1.0, h.1.1)) (λ h. (h.0, (h.1, h.2))) (Decides-and a (b && c) p (Decides-and b c q r))

four : {P Q R S : Type 0} (a b c d : Bool) → Decides a P → Decides b Q → Decides c R → Decides d S → Decides (a && (b && (c && d))) (P × Q × R × S)
four a b c d p q r s =
    Decides-like (a && (b && (c && d))) (λ h. (h.0, h.1.0, h.1.1.0, h.1.1.1)) (λ h. (h.0, (h.1, (h.2, h.3)))) (Decides-and a (b && (c && d)) p (Decides-and b (c && d) q (Decides-and c d r s)))

-- ---- each kind of operand

below : (a b : ℕ) → Decides (nat_lt a b) (a < b)
below a b = (λ e. grind (arith, nat_tests), λ h. grind (arith, nat_tests))

at_most : (a b : ℕ) → Decides (nat_le a b) (a ≤ b)
at_most a b = (λ e. grind (arith, nat_tests), λ h. grind (arith, nat_tests))

register : (r : XReg) → Decides (is_register r) (IsRegister r)
register r = (λ e. (grind (arith, nat_tests), grind (arith, nat_tests)), λ h. let low = h.0 in let other = h.1 in grind (arith, nat_tests))

operand : (r : XReg) → Decides (is_operand r) (IsOperand r)
operand r = Decides-or (is_register r) (r.number == 31) (register r) (Decides-eqb r.number 31)

size_test : (n : ℕ) → Decides (is_size n) (IsSize n)
size_test n =
    Decides-or (n == 1) (n == 2 || (n == 4 || n == 8)) (Decides-eqb n 1)
    (Decides-or (n == 2) (n == 4 || n == 8) (Decides-eqb n 2) (Decides-or (n == 4) (n == 8) (Decides-eqb n 4) (Decides-eqb n 8)))

shift_test : (x : Bool) (kind amount : ℕ) → Decides (is_shift x kind amount) (IsShift x kind amount)
shift_test x kind amount = Decides-and (nat_lt kind 3) (nat_lt amount (bits x)) (below kind 3) (below amount (bits x))

quarter_test : (x : Bool) (value quarter : ℕ) → Decides (is_quarter x value quarter) (IsQuarter x value quarter)
quarter_test x value quarter = Decides-and (nat_lt value (2 ^ 16)) (nat_lt quarter (bits x / 16)) (below value (2 ^ 16)) (below quarter (bits x / 16))

from_low : (h : ℕ) (z : ℤ) → Decides (int_le (neg_ℤ (pos h)) z) (neg_ℤ (pos h) ≤ℤ z)
from_low h z = (λ e. grind (arith, ints), λ e. grind (arith, ints))

to_high : (h : ℕ) (z : ℤ) → Decides (int_lt z (pos h)) (z <ℤ pos h)
to_high h z = (λ e. grind (arith, ints), λ e. grind (arith, ints))

distance_test : (width : ℕ) (z : ℤ) → Decides (is_distance width z) (IsDistance width z)
distance_test width z =
    Decides-and (int_le (neg_ℤ (pos (2 ^ (width - 1)))) z) (int_lt z (pos (2 ^ (width - 1)))) (from_low (2 ^ (width - 1)) z) (to_high (2 ^ (width - 1)) z)

-- the test of a whole instruction
pub encodable_test : (a : A64 XReg) → Decides (is_encodable a) (IsEncodable a)
encodable_test (Add x d n m kind amount) = four _ _ _ _ (register d) (operand n) (operand m) (shift_test x kind amount)
encodable_test (Sub x d n m kind amount) = four _ _ _ _ (register d) (operand n) (operand m) (shift_test x kind amount)
encodable_test (Subs x d n m kind amount) = four _ _ _ _ (operand d) (operand n) (operand m) (shift_test x kind amount)
encodable_test (And x d n m kind amount) = four _ _ _ _ (register d) (operand n) (operand m) (shift_test x kind amount)
encodable_test (Orr x d n m kind amount) = four _ _ _ _ (register d) (operand n) (operand m) (shift_test x kind amount)
encodable_test (Eor x d n m kind amount) = four _ _ _ _ (register d) (operand n) (operand m) (shift_test x kind amount)
encodable_test (AddImm x d n number) = three _ _ _ (register d) (register n) (below number (2 ^ 12))
encodable_test (SubImm x d n number) = three _ _ _ (register d) (register n) (below number (2 ^ 12))
encodable_test (Movz x d value quarter) = Decides-and _ _ (register d) (quarter_test x value quarter)
encodable_test (Movk x d value quarter) = Decides-and _ _ (register d) (quarter_test x value quarter)
encodable_test (Movn x d value quarter) = Decides-and _ _ (register d) (quarter_test x value quarter)
encodable_test (Lslv x d n m) = three _ _ _ (register d) (operand n) (operand m)
encodable_test (Lsrv x d n m) = three _ _ _ (register d) (operand n) (operand m)
encodable_test (Asrv x d n m) = three _ _ _ (register d) (operand n) (operand m)
encodable_test (Rorv x d n m) = three _ _ _ (register d) (operand n) (operand m)
encodable_test (Udiv x d n m) = three _ _ _ (register d) (operand n) (operand m)
encodable_test (Sdiv x d n m) = three _ _ _ (register d) (operand n) (operand m)
encodable_test (Madd x d n m a) = four _ _ _ _ (register d) (operand n) (operand m) (register a)
encodable_test (Msub x d n m a) = four _ _ _ _ (register d) (operand n) (operand m) (register a)
encodable_test (Smulh d n m) = three _ _ _ (register d) (operand n) (operand m)
encodable_test (Umulh d n m) = three _ _ _ (register d) (operand n) (operand m)
encodable_test (Ubfm x d n r s) = four _ _ _ _ (register d) (register n) (below r (bits x)) (below s (bits x))
encodable_test (Sbfm x d n r s) = four _ _ _ _ (register d) (register n) (below r (bits x)) (below s (bits x))
encodable_test (Csel x d n m condition) = four _ _ _ _ (register d) (operand n) (operand m) (below condition 14)
encodable_test (Csinc x d n m condition) = four _ _ _ _ (register d) (operand n) (operand m) (below condition 14)
encodable_test (B distance) = distance_test 26 distance
encodable_test (BCond condition distance) = Decides-and _ _ (below condition 14) (distance_test 19 distance)
encodable_test (Cbz x t distance) = Decides-and _ _ (register t) (distance_test 19 distance)
encodable_test (Cbnz x t distance) = Decides-and _ _ (register t) (distance_test 19 distance)
encodable_test (Ldr size t n number) = four _ _ _ _ (size_test size) (register t) (register n) (below number (2 ^ 12))
encodable_test (Str size t n number) = four _ _ _ _ (size_test size) (operand t) (register n) (below number (2 ^ 12))
encodable_test (Cas size s t n) = four _ _ _ _ (size_test size) (register s) (register t) (register n)
encodable_test (Swp size s t n) = four _ _ _ _ (size_test size) (register s) (register t) (register n)
encodable_test (Ldadd size s t n) = four _ _ _ _ (size_test size) (register s) (register t) (register n)
encodable_test (Ldclr size s t n) = four _ _ _ _ (size_test size) (register s) (register t) (register n)
encodable_test (Ldeor size s t n) = four _ _ _ _ (size_test size) (register s) (register t) (register n)
encodable_test (Ldset size s t n) = four _ _ _ _ (size_test size) (register s) (register t) (register n)
encodable_test DmbFull = (λ e. tt, λ h. refl)
encodable_test DmbLd = (λ e. tt, λ h. refl)
encodable_test DmbSt = (λ e. tt, λ h. refl)
encodable_test Nop = (λ e. tt, λ h. refl)
encodable_test (Brk number) = Decides-and _ _ (at_most 1 number) (at_most number 4)
encodable_test (Svc number) = Decides-and _ _ (at_most 1 number) (at_most number 3)
