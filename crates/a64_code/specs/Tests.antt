-- The tests of the operands' ranges.
use Rattle.std.specs.Prelude.{ℕ, ◌-◌, ◌/◌, ◌^◌, ◌==◌, ◌&&◌, ◌||◌, not, nat_lt, nat_le, Bool, true, ℤ, pos, neg_ℤ, int_le, int_lt}
use Rattle.a64_code.specs.declared.instr.XReg.{XReg}
use Rattle.a64_code.specs.declared.instr.A64.{A64}
use Rattle.a64_code.specs.declared.instr.A64.TheVariants.{Add, Sub, Subs, And, Orr, Eor, AddImm, SubImm, Movz, Movk, Movn, Lslv, Lsrv, Asrv, Rorv, Udiv, Sdiv, Madd, Msub, Smulh, Umulh, Ubfm, Sbfm, Csel, Csinc, B, BCond, Cbz, Cbnz, Ldr, Str, Cas, Swp, Ldadd, Ldclr, Ldeor, Ldset, DmbFull, DmbLd, DmbSt, Nop, Brk, Svc}
use Rattle.a64_code.specs.Ranges.{bits}

-- the tests of `IsRegister`, `IsOperand`, `IsSize`, `IsShift`, `IsQuarter` and `IsDistance`
abbrev pub is_register : XReg → Bool
is_register r = nat_lt r.number 29 && not (r.number == 18)

abbrev pub is_operand : XReg → Bool
is_operand r = is_register r || r.number == 31

abbrev pub is_size : ℕ → Bool
is_size size = size == 1 || (size == 2 || (size == 4 || size == 8))

abbrev pub is_shift : (x : Bool) (kind amount : ℕ) → Bool
is_shift x kind amount = nat_lt kind 3 && nat_lt amount (bits x)

abbrev pub is_quarter : (x : Bool) (value quarter : ℕ) → Bool
is_quarter x value quarter = nat_lt value (2 ^ 16) && nat_lt quarter (bits x / 16)

abbrev pub is_distance : (width : ℕ) → ℤ → Bool
is_distance width distance = int_le (neg_ℤ (pos (2 ^ (width - 1)))) distance && int_lt distance (pos (2 ^ (width - 1)))

-- the test of `IsEncodable`
abbrev pub is_encodable : A64 XReg → Bool
is_encodable (Add x d n m kind amount) = is_register d && (is_operand n && (is_operand m && is_shift x kind amount))
is_encodable (Sub x d n m kind amount) = is_register d && (is_operand n && (is_operand m && is_shift x kind amount))
is_encodable (Subs x d n m kind amount) = is_operand d && (is_operand n && (is_operand m && is_shift x kind amount))
is_encodable (And x d n m kind amount) = is_register d && (is_operand n && (is_operand m && is_shift x kind amount))
is_encodable (Orr x d n m kind amount) = is_register d && (is_operand n && (is_operand m && is_shift x kind amount))
is_encodable (Eor x d n m kind amount) = is_register d && (is_operand n && (is_operand m && is_shift x kind amount))
is_encodable (AddImm x d n number) = is_register d && (is_register n && nat_lt number (2 ^ 12))
is_encodable (SubImm x d n number) = is_register d && (is_register n && nat_lt number (2 ^ 12))
is_encodable (Movz x d value quarter) = is_register d && is_quarter x value quarter
is_encodable (Movk x d value quarter) = is_register d && is_quarter x value quarter
is_encodable (Movn x d value quarter) = is_register d && is_quarter x value quarter
is_encodable (Lslv x d n m) = is_register d && (is_operand n && is_operand m)
is_encodable (Lsrv x d n m) = is_register d && (is_operand n && is_operand m)
is_encodable (Asrv x d n m) = is_register d && (is_operand n && is_operand m)
is_encodable (Rorv x d n m) = is_register d && (is_operand n && is_operand m)
is_encodable (Udiv x d n m) = is_register d && (is_operand n && is_operand m)
is_encodable (Sdiv x d n m) = is_register d && (is_operand n && is_operand m)
is_encodable (Madd x d n m a) = is_register d && (is_operand n && (is_operand m && is_register a))
is_encodable (Msub x d n m a) = is_register d && (is_operand n && (is_operand m && is_register a))
is_encodable (Smulh d n m) = is_register d && (is_operand n && is_operand m)
is_encodable (Umulh d n m) = is_register d && (is_operand n && is_operand m)
is_encodable (Ubfm x d n immr imms) = is_register d && (is_register n && (nat_lt immr (bits x) && nat_lt imms (bits x)))
is_encodable (Sbfm x d n immr imms) = is_register d && (is_register n && (nat_lt immr (bits x) && nat_lt imms (bits x)))
is_encodable (Csel x d n m condition) = is_register d && (is_operand n && (is_operand m && nat_lt condition 14))
is_encodable (Csinc x d n m condition) = is_register d && (is_operand n && (is_operand m && nat_lt condition 14))
is_encodable (B distance) = is_distance 26 distance
is_encodable (BCond condition distance) = nat_lt condition 14 && is_distance 19 distance
is_encodable (Cbz x t distance) = is_register t && is_distance 19 distance
is_encodable (Cbnz x t distance) = is_register t && is_distance 19 distance
is_encodable (Ldr size t n number) = is_size size && (is_register t && (is_register n && nat_lt number (2 ^ 12)))
is_encodable (Str size t n number) = is_size size && (is_operand t && (is_register n && nat_lt number (2 ^ 12)))
is_encodable (Cas size s t n) = is_size size && (is_register s && (is_register t && is_register n))
is_encodable (Swp size s t n) = is_size size && (is_register s && (is_register t && is_register n))
is_encodable (Ldadd size s t n) = is_size size && (is_register s && (is_register t && is_register n))
is_encodable (Ldclr size s t n) = is_size size && (is_register s && (is_register t && is_register n))
is_encodable (Ldeor size s t n) = is_size size && (is_register s && (is_register t && is_register n))
is_encodable (Ldset size s t n) = is_size size && (is_register s && (is_register t && is_register n))
is_encodable DmbFull = true
is_encodable DmbLd = true
is_encodable DmbSt = true
is_encodable Nop = true
is_encodable (Brk number) = nat_le 1 number && nat_le number 4
is_encodable (Svc number) = nat_le 1 number && nat_le number 3
