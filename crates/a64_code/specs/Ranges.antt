-- The operands that an instruction's word has room for, and those that are used (Arm ARM, chapter C6).
use Rattle.std.specs.Prelude.{◌≡◌, ◌≢◌, ℕ, ◌-◌, ◌/◌, ◌^◌, ◌<◌, ◌≤◌, ◌⊎◌, Bool, true, false, ℤ, pos, neg_ℤ, ◌≤ℤ◌, ◌<ℤ◌}
use Rattle.a64_code.specs.declared.instr.XReg.{XReg}
use Rattle.a64_code.specs.declared.instr.A64.{A64}
use Rattle.a64_code.specs.declared.instr.A64.TheVariants.{Add, Sub, Subs, And, Orr, Eor, AddImm, SubImm, Movz, Movk, Movn, Lslv, Lsrv, Asrv, Rorv, Udiv, Sdiv, Madd, Msub, Smulh, Umulh, Ubfm, Sbfm, Csel, Csinc, B, BCond, Cbz, Cbnz, Ldr, Str, Cas, Swp, Ldadd, Ldclr, Ldeor, Ldset, DmbFull, DmbLd, DmbSt, Nop, Brk, Svc}

-- how many bits a form works on
abbrev pub bits : Bool → ℕ
bits true = 64
bits false = 32

-- a register that instructions name: X18 and those from X29 on are never used
abbrev pub IsRegister : XReg → Type 0
IsRegister r = (r.number < 29) × (r.number ≢ 18)

-- the same, or the zero register
abbrev pub IsOperand : XReg → Type 0
IsOperand r = IsRegister r ⊎ (r.number ≡ 31)

-- the sizes of accesses, in bytes
abbrev pub IsSize : ℕ → Type 0
IsSize size = (size ≡ 1) ⊎ ((size ≡ 2) ⊎ ((size ≡ 4) ⊎ (size ≡ 8)))

-- LSL, LSR or ASR, by less than the form's width
abbrev pub IsShift : (x : Bool) (kind amount : ℕ) → Type 0
IsShift x kind amount = (kind < 3) × (amount < bits x)

-- 16 bits, and the number of a quarter that the form has
abbrev pub IsQuarter : (x : Bool) (value quarter : ℕ) → Type 0
IsQuarter x value quarter = (value < 2 ^ 16) × (quarter < bits x / 16)

-- the codes of conditions, EQ to LE
abbrev pub IsCondition : ℕ → Type 0
IsCondition condition = condition < 14

-- a number of so many bits in two's complement
abbrev pub IsDistance : (width : ℕ) → ℤ → Type 0
IsDistance width distance = (neg_ℤ (pos (2 ^ (width - 1))) ≤ℤ distance) × (distance <ℤ pos (2 ^ (width - 1)))

-- The operands are in range. The zero register is allowed as Rm, as Rn of those that work on registers alone, as Rd of
-- SUBS and as Rt of a store, and nowhere else.
abbrev pub IsEncodable : A64 XReg → Type 0
IsEncodable (Add x d n m kind amount) = IsRegister d × IsOperand n × IsOperand m × IsShift x kind amount
IsEncodable (Sub x d n m kind amount) = IsRegister d × IsOperand n × IsOperand m × IsShift x kind amount
IsEncodable (Subs x d n m kind amount) = IsOperand d × IsOperand n × IsOperand m × IsShift x kind amount
IsEncodable (And x d n m kind amount) = IsRegister d × IsOperand n × IsOperand m × IsShift x kind amount
IsEncodable (Orr x d n m kind amount) = IsRegister d × IsOperand n × IsOperand m × IsShift x kind amount
IsEncodable (Eor x d n m kind amount) = IsRegister d × IsOperand n × IsOperand m × IsShift x kind amount
IsEncodable (AddImm x d n number) = IsRegister d × IsRegister n × (number < 2 ^ 12)
IsEncodable (SubImm x d n number) = IsRegister d × IsRegister n × (number < 2 ^ 12)
IsEncodable (Movz x d value quarter) = IsRegister d × IsQuarter x value quarter
IsEncodable (Movk x d value quarter) = IsRegister d × IsQuarter x value quarter
IsEncodable (Movn x d value quarter) = IsRegister d × IsQuarter x value quarter
IsEncodable (Lslv x d n m) = IsRegister d × IsOperand n × IsOperand m
IsEncodable (Lsrv x d n m) = IsRegister d × IsOperand n × IsOperand m
IsEncodable (Asrv x d n m) = IsRegister d × IsOperand n × IsOperand m
IsEncodable (Rorv x d n m) = IsRegister d × IsOperand n × IsOperand m
IsEncodable (Udiv x d n m) = IsRegister d × IsOperand n × IsOperand m
IsEncodable (Sdiv x d n m) = IsRegister d × IsOperand n × IsOperand m
IsEncodable (Madd x d n m a) = IsRegister d × IsOperand n × IsOperand m × IsRegister a
IsEncodable (Msub x d n m a) = IsRegister d × IsOperand n × IsOperand m × IsRegister a
IsEncodable (Smulh d n m) = IsRegister d × IsOperand n × IsOperand m
IsEncodable (Umulh d n m) = IsRegister d × IsOperand n × IsOperand m
IsEncodable (Ubfm x d n immr imms) = IsRegister d × IsRegister n × (immr < bits x) × (imms < bits x)
IsEncodable (Sbfm x d n immr imms) = IsRegister d × IsRegister n × (immr < bits x) × (imms < bits x)
IsEncodable (Csel x d n m condition) = IsRegister d × IsOperand n × IsOperand m × IsCondition condition
IsEncodable (Csinc x d n m condition) = IsRegister d × IsOperand n × IsOperand m × IsCondition condition
IsEncodable (B distance) = IsDistance 26 distance
IsEncodable (BCond condition distance) = IsCondition condition × IsDistance 19 distance
IsEncodable (Cbz x t distance) = IsRegister t × IsDistance 19 distance
IsEncodable (Cbnz x t distance) = IsRegister t × IsDistance 19 distance
IsEncodable (Ldr size t n number) = IsSize size × IsRegister t × IsRegister n × (number < 2 ^ 12)
IsEncodable (Str size t n number) = IsSize size × IsOperand t × IsRegister n × (number < 2 ^ 12)
IsEncodable (Cas size s t n) = IsSize size × IsRegister s × IsRegister t × IsRegister n
IsEncodable (Swp size s t n) = IsSize size × IsRegister s × IsRegister t × IsRegister n
IsEncodable (Ldadd size s t n) = IsSize size × IsRegister s × IsRegister t × IsRegister n
IsEncodable (Ldclr size s t n) = IsSize size × IsRegister s × IsRegister t × IsRegister n
IsEncodable (Ldeor size s t n) = IsSize size × IsRegister s × IsRegister t × IsRegister n
IsEncodable (Ldset size s t n) = IsSize size × IsRegister s × IsRegister t × IsRegister n
IsEncodable DmbFull = Unit {0}
IsEncodable DmbLd = Unit {0}
IsEncodable DmbSt = Unit {0}
IsEncodable Nop = Unit {0}
IsEncodable (Brk number) = (1 ≤ number) × (number ≤ 4)
IsEncodable (Svc number) = (1 ≤ number) × (number ≤ 3)
