-- The A64 spelling: the word of each instruction (Arm ARM, chapter C4, the encodings, and C6).
use Rattle.std.specs.Prelude.{◌≡◌, ℕ, ◌+◌, ◌*◌, ◌^◌, ◌==◌, Bool, if◌then◌else◌, ℤ}
use Rattle.word_arith.specs.Bits.{bit}
use Rattle.word_arith.specs.Signed.{low_bits}
use Rattle.a64_code.specs.declared.instr.XReg.{XReg}
use Rattle.a64_code.specs.declared.instr.A64.{A64}
use Rattle.a64_code.specs.declared.instr.A64.TheVariants.{Add, Sub, Subs, And, Orr, Eor, AddImm, SubImm, Movz, Movk, Movn, Lslv, Lsrv, Asrv, Rorv, Udiv, Sdiv, Madd, Msub, Smulh, Umulh, Ubfm, Sbfm, Csel, Csinc, B, BCond, Cbz, Cbnz, Ldr, Str, Cas, Swp, Ldadd, Ldclr, Ldeor, Ldset, DmbFull, DmbLd, DmbSt, Nop, Brk, Svc}
use Rattle.a64_code.specs.Ranges.{IsEncodable}

-- sf, which the X form has
abbrev pub form : Bool → ℕ
form x = bit x * 2 ^ 31

-- N of the bitfields, which the X form has
abbrev pub wide_field : Bool → ℕ
wide_field x = bit x * 2 ^ 22

-- the size of an access: 0 to 3 for 1, 2, 4 and 8 bytes
abbrev pub size_code : ℕ → ℕ
size_code size = if size == 8 then 3 else (if size == 4 then 2 else (if size == 2 then 1 else 0))

abbrev pub access : ℕ → ℕ
access size = size_code size * 2 ^ 30

-- registers, by where their number stands
abbrev pub rd : XReg → ℕ
rd r = r.number

abbrev pub rt : XReg → ℕ
rt r = r.number

abbrev pub rn : XReg → ℕ
rn r = r.number * 2 ^ 5

abbrev pub ra : XReg → ℕ
ra r = r.number * 2 ^ 10

abbrev pub rm : XReg → ℕ
rm r = r.number * 2 ^ 16

abbrev pub rs : XReg → ℕ
rs r = r.number * 2 ^ 16

-- a shift's kind and amount
abbrev pub shift : (kind amount : ℕ) → ℕ
shift kind amount = kind * 2 ^ 22 + amount * 2 ^ 10

-- numbers of 12 and of 16 bits, and the quarter of the latter
abbrev pub imm12 : ℕ → ℕ
imm12 number = number * 2 ^ 10

abbrev pub imm16 : ℕ → ℕ
imm16 number = number * 2 ^ 5

abbrev pub hw : ℕ → ℕ
hw quarter = quarter * 2 ^ 21

-- the numbers of a bitfield
abbrev pub immr : ℕ → ℕ
immr number = number * 2 ^ 16

abbrev pub imms : ℕ → ℕ
imms number = number * 2 ^ 10

-- a condition
abbrev pub cond : ℕ → ℕ
cond condition = condition * 2 ^ 12

-- distances in words, of 19 and of 26 bits, in two's complement
abbrev pub imm19 : ℤ → ℕ
imm19 distance = low_bits 19 distance * 2 ^ 5

abbrev pub imm26 : ℤ → ℕ
imm26 distance = low_bits 26 distance

-- The word of an instruction: its fixed bits, and its fields, from the highest to the lowest. The fixed bits are those of
-- the W form and of accesses of one byte, where there is a choice.
abbrev pub word_of : A64 XReg → ℕ
word_of (Add x d n m kind amount) = 0x0B000000 + form x + shift kind amount + rm m + rn n + rd d
word_of (Sub x d n m kind amount) = 0x4B000000 + form x + shift kind amount + rm m + rn n + rd d
word_of (Subs x d n m kind amount) = 0x6B000000 + form x + shift kind amount + rm m + rn n + rd d
word_of (And x d n m kind amount) = 0x0A000000 + form x + shift kind amount + rm m + rn n + rd d
word_of (Orr x d n m kind amount) = 0x2A000000 + form x + shift kind amount + rm m + rn n + rd d
word_of (Eor x d n m kind amount) = 0x4A000000 + form x + shift kind amount + rm m + rn n + rd d
word_of (AddImm x d n number) = 0x11000000 + form x + imm12 number + rn n + rd d
word_of (SubImm x d n number) = 0x51000000 + form x + imm12 number + rn n + rd d
word_of (Movz x d value quarter) = 0x52800000 + form x + hw quarter + imm16 value + rd d
word_of (Movk x d value quarter) = 0x72800000 + form x + hw quarter + imm16 value + rd d
word_of (Movn x d value quarter) = 0x12800000 + form x + hw quarter + imm16 value + rd d
word_of (Lslv x d n m) = 0x1AC02000 + form x + rm m + rn n + rd d
word_of (Lsrv x d n m) = 0x1AC02400 + form x + rm m + rn n + rd d
word_of (Asrv x d n m) = 0x1AC02800 + form x + rm m + rn n + rd d
word_of (Rorv x d n m) = 0x1AC02C00 + form x + rm m + rn n + rd d
word_of (Udiv x d n m) = 0x1AC00800 + form x + rm m + rn n + rd d
word_of (Sdiv x d n m) = 0x1AC00C00 + form x + rm m + rn n + rd d
word_of (Madd x d n m a) = 0x1B000000 + form x + rm m + ra a + rn n + rd d
word_of (Msub x d n m a) = 0x1B008000 + form x + rm m + ra a + rn n + rd d
word_of (Smulh d n m) = 0x9B407C00 + rm m + rn n + rd d
word_of (Umulh d n m) = 0x9BC07C00 + rm m + rn n + rd d
word_of (Ubfm x d n r s) = 0x53000000 + form x + wide_field x + immr r + imms s + rn n + rd d
word_of (Sbfm x d n r s) = 0x13000000 + form x + wide_field x + immr r + imms s + rn n + rd d
word_of (Csel x d n m condition) = 0x1A800000 + form x + rm m + cond condition + rn n + rd d
word_of (Csinc x d n m condition) = 0x1A800400 + form x + rm m + cond condition + rn n + rd d
word_of (B distance) = 0x14000000 + imm26 distance
word_of (BCond condition distance) = 0x54000000 + imm19 distance + condition
word_of (Cbz x t distance) = 0x34000000 + form x + imm19 distance + rt t
word_of (Cbnz x t distance) = 0x35000000 + form x + imm19 distance + rt t
word_of (Ldr size t n number) = 0x39400000 + access size + imm12 number + rn n + rt t
word_of (Str size t n number) = 0x39000000 + access size + imm12 number + rn n + rt t
word_of (Cas size s t n) = 0x08A07C00 + access size + rs s + rn n + rt t
word_of (Swp size s t n) = 0x38208000 + access size + rs s + rn n + rt t
word_of (Ldadd size s t n) = 0x38200000 + access size + rs s + rn n + rt t
word_of (Ldclr size s t n) = 0x38201000 + access size + rs s + rn n + rt t
word_of (Ldeor size s t n) = 0x38202000 + access size + rs s + rn n + rt t
word_of (Ldset size s t n) = 0x38203000 + access size + rs s + rn n + rt t
word_of DmbFull = 0xD5033BBF
word_of DmbLd = 0xD50339BF
word_of DmbSt = 0xD5033ABF
word_of Nop = 0xD503201F
word_of (Brk number) = 0xD4200000 + imm16 number
word_of (Svc number) = 0xD4000001 + imm16 number

-- the word spells the instruction
abbrev pub IsSpelling : ℕ → A64 XReg → Type 0
IsSpelling word a = IsEncodable a × (word_of a ≡ word)
