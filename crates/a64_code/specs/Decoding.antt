-- The instruction that a word spells: read by the classes of encodings (Arm ARM, chapter C4), and then held against the
-- word.
use Rattle.std.specs.Prelude.{ℕ, ◌^◌, ◌==◌, ◌&&◌, ◌||◌, nat_le, Bool, if◌then◌else◌, ℤ, Option, Some, None}
use Rattle.word_arith.specs.Bits.{field}
use Rattle.word_arith.specs.Signed.{signed}
use Rattle.a64_code.specs.declared.instr.XReg.{XReg}
use Rattle.a64_code.specs.declared.instr.A64.{A64}
use Rattle.a64_code.specs.declared.instr.A64.TheVariants.{Add, Sub, Subs, And, Orr, Eor, AddImm, SubImm, Movz, Movk, Movn, Lslv, Lsrv, Asrv, Rorv, Udiv, Sdiv, Madd, Msub, Smulh, Umulh, Ubfm, Sbfm, Csel, Csinc, B, BCond, Cbz, Cbnz, Ldr, Str, Cas, Swp, Ldadd, Ldclr, Ldeor, Ldset, DmbFull, DmbLd, DmbSt, Nop, Brk, Svc}
use Rattle.a64_code.specs.Words.{word_of}
use Rattle.a64_code.specs.Tests.{is_encodable}

-- sf, and a register by where its number begins
abbrev pub form_in : ℕ → Bool
form_in w = field 31 1 w == 1

abbrev pub register_in : (low : ℕ) → ℕ → XReg
register_in low w = record { number = field low 5 w }

-- the size of an access, in bytes
abbrev pub size_in : ℕ → ℕ
size_in w = 2 ^ field 30 2 w

-- a distance of so many bits from a bit on
abbrev pub distance_in : (low width : ℕ) → ℕ → ℤ
distance_in low width w = signed width (field low width w)

-- operands of the shapes that several instructions share: shifted registers; an immediate of 12 bits; one of 16 bits and
-- its quarter; a bitfield; two sources; two sources and a condition; two sources and a third; two sources of 64 bits; a
-- compared register and a distance; a load or store; an atomic operation
abbrev pub shifted : (Bool → XReg → XReg → XReg → ℕ → ℕ → A64 XReg) → ℕ → Option (A64 XReg)
shifted make w = Some (make (form_in w) (register_in 0 w) (register_in 5 w) (register_in 16 w) (field 22 2 w) (field 10 6 w))

abbrev pub immediate : (Bool → XReg → XReg → ℕ → A64 XReg) → ℕ → Option (A64 XReg)
immediate make w = Some (make (form_in w) (register_in 0 w) (register_in 5 w) (field 10 12 w))

abbrev pub quarter : (Bool → XReg → ℕ → ℕ → A64 XReg) → ℕ → Option (A64 XReg)
quarter make w = Some (make (form_in w) (register_in 0 w) (field 5 16 w) (field 21 2 w))

abbrev pub moved : (Bool → XReg → XReg → ℕ → ℕ → A64 XReg) → ℕ → Option (A64 XReg)
moved make w = Some (make (form_in w) (register_in 0 w) (register_in 5 w) (field 16 6 w) (field 10 6 w))

abbrev pub two : (Bool → XReg → XReg → XReg → A64 XReg) → ℕ → Option (A64 XReg)
two make w = Some (make (form_in w) (register_in 0 w) (register_in 5 w) (register_in 16 w))

abbrev pub chosen : (Bool → XReg → XReg → XReg → ℕ → A64 XReg) → ℕ → Option (A64 XReg)
chosen make w = Some (make (form_in w) (register_in 0 w) (register_in 5 w) (register_in 16 w) (field 12 4 w))

abbrev pub three : (Bool → XReg → XReg → XReg → XReg → A64 XReg) → ℕ → Option (A64 XReg)
three make w = Some (make (form_in w) (register_in 0 w) (register_in 5 w) (register_in 16 w) (register_in 10 w))

abbrev pub whole : (XReg → XReg → XReg → A64 XReg) → ℕ → Option (A64 XReg)
whole make w = Some (make (register_in 0 w) (register_in 5 w) (register_in 16 w))

abbrev pub tested : (Bool → XReg → ℤ → A64 XReg) → ℕ → Option (A64 XReg)
tested make w = Some (make (form_in w) (register_in 0 w) (distance_in 5 19 w))

abbrev pub offset : (ℕ → XReg → XReg → ℕ → A64 XReg) → ℕ → Option (A64 XReg)
offset make w = Some (make (size_in w) (register_in 0 w) (register_in 5 w) (field 10 12 w))

abbrev pub updated : (ℕ → XReg → XReg → XReg → A64 XReg) → ℕ → Option (A64 XReg)
updated make w = Some (make (size_in w) (register_in 16 w) (register_in 0 w) (register_in 5 w))

abbrev pub logical : ℕ → Option (A64 XReg)
logical w =
    if field 29 2 w == 0 then shifted And w
    else (if field 29 2 w == 1 then shifted Orr w
    else (if field 29 2 w == 2 then shifted Eor w else None))

abbrev pub sum : ℕ → Option (A64 XReg)
sum w =
    if field 29 2 w == 0 then shifted Add w
    else (if field 29 2 w == 2 then shifted Sub w
    else (if field 29 2 w == 3 then shifted Subs w else None))

-- a sum, a move or a bitfield with immediates
abbrev pub sum_imm : ℕ → Option (A64 XReg)
sum_imm w =
    if field 29 2 w == 0 then immediate AddImm w
    else (if field 29 2 w == 2 then immediate SubImm w else None)

abbrev pub move_wide : ℕ → Option (A64 XReg)
move_wide w =
    if field 29 2 w == 0 then quarter Movn w
    else (if field 29 2 w == 2 then quarter Movz w
    else (if field 29 2 w == 3 then quarter Movk w else None))

abbrev pub bitfield : ℕ → Option (A64 XReg)
bitfield w =
    if field 29 2 w == 0 then moved Sbfm w
    else (if field 29 2 w == 2 then moved Ubfm w else None)

-- registers: two sources, a choice, three sources
abbrev pub two_sources : ℕ → Option (A64 XReg)
two_sources w =
    if field 10 6 w == 2 then two Udiv w
    else (if field 10 6 w == 3 then two Sdiv w
    else (if field 10 6 w == 8 then two Lslv w
    else (if field 10 6 w == 9 then two Lsrv w
    else (if field 10 6 w == 10 then two Asrv w
    else (if field 10 6 w == 11 then two Rorv w else None)))))

abbrev pub select : ℕ → Option (A64 XReg)
select w =
    if field 10 2 w == 0 then chosen Csel w
    else (if field 10 2 w == 1 then chosen Csinc w else None)

abbrev pub registers : ℕ → Option (A64 XReg)
registers w =
    if field 21 3 w == 4 then select w
    else (if field 21 3 w == 6 then two_sources w else None)

abbrev pub three_sources : ℕ → Option (A64 XReg)
three_sources w =
    if field 21 3 w == 2 then whole Smulh w
    else (if field 21 3 w == 6 then whole Umulh w
    else (if field 15 1 w == 0 then three Madd w else three Msub w))

-- accesses
abbrev pub atomic : ℕ → Option (A64 XReg)
atomic w =
    if field 10 6 w == 0 then updated Ldadd w
    else (if field 10 6 w == 4 then updated Ldclr w
    else (if field 10 6 w == 8 then updated Ldeor w
    else (if field 10 6 w == 12 then updated Ldset w
    else (if field 10 6 w == 32 then updated Swp w else None))))

abbrev pub access : ℕ → Option (A64 XReg)
access w =
    if field 22 2 w == 0 then offset Str w
    else (if field 22 2 w == 1 then offset Ldr w else None)

-- branches, exceptions, barriers
abbrev pub compare : ℕ → Option (A64 XReg)
compare w =
    if field 24 2 w == 0 then tested Cbz w
    else (if field 24 2 w == 1 then tested Cbnz w else None)

abbrev pub exception : ℕ → Option (A64 XReg)
exception w =
    if field 0 5 w == 0 then Some (Brk (field 5 16 w))
    else (if field 0 5 w == 1 then Some (Svc (field 5 16 w)) else None)

abbrev pub system : ℕ → Option (A64 XReg)
system w =
    if w == 0xD503201F then Some Nop
    else (if w == 0xD5033BBF then Some DmbFull
    else (if w == 0xD50339BF then Some DmbLd
    else (if w == 0xD5033ABF then Some DmbSt else None)))

abbrev pub branch : ℕ → Option (A64 XReg)
branch w =
    if field 29 3 w == 0 then Some (B (distance_in 0 26 w))
    else (if field 29 3 w == 1 || field 29 3 w == 5 then compare w
    else (if field 29 3 w == 2 then Some (BCond (field 0 4 w) (distance_in 5 19 w))
    else (if field 29 3 w == 6 then (if field 24 2 w == 0 then exception w else system w) else None)))

-- the reading by a class of encodings, of a word that is of it
abbrev pub by_class : (class w : ℕ) → Option (A64 XReg)
by_class class w =
    if class == 0x08 then updated Cas w
    else (if class == 0x0A then logical w
    else (if class == 0x0B then sum w
    else (if class == 0x11 then sum_imm w
    else (if class == 0x12 then move_wide w
    else (if class == 0x13 then bitfield w
    else (if nat_le 0x14 class && nat_le class 0x17 then branch w
    else (if class == 0x18 then atomic w
    else (if class == 0x19 then access w
    else (if class == 0x1A then registers w
    else (if class == 0x1B then three_sources w else None))))))))))

-- the only instruction that the word can spell
abbrev pub candidate : ℕ → Option (A64 XReg)
candidate w = by_class (field 24 5 w) w

-- what it spells, if its operands are in range and its word is this one
abbrev pub held_against : ℕ → Option (A64 XReg) → Option (A64 XReg)
held_against w None = None
held_against w (Some a) = if is_encodable a && word_of a == w then Some a else None

-- the instruction that a word spells
unfoldable pub a64_of : ℕ → Option (A64 XReg)
a64_of w = held_against w (candidate w)
