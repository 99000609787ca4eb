-- The opcode table, in the manual's notation (Intel SDM volume 2, appendix A and the pages of the instructions).
use Rattle.std.specs.Prelude.{ℕ, ◌+◌, ◌*◌, List, [], ◌∷◌, ◌++◌, Some, None}
use Rattle.std.specs.List.{flat_map}
use Rattle.x64_syntax.specs.declared.instr.AluOp.{AluOp}
use Rattle.x64_syntax.specs.declared.instr.AluOp.TheVariants as op
use Rattle.x64_syntax.specs.declared.instr.ShiftOp.{ShiftOp}
use Rattle.x64_syntax.specs.declared.instr.ShiftOp.TheVariants as turn
use Rattle.x64_syntax.specs.declared.operand.Width.TheVariants as width
use Rattle.x64_decode.specs.declared.row.Before.{Before}
use Rattle.x64_decode.specs.declared.row.Before.TheVariants as before
use Rattle.x64_decode.specs.declared.row.Code.{Code}
use Rattle.x64_decode.specs.declared.row.Code.TheVariants.{One, Two, Three, Four}
use Rattle.x64_decode.specs.declared.row.Lock.{Lock}
use Rattle.x64_decode.specs.declared.row.Lock.TheVariants as lock
use Rattle.x64_decode.specs.declared.row.Name.{Name}
use Rattle.x64_decode.specs.declared.row.Name.TheVariants as name
use Rattle.x64_decode.specs.declared.row.Place.{Place}
use Rattle.x64_decode.specs.declared.row.Place.TheVariants as place
use Rattle.x64_decode.specs.declared.row.Row.{Row}
use Rattle.x64_decode.specs.declared.row.Size.{Size}
use Rattle.x64_decode.specs.declared.row.Size.TheVariants as size

-- operands: E is r/m, M is r/m that is memory, G is reg, r is in the opcode; b is 8 bits, v the width that REX.W and 66 choose
abbrev pub Eb : Place
Eb = place.Rm size.Byte

abbrev pub Ev : Place
Ev = place.Rm size.Operand

abbrev pub E16 : Place
E16 = place.Rm size.Word

abbrev pub E32 : Place
E32 = place.Rm size.Long

abbrev pub E64 : Place
E64 = place.Rm size.Quad

abbrev pub Mb : Place
Mb = place.Memory size.Byte

abbrev pub Mv : Place
Mv = place.Memory size.Operand

abbrev pub Gb : Place
Gb = place.Reg size.Byte

abbrev pub Gv : Place
Gv = place.Reg size.Operand

abbrev pub G64 : Place
G64 = place.Reg size.Quad

abbrev pub rb : Place
rb = place.Low size.Byte

abbrev pub rv : Place
rv = place.Low size.Operand

abbrev pub r64 : Place
r64 = place.Low size.Quad

abbrev pub AL : Place
AL = place.Accumulator size.Byte

abbrev pub rAX : Place
rAX = place.Accumulator size.Operand

-- immediates: ib has 8 bits, ub 8 bits without sign, iz 16 bits at that width and else 32, iv the whole width
abbrev pub ib : Place
ib = place.Short

abbrev pub ub : Place
ub = place.Unsigned

abbrev pub iz : Place
iz = place.Full

abbrev pub iv : Place
iv = place.Whole

-- a row with three operands, with two, with one, and with none
abbrev pub three : Code → Size → Place → Place → Place → Name → Row
three c s to from by n =
    record {
      code = c;
      digit = None;
      size = s;
      to = to;
      from = from;
      by = by;
      name = n;
      lock = lock.Never;
      before = before.Anything;
    }

abbrev pub two : Code → Size → Place → Place → Name → Row
two c s to from n = three c s to from place.Absent n

abbrev pub one : Code → Size → Place → Name → Row
one c s to n = two c s to place.Absent n

abbrev pub none : Code → Size → Name → Row
none c s n = one c s place.Absent n

-- the mark /d: ModRM's reg field is a part of the opcode
abbrev pub slash : ℕ → Row → Row
slash d r = record r { digit = Some d }

-- what may stand before the opcode
abbrev pub only : Before → Row → Row
only b r = record r { before = b }

-- F0 may stand before it with memory
abbrev pub L : Row → Row
L r = record r { lock = lock.WithMemory }

-- F0 must stand before it with memory
abbrev pub LL : Row → Row
LL r = record r { lock = lock.AlwaysWithMemory }

-- the nine rows of the operation k; F0 is for those whose destination is r/m
abbrev pub alu_rows : ℕ → AluOp → Lock → List Row
alu_rows k o l =
    record (two (One (8 * k + 0)) size.Byte Eb Gb (name.Alu o)) { lock = l }
    ∷ record (two (One (8 * k + 1)) size.Operand Ev Gv (name.Alu o)) { lock = l }
    ∷ two (One (8 * k + 2)) size.Byte Gb Eb (name.Alu o)
    ∷ two (One (8 * k + 3)) size.Operand Gv Ev (name.Alu o)
    ∷ two (One (8 * k + 4)) size.Byte AL ib (name.Alu o)
    ∷ two (One (8 * k + 5)) size.Operand rAX iz (name.Alu o)
    ∷ record (slash k (two (One 0x80) size.Byte Eb ib (name.Alu o))) { lock = l }
    ∷ record (slash k (two (One 0x81) size.Operand Ev iz (name.Alu o))) { lock = l }
    ∷ record (slash k (two (One 0x83) size.Operand Ev ib (name.Alu o))) { lock = l }
    ∷ []

-- the rows of shifts and rotates with the digit d: by a number, by 1, and by CL
abbrev pub shift_rows : ℕ → ShiftOp → List Row
shift_rows d o =
    slash d (two (One 0xC0) size.Byte Eb ub (name.Shift o))
    ∷ slash d (two (One 0xC1) size.Operand Ev ub (name.Shift o))
    ∷ slash d (two (One 0xD0) size.Byte Eb place.One (name.Shift o))
    ∷ slash d (two (One 0xD1) size.Operand Ev place.One (name.Shift o))
    ∷ slash d (two (One 0xD2) size.Byte Eb place.Count (name.Shift o))
    ∷ slash d (two (One 0xD3) size.Operand Ev place.Count (name.Shift o))
    ∷ []

-- the rows whose opcode has a register, but for exchanges: 50+r, 58+r, B0+r, B8+r
abbrev pub low_rows : ℕ → List Row
low_rows r =
    only before.NoWord (one (One (0x50 + r)) size.Quad r64 name.Push)
    ∷ only before.NoWord (one (One (0x58 + r)) size.Quad r64 name.Pop)
    ∷ two (One (0xB0 + r)) size.Byte rb ib name.Mov
    ∷ two (One (0xB8 + r)) size.Operand rv iv name.Mov
    ∷ []

-- exchanges with the accumulator: 90+r
abbrev pub exchange_rows : ℕ → List Row
exchange_rows r = two (One (0x90 + r)) size.Operand rAX rv name.Xchg ∷ []

-- the rows whose opcode has a condition: 70+c, 0F 80+c, 0F 90+c, 0F 40+c
abbrev pub condition_rows : ℕ → List Row
condition_rows c =
    only before.NoWord (one (One (0x70 + c)) size.Quad ib (name.Jcc c))
    ∷ only before.NoWord (one (Two 0x0F (0x80 + c)) size.Quad iz (name.Jcc c))
    ∷ one (Two 0x0F (0x90 + c)) size.Byte Eb (name.SetCc c)
    ∷ two (Two 0x0F (0x40 + c)) size.Operand Gv Ev (name.CmovCc c)
    ∷ []

-- all other rows
abbrev pub other_rows : List Row
other_rows =
    two (One 0x84) size.Byte Eb Gb name.Test
    ∷ two (One 0x85) size.Operand Ev Gv name.Test
    ∷ two (One 0xA8) size.Byte AL ib name.Test
    ∷ two (One 0xA9) size.Operand rAX iz name.Test
    ∷ slash 0 (two (One 0xF6) size.Byte Eb ib name.Test)
    ∷ slash 0 (two (One 0xF7) size.Operand Ev iz name.Test)
    ∷ L (two (One 0x86) size.Byte Eb Gb name.Xchg)
    ∷ L (two (One 0x87) size.Operand Ev Gv name.Xchg)
    ∷ only before.WithB (two (One 0x90) size.Operand rAX rv name.Xchg)
    ∷ two (One 0x88) size.Byte Eb Gb name.Mov
    ∷ two (One 0x89) size.Operand Ev Gv name.Mov
    ∷ two (One 0x8A) size.Byte Gb Eb name.Mov
    ∷ two (One 0x8B) size.Operand Gv Ev name.Mov
    ∷ slash 0 (two (One 0xC6) size.Byte Eb ib name.Mov)
    ∷ slash 0 (two (One 0xC7) size.Operand Ev iz name.Mov)
    ∷ two (One 0x8D) size.Operand Gv Mv name.Lea
    ∷ two (Two 0x0F 0xB6) size.Operand Gv Eb (name.MovZx width.Byte)
    ∷ two (Two 0x0F 0xB7) size.Operand Gv E16 (name.MovZx width.Word)
    ∷ two (Two 0x0F 0xBE) size.Operand Gv Eb (name.MovSx width.Byte)
    ∷ two (Two 0x0F 0xBF) size.Operand Gv E16 (name.MovSx width.Word)
    ∷ only before.WithW (two (One 0x63) size.Quad G64 E32 name.MovSxd)
    ∷ only before.NoWord (one (One 0x68) size.Quad iz name.Push)
    ∷ only before.NoWord (one (One 0x6A) size.Quad ib name.Push)
    ∷ only before.NoWord (slash 6 (one (One 0xFF) size.Quad E64 name.Push))
    ∷ only before.NoWord (slash 0 (one (One 0x8F) size.Quad E64 name.Pop))
    ∷ only before.NoWord (none (One 0xC9) size.Quad name.Leave)
    ∷ only before.NoWord (none (One 0xC3) size.Quad name.Ret)
    ∷ only before.NoWord (one (One 0xE8) size.Quad iz name.Call)
    ∷ only before.NoWord (one (One 0xE9) size.Quad iz name.Jmp)
    ∷ only before.NoWord (one (One 0xEB) size.Quad ib name.Jmp)
    ∷ only before.NoWord (slash 2 (one (One 0xFF) size.Quad E64 name.CallInd))
    ∷ only before.NoWord (slash 4 (one (One 0xFF) size.Quad E64 name.JmpInd))
    ∷ L (slash 0 (one (One 0xFE) size.Byte Eb name.Inc))
    ∷ L (slash 0 (one (One 0xFF) size.Operand Ev name.Inc))
    ∷ L (slash 1 (one (One 0xFE) size.Byte Eb name.Dec))
    ∷ L (slash 1 (one (One 0xFF) size.Operand Ev name.Dec))
    ∷ L (slash 2 (one (One 0xF6) size.Byte Eb name.Not))
    ∷ L (slash 2 (one (One 0xF7) size.Operand Ev name.Not))
    ∷ slash 3 (one (One 0xF6) size.Byte Eb name.Neg)
    ∷ slash 3 (one (One 0xF7) size.Operand Ev name.Neg)
    ∷ slash 4 (one (One 0xF6) size.Byte Eb name.Mul)
    ∷ slash 4 (one (One 0xF7) size.Operand Ev name.Mul)
    ∷ slash 5 (one (One 0xF6) size.Byte Eb name.ImulOne)
    ∷ slash 5 (one (One 0xF7) size.Operand Ev name.ImulOne)
    ∷ slash 6 (one (One 0xF6) size.Byte Eb name.Div)
    ∷ only before.WithoutW (slash 6 (one (One 0xF7) size.Operand Ev name.Div))
    ∷ slash 7 (one (One 0xF6) size.Byte Eb name.Idiv)
    ∷ only before.WithoutW (slash 7 (one (One 0xF7) size.Operand Ev name.Idiv))
    ∷ two (Two 0x0F 0xAF) size.Operand Gv Ev name.ImulTwo
    ∷ three (One 0x69) size.Operand Gv Ev iz name.ImulThree
    ∷ three (One 0x6B) size.Operand Gv Ev ib name.ImulThree
    ∷ none (One 0x98) size.Operand name.Widen
    ∷ none (One 0x99) size.Operand name.SignFill
    ∷ LL (two (Two 0x0F 0xB0) size.Byte Mb Gb name.Cmpxchg)
    ∷ LL (two (Two 0x0F 0xB1) size.Operand Mv Gv name.Cmpxchg)
    ∷ LL (two (Two 0x0F 0xC0) size.Byte Eb Gb name.Xadd)
    ∷ LL (two (Two 0x0F 0xC1) size.Operand Ev Gv name.Xadd)
    ∷ only before.WithoutB (none (One 0x90) size.Operand name.Nop)
    ∷ slash 0 (one (Two 0x0F 0x1F) size.Operand Ev name.Nop)
    ∷ only before.Nothing (none (Two 0xF3 0x90) size.Operand name.Pause)
    ∷ only before.Nothing (none (Four 0xF3 0x0F 0x1E 0xFA) size.Operand name.Endbr)
    ∷ only before.Nothing (none (Three 0x0F 0xAE 0xF0) size.Operand name.Mfence)
    ∷ only before.Nothing (none (Two 0x0F 0x0B) size.Operand name.Ud2)
    ∷ []

-- the numbers of the registers that an opcode can have beside REX
abbrev pub lows : List ℕ
lows = 0 ∷ 1 ∷ 2 ∷ 3 ∷ 4 ∷ 5 ∷ 6 ∷ 7 ∷ []

-- the conditions: all but 10 and 11, which ask for the parity flag
abbrev pub conditions : List ℕ
conditions = 0 ∷ 1 ∷ 2 ∷ 3 ∷ 4 ∷ 5 ∷ 6 ∷ 7 ∷ 8 ∷ 9 ∷ 12 ∷ 13 ∷ 14 ∷ 15 ∷ []

-- the opcode table; CMP is never locked
unfoldable pub table : List Row
table =
    alu_rows 0 op.Add lock.WithMemory
    ++ (alu_rows 1 op.Or lock.WithMemory
    ++ (alu_rows 2 op.Adc lock.WithMemory
    ++ (alu_rows 3 op.Sbb lock.WithMemory
    ++ (alu_rows 4 op.And lock.WithMemory
    ++ (alu_rows 5 op.Sub lock.WithMemory
    ++ (alu_rows 6 op.Xor lock.WithMemory
    ++ (alu_rows 7 op.Cmp lock.Never
    ++ (shift_rows 0 turn.Rol
    ++ (shift_rows 1 turn.Ror
    ++ (shift_rows 4 turn.Shl
    ++ (shift_rows 5 turn.Shr
    ++ (shift_rows 7 turn.Sar
    ++ (flat_map low_rows lows
    ++ (flat_map exchange_rows (1 ∷ 2 ∷ 3 ∷ 4 ∷ 5 ∷ 6 ∷ 7 ∷ [])
    ++ (flat_map condition_rows conditions
    ++ other_rows)))))))))))))))
