-- A thread of x86-64 between two instructions: its registers, its flags and its address (Intel SDM, volume 1, chapter 3).
use Rattle.std.specs.Prelude.{ℕ, ◌+◌, ◌-◌, ◌*◌, ◌%◌, ◌^◌, pos, ◌+ℤ◌, Bool, true, false, Option, Some, None, if◌then◌else◌}
use Rattle.word_arith.specs.Bits.{field, insert}
use Rattle.word_arith.specs.Signed.{low_bits}
use Rattle.alu_width.specs.declared.flags.Flags.{Flags}
use Rattle.behavior.specs.Acts.{Bank, put}
use Rattle.x64_syntax.specs.Operands.{bits}
use Rattle.x64_syntax.specs.declared.operand.Mem.{Mem}
use Rattle.x64_syntax.specs.declared.operand.Reg.{Reg}
use Rattle.x64_syntax.specs.declared.operand.Width.{Width}
use Rattle.x64_syntax.specs.declared.operand.Width.TheVariants as width

-- what 64-bit registers hold, by their numbers; the flags; and the address of the next instruction
pub record Thread : Type 0 where
  pub regs : Bank
  pub flags : Flags
  pub at : ℕ

-- the bytes of a width
abbrev pub bytes : Width → ℕ
bytes width.Byte = 1
bytes width.Word = 2
bytes width.Long = 4
bytes width.Quad = 8

-- the lowest bit of a register's part: AH, CH, DH and BH begin at bit 8
abbrev pub lowest : (high : Bool) → ℕ
lowest true = 8
lowest false = 0

-- what a register holds at a width
unfoldable pub register : Width → Reg → Thread → ℕ
register w r t = field (lowest r.high) (bits w) (t.regs r.number)

-- A 64-bit register of which a part gets the low bits of a value: 32 bits clear the upper half, and 8 or 16 bits keep the
-- rest.
unfoldable pub merged : Width → (high : Bool) → (old value : ℕ) → ℕ
merged width.Byte high old value = insert (lowest high) 8 old (value % 2 ^ 8)
merged width.Word high old value = insert 0 16 old (value % 2 ^ 16)
merged width.Long high old value = value % 2 ^ 32
merged width.Quad high old value = value % 2 ^ 64

-- a register gets the low bits of a value
unfoldable pub set : Width → Reg → (value : ℕ) → Thread → Thread
set w r value t = record t { regs = put r.number (merged w r.high (t.regs r.number) value) t.regs }

-- the low part of a register, at any width
abbrev pub low_part : (number : ℕ) → Reg
low_part number = record { number = number; high = false }

abbrev pub rax : Reg
rax = low_part 0

abbrev pub rdx : Reg
rdx = low_part 2

abbrev pub rsp : Reg
rsp = low_part 4

abbrev pub rbp : Reg
rbp = low_part 5

abbrev pub rdi : Reg
rdi = low_part 7

-- where the upper half of a double word is: AH beside AL, and else the register D
abbrev pub upper : Width → Reg
upper width.Byte = record { number = 0; high = true }
upper _ = rdx

-- a base or index, where there is one
abbrev pub part : Option ℕ → Thread → ℕ
part None t = 0
part (Some number) t = t.regs number

-- The address of a memory operand, modulo 2^64: base, index times scale, and offset. The thread has the address after
-- the instruction, from which a relative offset counts.
unfoldable pub address : Mem → Thread → ℕ
address m t = low_bits 64 (pos (part m.base t + part m.index t * m.scale + (if m.rip then t.at else 0)) +ℤ m.offset)

-- the thread with other flags
abbrev pub with_flags : Flags → Thread → Thread
with_flags flags t = record t { flags = flags }

-- the thread after a jump by a displacement modulo 2^64, which counts from the thread's address
unfoldable pub jumped : (displacement : ℕ) → Thread → Thread
jumped displacement t = record t { at = (t.at + displacement) % 2 ^ 64 }

-- the address of the eight bytes that a push writes
unfoldable pub below_stack : Thread → ℕ
below_stack t = (register width.Quad rsp t + (2 ^ 64 - 8)) % 2 ^ 64

-- the thread after a push of eight bytes
unfoldable pub pushed : Thread → Thread
pushed t = set width.Quad rsp (below_stack t) t

-- the thread after a pop of eight bytes
unfoldable pub popped : Thread → Thread
popped t = set width.Quad rsp ((register width.Quad rsp t + 8) % 2 ^ 64) t
