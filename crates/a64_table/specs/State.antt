-- What a thread of A64 words holds: registers of some kind, by their numbers, and the flags (Arm ARM, B1.2).
use Rattle.std.specs.Prelude.{ℕ, ◌^◌, ◌==◌, if◌then◌else◌, ℤ, pos, ◌+ℤ◌, ◌*ℤ◌, unsigned_abs, slice_index, Option, Some, None}
use Rattle.std.specs.Int.{int_rem_euclid}
use Rattle.behavior.specs.Acts.{Bank, put}
use Rattle.a64_code.specs.declared.instr.XReg.{XReg}
use Rattle.a64_table.specs.declared.state.Nzcv.{Nzcv}
use Rattle.a64_table.specs.declared.state.Done.{Done}
use Rattle.a64_table.specs.declared.state.A64State.{A64State}

-- How registers of a kind are numbered: each has a number, one number reads as 0, and numbers name registers.
pub record Names (R : Type 0) : Type 0 where
  pub number : R → ℕ
  pub zr : ℕ
  pub register : ℕ → R

-- the machine's registers
abbrev pub xregs : Names XReg
xregs = record { number = λ r. r.number; zr = 31; register = λ n. record { number = n } }

-- what a thread holds: its registers, by number, and its flags
pub record AState : Type 0 where
  pub regs : Bank
  pub nzcv : Nzcv

-- what a register holds
abbrev pub value : {R : Type 0} → Names R → AState → R → ℕ
value names s r = if names.number r == names.zr then 0 else s.regs (names.number r)

-- The state after a row, whose result register this is. The number that reads as 0 does so whatever is put there.
abbrev pub after : {R : Type 0} → Names R → Option R → Done → AState → AState
after names None d s = record s { nzcv = d.nzcv }
after names (Some r) d s = record { regs = put (names.number r) d.value s.regs; nzcv = d.nzcv }

-- what the registers and flags of a state hold, by number
abbrev pub held : A64State → AState
held s = record { regs = λ n. slice_index s.regs n; nzcv = record { n = s.n; z = s.z; c = s.c; v = s.v } }

-- so many words on from an address, modulo 2^64
abbrev pub moved : ℕ → ℤ → ℕ
moved at distance = unsigned_abs (int_rem_euclid (pos at +ℤ pos 4 *ℤ distance) (pos (2 ^ 64)))
