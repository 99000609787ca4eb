-- The machine that takes the words of a code segment.
use Rattle.std.specs.Prelude.{◌≡◌, ◌<◌, length, slice_index, ℕ, ◌-◌, ◌/◌, ◌%◌, ◌==◌, ◌&&◌, nat_le, if◌then◌else◌, List, slice_get, Option, Some, None, option_and_then}
use Rattle.ev_graph.specs.declared.events.TrapKind.TheVariants.{BadJump}
use Rattle.behavior.specs.Tree.{Tree, Begins, Next, ◌then◌}
use Rattle.behavior.specs.Acts.{Permission, goes, traps}
use Rattle.a64_code.specs.declared.instr.XReg.{XReg}
use Rattle.a64_code.specs.declared.instr.A64.{A64}
use Rattle.a64_code.specs.Decoding.{a64_of}
use Rattle.a64_table.specs.declared.state.A64State.{A64State}
use Rattle.a64_table.specs.State.{AState, xregs, value, after, held, moved}
use Rattle.a64_table.specs.Rows.{a64_row, a64_result}

-- a thread between two words: the address of the next one, and what the thread holds
pub record AThread : Type 0 where
  pub at : ℕ
  pub state : AState

-- the word of a code segment at an address, where one begins there
abbrev pub word_at : (first : ℕ) → List ℕ → (at : ℕ) → Option ℕ
word_at first words at = if nat_le first at && (at - first) % 4 == 0 then slice_get words ((at - first) / 4) else None

-- the instruction at the thread's address, if there is one
abbrev pub a64_take : Permission → Option (A64 XReg) → AThread → Tree (Next AThread)
a64_take may None t = traps BadJump
a64_take may (Some a) t =
    Begins (a64_row xregs may t.at a (value xregs t.state) t.state.nzcv)
    then (λ d. goes (record { at = moved t.at d.distance; state = after xregs (a64_result xregs a) d t.state }))

-- One step of a thread, whose code has these words from `first` on. At an address outside, and at a word that spells no
-- instruction, the thread ends.
abbrev pub a64_step : Permission → (first : ℕ) → List ℕ → AThread → Tree (Next AThread)
a64_step may first words t = a64_take may (option_and_then a64_of (word_at first words t.at)) t

-- a state of the code holds what a thread holds
pub record Shows (s : A64State) (t : AThread) : Type 0 where
  pub at : t.at ≡ s.at
  pub each : (n : ℕ) → n < 31 → slice_index s.regs n ≡ t.state.regs n
  pub flags : (held s).nzcv ≡ t.state.nzcv
  pub all : length s.regs ≡ 31
