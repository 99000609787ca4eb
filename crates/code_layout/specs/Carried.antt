-- What it means that the words of a code segment carry out the blocks of a program.
use Rattle.std.specs.Prelude.{◌≡◌, ◌≢◌, ℕ, List}
use Rattle.behavior.specs.Tree.{Tree, Begins, Next, ◌then◌}
use Rattle.behavior.specs.Acts.{Permission}
use Rattle.behavior.specs.Seen.{lowered}
use Rattle.behavior.specs.Kept.{SameNext, Keeps}
use Rattle.behavior.specs.Exits.{Exits, Arrived, lands}
use Rattle.behavior.specs.Unfolds.{Unfolds}
use Rattle.a64_code.specs.declared.instr.XReg.{XReg}
use Rattle.a64_table.specs.State.{xregs, AState}
use Rattle.a64_table.specs.Machine.{AThread, a64_step}
use Rattle.a64_block.specs.Blocks.{a64_block}
use Rattle.a64_block.specs.declared.block.ABlock.{ABlock}
use Rattle.code_layout.specs.Places.{place_from, IsBegun}

-- A thread of words stands where the block is to which the other thread has come. Between two blocks X16, X17 and the flags of
-- the machine are the layout's own; 31 is the number of the zero register.
pub record ArrivesAt (first : ℕ) (blocks : List (ABlock XReg)) (a : Arrived AState) (t : AThread) : Type 0 where
  pub known : IsBegun blocks a.at
  pub at : t.at ≡ place_from first blocks a.at
  pub same : (n : ℕ) → n ≢ 16 → n ≢ 17 → n ≢ 31 → t.state.regs n ≡ a.state.regs n

-- From the block's place on, from any state, the words do what the block does, and then take at most `most` more to where it
-- leaves to.
pub record IsCarriedOut (exits : Exits) (most first : ℕ) (words : List ℕ) (blocks : List (ABlock XReg)) (b : ABlock XReg) (may : Permission) (s : AState) : Type 0 where
  pub does : Tree (Next AThread)
  pub unfolds : Unfolds (a64_step may first words) (a64_step may first words (record { at = place_from first blocks b.first; state = s })) (Begins does)
  pub keeps : Keeps lowered 1 most (SameNext (ArrivesAt first blocks)) (a64_block xregs may (place_from first blocks b.first) b.steps b.end s then lands exits) (Begins does)
