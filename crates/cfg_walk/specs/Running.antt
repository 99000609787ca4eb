-- Runs of the threads of a program, block by block.
use Rattle.std.specs.Prelude.{◌≡◌, ◌≢◌, ◌<◌, ◌↔◌, ℕ, zero, suc, ◌==◌, List, [], ◌∷◌, Option, Some, None, if◌then◌else◌}
use Rattle.std.specs.List.{AllByRecursion}
use Rattle.ev_graph.specs.Places.{StandsIn}
use Rattle.ev_graph.specs.declared.events.Item.{Item}
use Rattle.ev_graph.specs.declared.events.End.{End}
use Rattle.ev_graph.specs.declared.events.End.TheVariants.{Trap}
use Rattle.ev_graph.specs.declared.events.TrapKind.TheVariants.{BadJump}
use Rattle.behavior.specs.Tree.{Tree, Path, At, Next, Goes, ◌then◌}
use Rattle.behavior.specs.Acts.{Permission, goes, traps}
use Rattle.behavior.specs.Run.{Run}
use Rattle.behavior.specs.Leaving.{ToBlock, Left}
use Rattle.behavior.specs.Exits.{Arrived, lands}
use Rattle.behavior.specs.Unfolds.{Unfolds}
use Rattle.x64_syntax.specs.declared.placed.Placed.{Placed}
use Rattle.x64_table.specs.State.{Thread}
use Rattle.x64_table.specs.Blocks.{x64_block}
use Rattle.elf_read.specs.Elf.{IsSegment}
use Rattle.code_at.specs.Code.{Program}
use Rattle.cfg_walk.specs.declared.code.Block.{Block}
use Rattle.cfg_walk.specs.declared.code.Code.{Code}
use Rattle.cfg_walk.specs.Reach.{IsReached, end_of}
use Rattle.cfg_walk.specs.Blocks.{AreOf, IsSite}
use Rattle.cfg_walk.specs.Code.{IsCodeOf}
use Rattle.cfg_walk.specs.Machine.{placed_at, exits_of, thread_step, Takes}

-- ---- blocks and their instructions

-- a block of the code begins at the address
abbrev pub IsBegun : Code → ℕ → Type 0
IsBegun code address = (b : Block) × StandsIn code.blocks b × (b.first ≡ address)

-- these are the instructions of a block, and no others are
pub record HasInstructions (code : Code) (b : Block) : Type 0 where
  pub ps : List Placed
  pub are : AreOf code.placed b ps
  pub only : (qs : List Placed) → AreOf code.placed b qs → qs ≡ ps

-- each block of a program's code has its instructions
abbrev pub BlocksHaveInstructions : Type 0
BlocksHaveInstructions = (program : Program) (code : Code) → IsCodeOf program code → (b : Block) → StandsIn code.blocks b → HasInstructions code b

-- a block begins wherever a thread enters the code by its own: where it is started, and where it returns to
pub record BeginsBlocks (program : Program) (code : Code) : Type 0 where
  pub entries : (address : ℕ) → StandsIn program.entries address → IsBegun code address
  pub sites : (address : ℕ) → IsSite program address → IsBegun code address

abbrev pub CodeBeginsBlocks : Type 0
CodeBeginsBlocks = (program : Program) (code : Code) → IsCodeOf program code → BeginsBlocks program code

-- ---- what a block does

-- the thread that has arrived at an address
abbrev pub at_arrival : Arrived Thread → Thread
at_arrival a = record a.state { at = a.at }

-- the instructions of a block of the code, and where the thread arrives behind them
abbrev pub arriving : Permission → Code → (table : ℕ) → List Placed → Thread → Tree (Next (Arrived Thread))
arriving may code table ps s = x64_block may table ps s then lands (exits_of code)

-- the same as one step of a thread
abbrev pub whole_step : Permission → Code → (table : ℕ) → List Placed → Thread → Tree (Next Thread)
whole_step may code table ps s = arriving may code table ps s then (λ a. goes (at_arrival a))

-- A thread of the machine takes these instructions one behind the other. Where it arrives, another block begins, to which
-- it has come by the address that it holds, or by a return.
pub record RunsBlock (may : Permission) (code : Code) (table : ℕ) (ps : List Placed) (s : Thread) : Type 0 where
  pub unfolds : Unfolds (thread_step may code) (thread_step may code s) (whole_step may code table ps s)
  pub advances : (items : List Item) (t : Thread) (n : ℕ) → Path (whole_step may code table ps s) items (At (Goes t)) n → 0 < n
  pub arrives : (items : List Item) (a : Arrived Thread) (n : ℕ) → Path (arriving may code table ps s) items (At (Goes a)) n → IsBegun code a.at
  pub level : (items : List Item) (left : Left Thread) (n address : ℕ) → Path (x64_block may table ps s) items (At (Goes left)) n
      → left.target ≡ ToBlock address → left.state.at ≡ address

-- a thread that comes to a block runs it
abbrev pub ThreadsRunBlocks : Type 0
ThreadsRunBlocks = (program : Program) (code : Code) → AllByRecursion IsSegment program.parts → IsCodeOf program code
    → (b : Block) (ps : List Placed) → StandsIn code.blocks b → AreOf code.placed b ps
    → (may : Permission) (table : ℕ) (s : Thread) → s.at ≡ b.first → RunsBlock may code table ps s

-- ---- runs

-- the block that begins at an address, if one does
abbrev pub block_at : List Block → ℕ → Option Block
block_at [] address = None
block_at (b ∷ bs) address = if address == b.first then Some b else block_at bs address

-- an instruction and those behind it; none where there is none
abbrev pub and_behind : Option Placed → (Placed → List Placed) → List Placed
and_behind None behind = []
and_behind (Some p) behind = p ∷ behind p

-- so many instructions one behind the other, the first of them at an address
abbrev pub instructions_from : List Placed → (count address : ℕ) → List Placed
instructions_from placed zero address = []
instructions_from placed (suc n) address = and_behind (placed_at placed address) (λ p. instructions_from placed n (end_of p))

-- the instructions of a block
abbrev pub instructions_of : Code → Block → List Placed
instructions_of code b = instructions_from code.placed b.count b.first

-- the block is run, if there is one; where there is none the thread ends
abbrev pub block_run : Permission → Code → Option Block → Thread → Tree (Next Thread)
block_run may code None s = traps BadJump
block_run may code (Some b) s = whole_step may code b.first (instructions_of code b) s

-- one block of a thread of the program, that which begins at its address
abbrev pub block_step : Permission → Code → Thread → Tree (Next Thread)
block_step may code s = block_run may code (block_at code.blocks s.at) s

-- a thread that begins with a block runs block by block: with the same items, the same end and the same count
abbrev pub ThreadsRunByBlocks : Type 0
ThreadsRunByBlocks = (program : Program) (code : Code) → AllByRecursion IsSegment program.parts → IsCodeOf program code
    → (may : Permission) (s : Thread) → IsBegun code s.at
    → (items : List Item) (end : End) (n : ℕ) → Run (thread_step may code) s items end n ↔ Run (block_step may code) s items end n

-- no run of a thread of the program that begins with a block comes to an address without an instruction
abbrev pub NoWrongJump : Type 0
NoWrongJump = (program : Program) (code : Code) → AllByRecursion IsSegment program.parts → IsCodeOf program code
    → (may : Permission) (s : Thread) → IsBegun code s.at
    → (items : List Item) (end : End) (n : ℕ) → Run (thread_step may code) s items end n → end ≢ Trap BadJump

-- each address at which such a run takes an instruction is reached
abbrev pub RunsAreReached : Type 0
RunsAreReached = (program : Program) (code : Code) → AllByRecursion IsSegment program.parts → IsCodeOf program code
    → (may : Permission) (s : Thread) → IsBegun code s.at
    → (addresses : List ℕ) (items : List Item) (end : End) (n : ℕ) → Takes may code s addresses items end n
    → (a : ℕ) → StandsIn addresses a → IsReached program a
