-- The x86 machine that runs the code of a program.
use Rattle.std.specs.Prelude.{◌≡◌, ◌↔◌, ℕ, Bool, ◌==◌, List, [], ◌∷◌, map, IsTrue, Option, Some, None, if◌then◌else◌}
use Rattle.std.specs.List.{list_any}
use Rattle.ev_graph.specs.declared.events.Item.{Item}
use Rattle.ev_graph.specs.declared.events.End.{End}
use Rattle.behavior.specs.Acts.{Permission}
use Rattle.behavior.specs.Tree.{Tree, Next}
use Rattle.behavior.specs.Passed.{Passes}
use Rattle.behavior.specs.Exits.{Exits}
use Rattle.x64_syntax.specs.declared.placed.Placed.{Placed}
use Rattle.x64_table.specs.State.{Thread}
use Rattle.x64_table.specs.Machine.{x64_step, no_entries}
use Rattle.x64_table.specs.Machine as machine
use Rattle.code_at.specs.Code.{Program}
use Rattle.cfg_walk.specs.declared.code.Code.{Code}
use Rattle.cfg_walk.specs.Reach.{IsPlaced}
use Rattle.cfg_walk.specs.Blocks.{IsSite}
use Rattle.cfg_walk.specs.Code.{IsCodeOf}

-- the instruction that is listed at an address, if there is one
abbrev pub placed_at : List Placed → ℕ → Option Placed
placed_at [] address = None
placed_at (p ∷ ps) address = if address == p.address then Some p else placed_at ps address

-- whether an address is listed
abbrev pub has_address : List ℕ → ℕ → Bool
has_address addresses address = list_any (λ x. address == x) addresses

-- what the code says to a thread: its instructions and its return sites; no table is known so far
abbrev pub code_for_threads : Code → machine.Code
code_for_threads code = record { placed = placed_at code.placed; is_site = has_address code.sites; entry = λ jump. no_entries }

-- the ways into blocks of the code that values choose
abbrev pub exits_of : Code → Exits
exits_of code = record { is_site = has_address code.sites; entry = λ table number. None }

-- One step of a thread of the program. Each address has an answer: where no instruction is placed the thread ends by
-- BadJump, and a return goes to a return site, halts at 0, or ends by BadReturn.
abbrev pub thread_step : Permission → Code → Thread → Tree (Next Thread)
thread_step may code = x64_step may (code_for_threads code)

-- a run of a thread of the program takes the instructions at these addresses, one after another, of which the last may be cut
abbrev pub Takes : Permission → Code → Thread → List ℕ → List Item → End → ℕ → Type 0
Takes may code t addresses items end n =
    (states : List Thread) × (addresses ≡ map (λ (s : Thread). s.at) states) × Passes (thread_step may code) t states items end n

-- a thread finds just the placed instructions and the return sites
pub record FindsCode (program : Program) (code : Code) : Type 0 where
  pub placed : (address : ℕ) (p : Placed) → placed_at code.placed address ≡ Some p ↔ (IsPlaced program p × (p.address ≡ address))
  pub sites : (address : ℕ) → IsTrue (has_address code.sites address) ↔ IsSite program address

-- a thread finds in the code of a program what the program has
abbrev pub ThreadsFindCode : Type 0
ThreadsFindCode = (program : Program) (code : Code) → IsCodeOf program code → FindsCode program code
