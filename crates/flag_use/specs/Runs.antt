-- What the paths of a program say of the runs of its threads.
use Rattle.std.specs.Prelude.{◌≡◌, ℕ, Bool, true, false, List, [], ◌∷◌, ◌++◌, map}
use Rattle.std.specs.List.{AllByRecursion}
use Rattle.ev_graph.specs.Places.{StandsIn}
use Rattle.ev_graph.specs.declared.events.Item.{Item}
use Rattle.ev_graph.specs.declared.events.End.{End}
use Rattle.behavior.specs.Acts.{Permission}
use Rattle.x64_syntax.specs.declared.placed.Placed.{Placed}
use Rattle.x64_table.specs.State.{Thread}
use Rattle.elf_read.specs.Elf.{IsSegment}
use Rattle.code_at.specs.Code.{Program}
use Rattle.cfg_walk.specs.declared.code.Code.{Code}
use Rattle.cfg_walk.specs.Reach.{IsPlaced}
use Rattle.cfg_walk.specs.Code.{IsCodeOf}
use Rattle.cfg_walk.specs.Machine.{Takes}
use Rattle.flag_use.specs.declared.flag.Flag.{Flag}
use Rattle.flag_use.specs.Instructions.{reads}
use Rattle.flag_use.specs.Paths.{GoesOn, undefined_behind}
use Rattle.flag_use.specs.Faults.{ReadsNoUndefined}

-- a thread begins at the first of the instructions
abbrev pub BeginsThread : Program → List Placed → Type 0
BeginsThread program [] = ⊥
BeginsThread program (p ∷ ps) = StandsIn program.entries p.address

-- each instruction is at an address to which a path goes on from the one before it
abbrev pub GoOn : Program → List Placed → Type 0
GoOn program [] = Unit {0}
GoOn program (p ∷ []) = Unit {0}
GoOn program (p ∷ q ∷ ps) = GoesOn program p q.address × GoOn program (q ∷ ps)

-- these placed instructions, one after another, are a path
pub record ArePath (program : Program) (ps : List Placed) : Type 0 where
  pub placed : AllByRecursion (IsPlaced program) ps
  pub begins : BeginsThread program ps
  pub go_on : GoOn program ps

-- whether a flag is undefined behind instructions that are taken one after another, from whether it was before
abbrev pub undefined_after : Flag → List Placed → (was : Bool) → Bool
undefined_after flag [] was = was
undefined_after flag (p ∷ ps) was = undefined_after flag ps (undefined_behind flag p.instr was)

-- a flag that one of the instructions reads is defined behind those before it; at first it is defined
abbrev pub ReadDefined : List Placed → Type 0
ReadDefined ps = (before : List Placed) (p : Placed) (behind : List Placed) (flag : Flag) → ps ≡ before ++ p ∷ behind
    → reads flag p.instr ≡ true → undefined_after flag before false ≡ false

-- the addresses, one after another, are a path, and no instruction on it reads a flag that this path leaves undefined
pub record IsPathOfDefined (program : Program) (addresses : List ℕ) : Type 0 where
  pub ps : List Placed
  pub at : addresses ≡ map (λ (p : Placed). p.address) ps
  pub path : ArePath program ps
  pub defined : ReadDefined ps

-- Where no instruction reads an undefined flag, the addresses that a run of a thread from an entry takes, one after another,
-- are a path, and no instruction on it reads a flag that this path leaves undefined.
abbrev pub RunsArePaths : Type 0
RunsArePaths = (program : Program) (code : Code) → AllByRecursion IsSegment program.parts → IsCodeOf program code
    → ReadsNoUndefined program
    → (may : Permission) (s : Thread) → StandsIn program.entries s.at
    → (addresses : List ℕ) (items : List Item) (end : End) (n : ℕ) → Takes may code s addresses items end n
    → IsPathOfDefined program addresses
