-- What the search for reached code keeps true, and what it finds.
use Rattle.std.specs.Prelude.{◌≡◌, ◌≤◌, ◌<◌, ◌⊎◌, ◌↔◌, ℕ, ◌+◌, List, [], map, take, length, slice_get, sum_by, Option, Some, None, IfSome, IsSomeAnd, nat_le, if◌then◌else◌}
use Rattle.ev_graph.specs.Places.{StandsIn, IsDistinct}
use Rattle.x64_syntax.specs.declared.placed.Placed.{Placed}
use Rattle.elf_read.specs.declared.fault.BadCodeKind.{BadCodeKind}
use Rattle.elf_read.specs.declared.fault.CodeFault.{CodeFault}
use Rattle.code_at.specs.Code.{Program, StandsAt, IsBad}
use Rattle.jump_table.specs.declared.entries.Table.{Table}
use Rattle.jump_table.specs.Pattern.{IsToldTable}
use Rattle.cfg_walk.specs.Reach.{IsReached, IsPlaced, HasEntry, entries_of, successors}
use Rattle.cfg_walk.specs.Faults.{IsBadCode, code_limit, weight_with}

-- the address of an instruction
abbrev pub address_of : Placed → ℕ
address_of p = p.address

-- the entries of what is told of an address: of a table, or none
abbrev pub told_entries : Program → Option Table → List ℕ
told_entries program None = []
told_entries program (Some table) = entries_of program table

-- an instruction was found at the address; where it leads is among the nodes, and so is each entry of a table that begins there
pub record IsFound (program : Program) (nodes : List ℕ) (placed : List Placed) (a : ℕ) : Type 0 where
  pub p : Placed
  pub stands : StandsAt program a p
  pub listed : StandsIn placed p
  pub leads : (b : ℕ) → StandsIn (successors p) b → StandsIn nodes b
  pub enters : (b : ℕ) → HasEntry program a b → StandsIn nodes b

-- no instruction stands at the address, and the fault that was kept is at no greater one
pub record IsMissing (program : Program) (bad : Option CodeFault) (a : ℕ) : Type 0 where
  pub kind : BadCodeKind
  pub is_bad : IsBad program a kind
  pub kept : IsSomeAnd bad (λ f. f.address ≤ a)

-- the address counts for so much
pub record Weighs (program : Program) (a n : ℕ) : Type 0 where
  pub table : Option Table
  pub told : IsToldTable program a table
  pub counts : n ≡ weight_with table

-- these addresses count for so much together
pub record AreWeighed (program : Program) (addresses : List ℕ) (total : ℕ) : Type 0 where
  pub weight_of : ℕ → ℕ
  pub each : (a : ℕ) → StandsIn addresses a → Weighs program a (weight_of a)
  pub sum : sum_by weight_of addresses ≡ total

-- The search has come to a place of the nodes. Those before it count for so much together.
pub record IsSearching (program : Program) (nodes : List ℕ) (place total : ℕ) (placed : List Placed) (bad : Option CodeFault) : Type 0 where
  pub reached : (a : ℕ) → StandsIn nodes a → IsReached program a
  pub started : (a : ℕ) → StandsIn program.entries a → StandsIn nodes a
  pub told : (i a : ℕ) → i < place → slice_get nodes i ≡ Some a → IsFound program nodes placed a ⊎ IsMissing program bad a
  pub only : (p : Placed) → StandsIn placed p → IsPlaced program p
  pub along : bad ≡ None → map address_of placed ≡ take place nodes
  pub worst : IfSome bad (IsBadCode program)
  pub within : place ≤ length nodes
  pub weighed : AreWeighed program (take place nodes) total
  pub few : total ≤ code_limit

-- One more node is told of, of which this is told of tables: its instruction is put last and its successors and entries are
-- added, or the lesser fault is kept.
abbrev pub Tells : Program → (table : Option Table) → (nodes : List ℕ) → List Placed → Option CodeFault → (now : List ℕ) → List Placed → Option CodeFault → (place : ℕ) → Type 0
Tells program table nodes placed bad now placed' bad' place =
    (total : ℕ) → IsSearching program nodes place total placed bad → IsDistinct nodes → place < length nodes
    → total + weight_with table ≤ code_limit → IsSearching program now (place + 1) (total + weight_with table) placed' bad'

-- all instructions that are placed, each at an address of its own, and one at each reached address
pub record AreFound (program : Program) (placed : List Placed) : Type 0 where
  pub exact : (p : Placed) → StandsIn placed p ↔ IsPlaced program p
  pub once : IsDistinct (map address_of placed)
  pub whole : (a : ℕ) → IsReached program a → (p : Placed) × IsPlaced program p × (p.address ≡ a)
  pub few : length placed ≤ code_limit

-- of two faults the one at the lesser address
abbrev pub lesser_of : Option CodeFault → CodeFault → CodeFault
lesser_of None fault = fault
lesser_of (Some kept) fault = if nat_le kept.address fault.address then kept else fault
