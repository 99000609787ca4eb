-- What is known of a program's code once no fault is left.
use Rattle.std.specs.Prelude.{◌≡◌, ℕ, List}
use Rattle.x64_syntax.specs.declared.placed.Placed.{Placed}
use Rattle.code_at.specs.Code.{Program}
use Rattle.jump_table.specs.declared.entries.Table.{Table}
use Rattle.jump_table.specs.Pattern.{Begins}
use Rattle.cfg_walk.specs.Reach.{IsReached, IsPlaced}
use Rattle.cfg_walk.specs.Faults.{IsOverlapping}
use Rattle.cfg_walk.specs.Code.{AreInstructions}

-- these are the placed instructions; one stands at each reached address, none begins inside another, and no table is jumped through
pub record IsKnown (program : Program) (placed : List Placed) : Type 0 where
  pub instructions : AreInstructions program placed
  pub whole : (a : ℕ) → IsReached program a → (p : Placed) × IsPlaced program p × (p.address ≡ a)
  pub apart : (a : ℕ) → IsOverlapping program a → ⊥
  pub no_table : (a : ℕ) (table : Table) → IsReached program a → Begins program a table → ⊥
