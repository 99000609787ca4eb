-- Instructions that are lifted to one block, and what their steps are.
use Rattle.std.specs.Prelude.{◌≡◌, ℕ, ◌+◌, ◌^◌, ◌<◌, ◌≤◌, true, false, List, [], ◌∷◌, ◌++◌, length}
use Rattle.std.specs.List.{AllByRecursion}
use Rattle.behavior.specs.Acts.{Permission}
use Rattle.behavior.specs.Leaving.{SameLeft}
use Rattle.behavior.specs.Seen.{placed_full}
use Rattle.behavior.specs.Kept.{SameNext, Keeps}
use Rattle.x64_syntax.specs.Formed.{IsFormed, IsFlowOf}
use Rattle.x64_syntax.specs.declared.placed.Placed.{Placed}
use Rattle.x64_table.specs.State.{Thread}
use Rattle.x64_table.specs.Blocks.{x64_block}
use Rattle.cfg_walk.specs.Blocks.{ends_block}
use Rattle.limm_ir.specs.Costs.{fenced_cost}
use Rattle.limm_ir.specs.Steps.{IrState}
use Rattle.limm_ir.specs.Blocks.{ir_block}
use Rattle.limm_ir.specs.declared.block.IrEnd.{IrEnd}
use Rattle.limm_ir.specs.declared.block.IrEnd.TheVariants.{Goto}
use Rattle.limm_ir.specs.declared.step.IrStep.{IrStep}
use Rattle.lift_alu.specs.Built.{is_lifted}
use Rattle.lift_alu.specs.Meant.{SameThread, after, end_of, AreStepsOf}

-- an instruction that is lifted, with its flow
pub record IsLifted (p : Placed) : Type 0 where
  pub formed : IsFormed p.instr
  pub lifted : is_lifted p.instr ≡ true
  pub flows : IsFlowOf p.instr p.flow

-- each instruction begins where the one before ends
abbrev pub Follow : List Placed → Type 0
Follow [] = Unit {0}
Follow (p ∷ []) = Unit {0}
Follow (p ∷ q ∷ ps) = (q.address ≡ after p) × Follow (q ∷ ps)

-- no instruction but the last ends a block
abbrev pub LeadOn : List Placed → Type 0
LeadOn [] = Unit {0}
LeadOn (p ∷ []) = Unit {0}
LeadOn (p ∷ q ∷ ps) = (ends_block p.instr ≡ false) × LeadOn (q ∷ ps)

-- instructions that are lifted as one block: at least one, and no more than there are temporaries for
pub record AreLifted (ps : List Placed) : Type 0 where
  pub some : 0 < length ps
  pub few : length ps ≤ 2 ^ 16
  pub each : AllByRecursion IsLifted ps
  pub follow : Follow ps
  pub lead_on : LeadOn ps

-- where the first of the instructions stands
abbrev pub first_of : List Placed → ℕ
first_of [] = 0
first_of (p ∷ ps) = p.address

-- How the block ends: as its last instruction. Each instruction has 256 temporaries of its own, from `temps` on.
abbrev pub end_from : (temps : ℕ) → List Placed → IrEnd
end_from temps [] = Goto 0
end_from temps (p ∷ []) = end_of p temps
end_from temps (p ∷ q ∷ ps) = end_from (temps + 256) (q ∷ ps)

-- the steps of the instructions, one behind the other
abbrev pub AreStepsFrom : (temps : ℕ) → List Placed → List IrStep → Type 0
AreStepsFrom temps [] steps = steps ≡ []
AreStepsFrom temps (p ∷ ps) steps = (here later : List IrStep) × (steps ≡ here ++ later) × AreStepsOf p temps here × AreStepsFrom (temps + 256) ps later

-- The block does what the instructions do, one behind the other, with their fences. It begins at most 62 instructions for each
-- of them.
abbrev pub LiftsBlock : List Placed → List IrStep → IrEnd → Type 0
LiftsBlock ps steps end = (may : Permission) (table : ℕ) (s : Thread) (i : IrState) → s.at ≡ first_of ps → SameThread s i
    → Keeps placed_full 62 0 (SameNext (SameLeft SameThread)) (x64_block may table ps s) (ir_block fenced_cost may steps end i)
