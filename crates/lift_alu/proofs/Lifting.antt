-- The steps of one instruction, whose costs are counted.
use Rattle.std.proofs.Common.{◌≡◌, ℕ, true, []}
use Rattle.behavior.specs.Tree.{◌then◌}
use Rattle.behavior.specs.Leaving.{SameLeft}
use Rattle.behavior.specs.Seen.{placed_full}
use Rattle.behavior.specs.Kept.{SameNext}
use Rattle.x64_syntax.specs.Formed.{IsFormed, IsFlowOf}
use Rattle.x64_syntax.specs.declared.placed.Placed.{Placed}
use Rattle.x64_table.specs.Blocks.{goes_on, x64_block}
use Rattle.x64_table.specs.Rows.{row_of}
use Rattle.limm_ir.specs.Costs.{fenced_cost}
use Rattle.limm_ir.proofs.CallerLemmas.{keeps_counted}
use Rattle.lift_alu.specs.Built.{is_lifted}
use Rattle.lift_alu.specs.Lifted.{lifts_with}
use Rattle.lift_alu.specs.Meant.{SameThread, after, end_of, LiftsInstr}
use Rattle.lift_alu.proofs.Meaning.{lifts_mean}
use Rattle.lift_alu.proofs.Selectable.{lifts_most}

-- they do what the instruction does, which is begun once
pub lifts_counted : (p : Placed) (temps : ℕ) → IsFormed p.instr → is_lifted p.instr ≡ true → IsFlowOf p.instr p.flow
    → LiftsInstr 62 p temps (lifts_with p.address (after p) p.flow p.instr temps)
lifts_counted p temps formed lifted flows may table s i at same =
    keeps_counted fenced_cost may placed_full 62 (SameNext (SameLeft SameThread)) (row_of may p.instr p.length p.flow s then goes_on table (x64_block may table []))
    (lifts_with p.address (after p) p.flow p.instr temps) (end_of p temps) i (lifts_most p.address (after p) temps p.flow p.instr formed lifted flows)
    (lifts_mean p temps formed lifted flows may table s i at same)
