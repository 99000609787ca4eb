-- What is planned for blocks and counted of them, block by block.
use Rattle.std.specs.Prelude.{◌≡◌, ◌<◌, ℕ, ◌+◌, ◌-◌, Bool, List, length, count_by, flat_map}
use Rattle.x64_syntax.specs.Slots.{placed_slots}
use Rattle.x64_syntax.specs.declared.placed.Placed.{Placed}
use Rattle.x64_syntax.specs.declared.slots.Slot.{Slot}
use Rattle.cfg_walk.specs.declared.code.Block.{Block}
use Rattle.cfg_walk.specs.declared.code.Code.{Code}
use Rattle.fence_plan.specs.declared.gap.Gap.{Gap}
use Rattle.carry_spec.specs.declared.plan.BlockPlan.{BlockPlan}
use Rattle.carry_spec.specs.declared.summary.Summary.{Summary}
use Rattle.carry_spec.specs.Plan.{AreOfEach, block_plans, summary_of}

-- the summary of so many threads that run no block
abbrev pub nothing_of : (threads : ℕ) → Summary
nothing_of threads = record { threads = threads; instructions = 0; blocks = 0; accesses = 0; private = 0; frm = 0; fww = 0; fsc = 0 }

-- how many gaps hold each kind of fence
abbrev pub gap_counts : List Gap → Summary
gap_counts gaps = record (nothing_of 0) {
  frm = count_by (λ (g : Gap). g.frm) gaps;
  fww = count_by (λ (g : Gap). g.fww) gaps;
  fsc = count_by (λ (g : Gap). g.fsc) gaps;
}

-- what is counted of one block with these instructions and this plan
abbrev pub counted : List Placed → BlockPlan → Summary
counted ps plan = record (gap_counts plan.gaps) {
  instructions = length ps;
  blocks = 1;
  accesses = length (flat_map placed_slots ps);
  private = length (flat_map placed_slots ps) - length plan.slots;
}

-- two summaries together
abbrev pub plus : Summary → Summary → Summary
plus a b = record {
  threads = a.threads + b.threads;
  instructions = a.instructions + b.instructions;
  blocks = a.blocks + b.blocks;
  accesses = a.accesses + b.accesses;
  private = a.private + b.private;
  frm = a.frm + b.frm;
  fww = a.fww + b.fww;
  fsc = a.fsc + b.fsc;
}

-- each number of a summary is below this
pub record AreBelow (limit : ℕ) (s : Summary) : Type 0 where
  pub threads : s.threads < limit
  pub instructions : s.instructions < limit
  pub blocks : s.blocks < limit
  pub accesses : s.accesses < limit
  pub private : s.private < limit
  pub frm : s.frm < limit
  pub fww : s.fww < limit
  pub fsc : s.fsc < limit

-- these are the plans of blocks of the code, and the summary of so many threads that run just these blocks
pub record ArePlanned (private : Slot → Bool) (threads : ℕ) (code : Code) (of : List Block) (plans : List BlockPlan) (summary : Summary) : Type 0 where
  pub blocks : List (List Placed)
  pub are : AreOfEach code.placed of blocks
  pub planned : plans ≡ block_plans private of blocks
  pub counted : summary ≡ summary_of private threads blocks
