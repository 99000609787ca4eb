-- Blocks of words that the passes made of blocks of recovered code, where some slots are private.
use Rattle.std.specs.Prelude.{◌≡◌, ◌≢◌, ◌≤◌, ℕ, List, length, flat_map, map, sum_by}
use Rattle.std.specs.List.{AllByRecursion}
use Rattle.ev_graph.specs.Places.{StandsIn}
use Rattle.ev_graph.specs.declared.events.FenceKind.{FenceKind}
use Rattle.ev_graph.specs.declared.events.TrapKind.TheVariants.{BadAccess}
use Rattle.behavior.specs.Seen.{barrier}
use Rattle.x64_syntax.specs.declared.placed.Placed.{Placed}
use Rattle.x64_syntax.specs.declared.slots.Slot.{Slot}
use Rattle.cfg_walk.specs.declared.code.Block.{Block}
use Rattle.cfg_walk.specs.declared.code.Code.{Code}
use Rattle.cfg_walk.specs.Blocks.{AreOf}
use Rattle.cfg_walk.specs.Running.{IsBegun}
use Rattle.limm_ir.specs.declared.block.IrEnd.{IrEnd}
use Rattle.limm_ir.specs.declared.step.IrStep.{IrStep}
use Rattle.lift_alu.specs.Meant.{most_words}
use Rattle.lift.specs.Block.{LiftsBlock, end_from}
use Rattle.fence_place.specs.Fenced.{KeepsPlaced}
use Rattle.fence_place.specs.Marked.{marked}
use Rattle.fence_plan.specs.Gaps.{fences_of}
use Rattle.fence_plan.specs.declared.gap.Gap.{Gap}
use Rattle.fence_merge.specs.Roles.{stations}
use Rattle.fence_merge.specs.Follows.{FollowsPlanOf}
use Rattle.isel.specs.Groups.{selected_end}
use Rattle.isel.specs.Selected.{MeansSteps}
use Rattle.regalloc.specs.Allocated.{MeansNumbers}
use Rattle.a64_code.specs.declared.instr.XReg.{XReg}
use Rattle.a64_code.specs.declared.instr.A64.{A64}
use Rattle.a64_block.specs.Barriers.{barriers_in}
use Rattle.a64_block.specs.Conditions.{IsLayable}
use Rattle.a64_block.specs.Renamed.{IsRenamedEnd}
use Rattle.a64_block.specs.declared.block.ABlock.{ABlock}
use Rattle.a64_block.specs.declared.block.AEnd.{AEnd}
use Rattle.a64_block.specs.declared.block.AEnd.TheVariants as ends
use Rattle.code_layout.specs.Places.{firsts}
use Rattle.carry_spec.specs.Plan.{stations_of, block_gaps}

-- What the passes say of a block's instructions and its words: each pass keeps the meaning, the steps count for the plan what
-- the instructions count, and the merged steps follow it.
pub record Passes (private : List Slot) (ps : List Placed) (xs : List (A64 XReg)) (fin : AEnd XReg) : Type 0 where
  pub steps : List IrStep
  pub merged : List IrStep
  pub end : IrEnd
  pub words : List (A64 ℕ)
  pub words_end : AEnd ℕ
  pub lifts : LiftsBlock ps steps end
  pub counts : stations private steps ≡ flat_map (stations_of (marked private)) ps
  pub keeps : KeepsPlaced steps merged
  pub follows : FollowsPlanOf private steps merged
  pub selects : MeansSteps merged end words words_end
  pub allocates : MeansNumbers words words_end xs fin

-- the block is no longer than what these instructions may take, and ends as the last of them
pub record IsWithin (ps : List Placed) (b : ABlock XReg) : Type 0 where
  pub few : length b.steps ≤ sum_by most_words ps
  pub end : IsRenamedEnd (selected_end (end_from 0 ps)) b.end

-- the barriers of the fences that gaps hold, in order
abbrev pub gap_barriers : List Gap → List FenceKind
gap_barriers gs = flat_map (λ (g : Gap). map barrier (fences_of g)) gs

-- a block of words that the passes made of a block of the code
pub record IsPassed (private : List Slot) (code : Code) (b : ABlock XReg) : Type 0 where
  pub block : Block
  pub ps : List Placed
  pub known : StandsIn code.blocks block
  pub are : AreOf code.placed block ps
  pub first : block.first ≡ b.first
  pub within : IsWithin ps b
  pub barriers : barriers_in b.steps ≡ gap_barriers (block_gaps (marked private) ps)
  pub passes : Passes private ps b.steps b.end

-- Where a block leads to that ends so, blocks of the code begin. None leads to a table's entries, and none ends by the trap of an
-- access.
abbrev pub LeadsOn : {R : Type 0} → Code → AEnd R → Type 0
LeadsOn code (ends.Goto a) = IsBegun code a
LeadsOn code (ends.Branch r a b) = IsBegun code a × IsBegun code b
LeadsOn code (ends.Return r) = Unit {0}
LeadsOn code (ends.Indexed r table) = ⊥
LeadsOn code (ends.Stop kind) = kind ≢ BadAccess

-- Blocks of words that can be laid out, one for each of these blocks, which the passes made of blocks of the code.
pub record ArePassed (private : List Slot) (code : Code) (of : List Block) (blocks : List (ABlock XReg)) : Type 0 where
  pub begin : firsts blocks ≡ map (λ (b : Block). b.first) of
  pub passed : AllByRecursion (IsPassed private code) blocks
  pub layable : AllByRecursion (λ (b : ABlock XReg). IsLayable b.steps b.end) blocks
  pub leads : AllByRecursion (λ (b : ABlock XReg). LeadsOn code b.end) blocks
