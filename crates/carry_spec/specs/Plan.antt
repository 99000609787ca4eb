-- The fence plan of a file's code: the gaps of each block, and what is counted of them.
use Rattle.std.specs.Prelude.{◌≡◌, ℕ, Bool, not, List, [], ◌∷◌, ◌++◌, length, filter, flat_map, sum_by, count_by, Option, Some, None, if◌then◌else◌}
use Rattle.ev_graph.specs.Places.{StandsIn}
use Rattle.x64_syntax.specs.declared.instr.Instr.{Instr}
use Rattle.x64_syntax.specs.declared.instr.Instr.TheVariants as instr
use Rattle.x64_syntax.specs.declared.placed.Placed.{Placed}
use Rattle.x64_syntax.specs.declared.slots.Slot.{Slot}
use Rattle.x64_syntax.specs.Slots.{placed_slots}
use Rattle.cfg_walk.specs.declared.code.Block.{Block}
use Rattle.cfg_walk.specs.declared.code.Code.{Code}
use Rattle.cfg_walk.specs.Blocks.{AreOf}
use Rattle.fence_plan.specs.declared.gap.Gap.{Gap}
use Rattle.fence_plan.specs.Gaps.{Station, Shared, Strong, gaps}
use Rattle.fence_plan.specs.Private.{hides}
use Rattle.carry_spec.specs.declared.plan.BlockPlan.{BlockPlan}
use Rattle.carry_spec.specs.declared.summary.Summary.{Summary}

-- a slot counts for the plan unless it is private
abbrev pub station : (private : Slot → Bool) → Slot → List Station
station private slot = if hides private slot then [] else Shared slot.kind ∷ []

-- the full fence that an instruction is, if it is one
abbrev pub strong : Instr → List Station
strong instr.Mfence = Strong ∷ []
strong i = []

-- what counts of an instruction
abbrev pub stations_of : (private : Slot → Bool) → Placed → List Station
stations_of private p = strong p.instr ++ flat_map (station private) (placed_slots p)

-- the gaps of a block with these instructions
abbrev pub block_gaps : (private : Slot → Bool) → List Placed → List Gap
block_gaps private ps = gaps (flat_map (stations_of private) ps)

-- The gaps of the block that begins at an address, if one does.
pub record IsPlan (private : Slot → Bool) (code : Code) (plan : ℕ → Option (List Gap)) : Type 0 where
  pub block : (b : Block) (ps : List Placed) → StandsIn code.blocks b → AreOf code.placed b ps → plan b.first ≡ Some (block_gaps private ps)
  pub none : (a : ℕ) → ((b : Block) → StandsIn code.blocks b → b.first ≡ a → ⊥) → plan a ≡ None

-- these are the instructions of these blocks, block by block
abbrev pub AreOfEach : List Placed → List Block → List (List Placed) → Type 0
AreOfEach placed [] [] = Unit {0}
AreOfEach placed [] (ps ∷ pss) = ⊥
AreOfEach placed (b ∷ bs) [] = ⊥
AreOfEach placed (b ∷ bs) (ps ∷ pss) = AreOf placed b ps × AreOfEach placed bs pss

-- the slots of these instructions that are not private
abbrev pub shared_slots : (private : Slot → Bool) → List Placed → List Slot
shared_slots private ps = filter (λ s. not (hides private s)) (flat_map placed_slots ps)

-- the plan of the block that begins at an address, with these instructions
abbrev pub block_plan : (private : Slot → Bool) → (first : ℕ) → List Placed → BlockPlan
block_plan private first ps = record { first = first; slots = shared_slots private ps; gaps = block_gaps private ps }

-- the plans of blocks with these instructions, block by block
abbrev pub block_plans : (private : Slot → Bool) → List Block → List (List Placed) → List BlockPlan
block_plans private (b ∷ bs) (ps ∷ pss) = block_plan private b.first ps ∷ block_plans private bs pss
block_plans private bs pss = []

-- these are the plans of the blocks of the code, by address
pub record ArePlans (private : Slot → Bool) (code : Code) (plans : List BlockPlan) : Type 0 where
  pub blocks : List (List Placed)
  pub are : AreOfEach code.placed code.blocks blocks
  pub planned : plans ≡ block_plans private code.blocks blocks

-- what is counted of so many threads and of blocks with these instructions
abbrev pub summary_of : (private : Slot → Bool) → (threads : ℕ) → List (List Placed) → Summary
summary_of private threads pss = record {
  threads = threads;
  instructions = sum_by (λ ps. length ps) pss;
  blocks = length pss;
  accesses = sum_by (λ ps. length (flat_map placed_slots ps)) pss;
  private = sum_by (λ ps. count_by (hides private) (flat_map placed_slots ps)) pss;
  frm = sum_by (λ ps. count_by (λ (g : Gap). g.frm) (block_gaps private ps)) pss;
  fww = sum_by (λ ps. count_by (λ (g : Gap). g.fww) (block_gaps private ps)) pss;
  fsc = sum_by (λ ps. count_by (λ (g : Gap). g.fsc) (block_gaps private ps)) pss;
}

-- this is the summary of so many threads that run the code
pub record IsSummary (private : Slot → Bool) (threads : ℕ) (code : Code) (summary : Summary) : Type 0 where
  pub blocks : List (List Placed)
  pub are : AreOfEach code.placed code.blocks blocks
  pub counted : summary ≡ summary_of private threads blocks
