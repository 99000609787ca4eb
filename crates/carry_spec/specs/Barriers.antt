-- The barriers of an image's code, by their kinds.
use Rattle.std.specs.Prelude.{◌≡◌, ℕ, Bool, true, false, List, count_by}
use Rattle.ev_graph.specs.declared.events.FenceKind.{FenceKind}
use Rattle.ev_graph.specs.declared.events.FenceKind.TheVariants.{DmbLd, DmbSt, DmbFull}
use Rattle.x64_syntax.specs.declared.slots.Slot.{Slot}
use Rattle.cfg_walk.specs.declared.code.Code.{Code}
use Rattle.a64_block.specs.Barriers.{spelled_barriers}
use Rattle.carry_spec.specs.declared.summary.Summary.{Summary}
use Rattle.carry_spec.specs.Plan.{IsSummary}

-- DMB ISHLD, which Frm becomes
abbrev pub is_load_barrier : FenceKind → Bool
is_load_barrier DmbLd = true
is_load_barrier kind = false

-- DMB ISHST, which Fww becomes
abbrev pub is_store_barrier : FenceKind → Bool
is_store_barrier DmbSt = true
is_store_barrier kind = false

-- DMB ISH, which Fsc becomes
abbrev pub is_full_barrier : FenceKind → Bool
is_full_barrier DmbFull = true
is_full_barrier kind = false

-- among these words are as many barriers of each kind as the summary counts
pub record HasBarriers (words : List ℕ) (summary : Summary) : Type 0 where
  pub frm : count_by is_load_barrier (spelled_barriers words) ≡ summary.frm
  pub fww : count_by is_store_barrier (spelled_barriers words) ≡ summary.fww
  pub fsc : count_by is_full_barrier (spelled_barriers words) ≡ summary.fsc

-- among these words are as many barriers of each kind as the summary of the code counts, which so many threads run
abbrev pub HasPlannedBarriers : (private : Slot → Bool) → (threads : ℕ) → Code → (words : List ℕ) → Type 0
HasPlannedBarriers private threads code words = (summary : Summary) → IsSummary private threads code summary → HasBarriers words summary
