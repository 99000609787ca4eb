-- What callers cite, by the goal that it serves. Each lemma's line of meaning stands where it is proved. Declares nothing.

-- placed fences change no gap of a block's plan
pub use Rattle.fence_merge.proofs.Planned.{placed_gaps}
-- a block follows the plan where its steps do
pub use Rattle.fence_merge.proofs.Ended.{block_follows}
-- runs with the same accesses in the same places are seen alike with the fences of gaps
pub use Rattle.fence_merge.proofs.Dressed.{IsNoBarrier, same_privacy, same_dressed}
-- where all fences are barriers of Arm, they are seen as they are
pub use Rattle.fence_merge.proofs.Dressed.{IsBarrier, view-lowered}
-- what gaps give is seen, and is fences
pub use Rattle.fence_merge.proofs.Barriers.{view-given, given_fences}
