-- What callers cite, by the goal that it serves. Each lemma's line of meaning stands where it is proved. Declares nothing.

-- runs with planned fences are guarded
pub use Rattle.fence_plan.proofs.PlannedRuns.{planned_guards}
-- and between accesses of guarded items stand the fences of the mapping, and a full barrier where an MFENCE stands
pub use Rattle.fence_plan.proofs.Mapping.{Mapping, IsNextPair}
pub use Rattle.fence_plan.proofs.Between.{mapped, full_at_mfence}
-- the barriers of a run that follows another
pub use Rattle.fence_plan.proofs.Views.{is_hidden, same_between}
-- a run without its planned fences
pub use Rattle.fence_plan.proofs.Bare.{bare, run_bare}
-- a thread's run that follows the plan, beside what explains it
pub use Rattle.fence_plan.proofs.Followed.{turn_is, IsPlannedFor, followed_mapping, followed_full}
-- runs follow the plan where blocks do
pub use Rattle.fence_plan.proofs.ByBlocks.{UnfoldsWithin, within-ends, within-goes, within-begins, within-acts, StopsAlike, MayMiss, FollowsBlock, BlocksFollow, blocks_follow}
-- a path with planned fences
pub use Rattle.fence_plan.proofs.Dressing.{at_left, path_dressed}
