pub mod StepLemmas
pub mod FormLemmas
pub mod EntryLemmas
pub mod OrderLemmas
pub mod BranchLemmas
pub mod OneTable
pub mod OneJump
pub mod CallerLemmas
