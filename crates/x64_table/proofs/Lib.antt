pub mod AllowedLemmas
pub mod CallerLemmas
pub mod MachineLemmas
pub mod OpenLemmas
mod OperandLemmas
mod PermissionLemmas
pub mod ShapeLemmas
pub mod Shapes
pub mod WantsLemmas
mod StateLemmas
