pub mod Command
pub mod Image
pub mod Plan
pub mod Shape
pub mod Texts
