pub mod Code
pub mod Window
pub mod Kinds
