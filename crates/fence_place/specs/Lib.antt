pub mod Marked
pub mod Fenced
