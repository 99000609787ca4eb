pub mod Entries
pub mod Instructions
pub mod Pattern
pub mod Steps
