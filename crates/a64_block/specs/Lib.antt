pub mod Registers
pub mod Renamed
pub mod Blocks
pub mod Conditions
pub mod Breaks
pub mod Barriers
