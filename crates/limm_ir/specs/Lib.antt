pub mod Values
pub mod Steps
pub mod Costs
pub mod Blocks
pub mod Conditions
