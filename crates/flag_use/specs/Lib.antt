pub mod Instructions
pub mod Paths
pub mod Faults
pub mod Runs
pub mod Effects
pub mod Onward
pub mod Walk
