pub mod Block
pub mod Recovered
