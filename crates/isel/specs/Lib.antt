pub mod Selected
pub mod Groups
pub mod LastBits
pub mod Ranges
pub mod Barriers
