pub mod Allocated
pub mod Uses
pub mod Slots
pub mod Scan
