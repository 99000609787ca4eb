pub mod Gains
pub mod Lanes
pub mod Numbers
pub mod Bytes
pub mod Gates
pub mod External
pub mod Ordered
pub mod Atomic
