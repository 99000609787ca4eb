pub mod Operands
pub mod Formed
pub mod Slots
