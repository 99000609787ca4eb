pub mod Bytes
pub mod Fronts
pub mod Operands
pub mod Table
pub mod Meaning
pub mod Spelling
pub mod Reading
