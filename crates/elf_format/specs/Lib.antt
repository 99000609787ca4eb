pub mod Bytes
pub mod Fields
pub mod Headers
pub mod Symbols
