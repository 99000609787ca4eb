pub mod ArmWords
pub mod Bits
pub mod Laws
pub mod Masks
pub mod Signed
pub mod Turns
pub mod Width
