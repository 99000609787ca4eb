pub mod Maps
pub mod Needs
pub mod Laws
