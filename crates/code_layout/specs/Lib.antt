pub mod Places
pub mod Carried
pub mod Conditions
pub mod Barriers
pub mod Search
pub mod Code
