pub mod Passed
pub mod Planned
pub mod Translated
