pub mod Private
pub mod Gaps
pub mod Planned
pub mod Guards
pub mod Realized
pub mod Dressed
