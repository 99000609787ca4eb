pub mod Roles
pub mod Merged
pub mod Follows
