pub mod Reach
pub mod Nodes
pub mod Sources
pub mod Searching
pub mod Rows
pub mod Spans
pub mod Backwards
pub mod Turning
