pub mod Faults
pub mod Layouts
pub mod Memories
pub mod Replays
pub mod Threads
pub mod Values
pub mod Walking
