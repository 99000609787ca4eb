pub mod Threads
pub mod Executions
pub mod Explained
pub mod Plan
pub mod Faults
pub mod Carries
pub mod Defined
pub mod Barriers
