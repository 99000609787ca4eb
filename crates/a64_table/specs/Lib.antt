pub mod State
pub mod Values
pub mod Rows
pub mod Answers
pub mod Machine
pub mod Laws
