pub mod Operands
pub mod Uses
pub mod Bodies
pub mod Frames
pub mod Marks
pub mod Lists
