pub mod Order
pub mod Links
pub mod Walk
