pub mod RangeLemmas
pub mod Shapes
pub mod WordLemmas
pub mod CallerLemmas
