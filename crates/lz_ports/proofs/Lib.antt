pub mod Stored
pub mod CallerLemmas
