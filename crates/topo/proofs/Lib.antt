pub mod CallerLemmas
pub mod Ends
pub mod Linking
pub mod Moves
pub mod Places
pub mod Steps
