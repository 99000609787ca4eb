pub mod CodeLemmas
pub mod Told
pub mod CallerLemmas
