mod Meaning
mod Selectable
mod Lifted
mod Recovered
pub mod CallerLemmas
