pub mod CallerLemmas
mod Views
mod Unfenced
mod Counted
mod Planned
mod Meaning
mod Barriers
mod Followed
mod Ended
mod Dressed
