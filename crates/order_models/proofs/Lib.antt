pub mod Acyclic
pub mod CallerLemmas
pub mod DoorLemmas
pub mod LocalLemmas
