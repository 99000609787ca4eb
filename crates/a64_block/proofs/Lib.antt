pub mod CallerLemmas
mod SkipLemmas
