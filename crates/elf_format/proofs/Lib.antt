pub mod SymbolSteps
pub mod CallerLemmas
