pub mod CallerLemmas
mod OpenLemmas
mod StepLemmas
