pub mod CallerLemmas
pub mod ConditionLemmas
pub mod EffectLemmas
pub mod LiftLemmas
pub mod QuotientLemmas
pub mod ShiftLemmas
pub mod WordLemmas
