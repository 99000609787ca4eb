pub mod Carried
pub mod Endings
pub mod PlanLemmas
pub mod RoundLemmas
