pub mod SegmentLemmas
pub mod SectionLemmas
pub mod NameLemmas
pub mod ListedLemmas
pub mod ListingLemmas
pub mod FaultLemmas
pub mod ProgramLemmas
pub mod CallerLemmas
