pub mod CasedLemmas
pub mod LocationLemmas
pub mod StepLemmas
pub mod MakingLemmas
pub mod ChildrenLemmas
pub mod SeenLemmas
