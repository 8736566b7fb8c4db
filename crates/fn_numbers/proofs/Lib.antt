pub mod TallyLemmas
pub mod BestLemmas
pub mod StepLemmas
pub mod ItemLemmas
pub mod WideLemmas
pub mod FirstLemmas
