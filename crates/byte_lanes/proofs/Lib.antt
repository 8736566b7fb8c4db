pub mod FrontLemmas
pub mod LaneLemmas
pub mod LineLemmas
