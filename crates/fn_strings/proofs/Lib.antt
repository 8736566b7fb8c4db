pub mod Cuts
pub mod Checked
pub mod PositionLemmas
pub mod SearchLemmas
pub mod PieceLemmas
pub mod Tables
