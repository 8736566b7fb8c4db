pub mod KeyLemmas
pub mod PlaceLemmas
pub mod SameLemmas
mod Rows
