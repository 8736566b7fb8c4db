pub mod ListLemmas
pub mod KeyLemmas
pub mod ChoiceLemmas
pub mod NestingLemmas
pub mod GroupLemmas
mod Rows
