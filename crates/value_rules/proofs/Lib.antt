pub mod ToldLemmas
mod Rows
pub mod EachLemmas
pub mod FirstLemmas
mod StringRows
