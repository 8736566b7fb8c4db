-- How the code goes about it.
pub mod Follow
pub mod Columns
pub mod Notes
pub mod Kept
pub mod Ranks
