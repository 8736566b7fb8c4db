pub mod Runs
pub mod Stages
pub mod Pieces
pub mod Ends
pub mod Laws
pub mod Limits
pub mod Tuples
