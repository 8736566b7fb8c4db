pub mod Views
pub mod Queries
