pub mod Groups
pub mod Grouping
pub mod Laws
pub mod inside
