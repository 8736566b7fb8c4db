pub mod Basics
pub mod Steps
pub mod Orders
mod Knowing
pub mod Enough
pub mod Ends
pub mod Tuples
pub mod Limits
