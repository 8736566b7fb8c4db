pub mod Came
pub mod Counting
pub mod Outcomes
pub mod Orders
