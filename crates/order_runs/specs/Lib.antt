pub mod Orders
pub mod Clashes
pub mod Seen
pub mod Runs
pub mod Laws
pub mod inside
