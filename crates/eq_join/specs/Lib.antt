pub mod Pairs
pub mod Clashes
pub mod Laws
pub mod inside
