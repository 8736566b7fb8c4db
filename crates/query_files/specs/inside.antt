-- How the contracts of private functions see the code.
pub mod Grown
pub mod Loads
pub mod Places
