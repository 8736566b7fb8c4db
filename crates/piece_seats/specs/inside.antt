-- How contracts of private functions see the code.
pub mod Found
pub mod Sums
