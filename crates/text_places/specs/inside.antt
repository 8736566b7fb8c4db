-- How the contracts of private functions see the code.
pub mod Behind
