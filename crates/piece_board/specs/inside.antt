-- How contracts of private functions see the code.
pub mod Seen
pub mod Slots
