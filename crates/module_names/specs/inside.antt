-- How the code goes about it.
pub mod Next
pub mod Order
pub mod Faults
pub mod Wanted
pub mod Advance
