-- How the code sees plans.
pub mod Views
pub mod Walk
pub mod Calls
pub mod Tables
