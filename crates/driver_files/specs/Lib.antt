pub mod Counts
pub mod Seats
pub mod Driver
pub mod Together
pub mod Laws
pub mod inside
