pub mod inside
pub mod Counting
pub mod Seats
pub mod Texts
