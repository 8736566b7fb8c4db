pub mod Crossing
mod LinesBefore
pub mod SeatsStay
mod Sums
mod Texts
