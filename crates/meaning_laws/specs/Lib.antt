pub mod Agreement
pub mod Laws
pub mod Beside
pub mod Widths
pub mod Accepted
pub mod Once
pub mod Planned
