pub mod Texts
pub mod Sums
pub mod Values
pub mod Laws
pub mod inside
