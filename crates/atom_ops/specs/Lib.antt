pub mod Comparison
pub mod Arithmetic
pub mod Ranges
pub mod Texts
pub mod Casts
pub mod Laws
