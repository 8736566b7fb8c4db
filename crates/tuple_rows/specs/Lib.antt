pub mod Tuples
pub mod Keys
pub mod Cuts
