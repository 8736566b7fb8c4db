pub mod Productions
pub mod Depths
pub mod Nested
pub mod WordLemmas
pub mod Texts
pub mod Bounds
pub mod OneReading
mod Rows
pub mod Values
pub mod Apart
