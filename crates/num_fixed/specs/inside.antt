pub mod Digits
pub mod Reads
pub mod Spells
