pub mod Replays
pub mod Suffice
pub mod Taking
