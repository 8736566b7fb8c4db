mod Gathering
mod Clashing
pub mod Reading
