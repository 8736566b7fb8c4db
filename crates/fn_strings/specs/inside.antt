pub mod Atomics
pub mod Around
pub mod Positions
