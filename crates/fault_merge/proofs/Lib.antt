pub mod Lesser
pub mod Reaching
pub mod Finding
