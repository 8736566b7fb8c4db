pub mod Keeping
pub mod InOrder
pub mod Seeing
pub mod Backward
pub mod Working
pub mod Limits
pub mod Placing
