pub mod Table
pub mod Given
pub mod Spelled
pub mod Asked
pub mod PartsAsked
pub mod inside
