pub mod Scopes
pub mod Functions
pub mod inside
