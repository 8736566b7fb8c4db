-- How the code goes about it.
pub mod Puts
pub mod Joins
pub mod KeyParts
pub mod Places
pub mod Views
