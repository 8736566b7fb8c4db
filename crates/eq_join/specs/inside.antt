-- How the code goes about it.
pub mod Noted
pub mod Places
