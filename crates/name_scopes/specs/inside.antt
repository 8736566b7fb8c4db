-- How the code goes about it.
pub mod Stacks
pub mod Places
pub mod Firsts
