pub mod Places
pub mod Enough
pub mod Faults
pub mod Laws
