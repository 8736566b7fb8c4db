pub mod Cuts
pub mod Pieces
pub mod Laws
pub mod Faults
pub mod inside
