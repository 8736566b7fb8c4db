pub mod Words
pub mod Spine
pub mod Drivers
pub mod Clauses
pub mod Plans
pub mod Beside
pub mod inside
pub mod Laws
