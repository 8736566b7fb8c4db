pub mod inside
pub mod Laws
