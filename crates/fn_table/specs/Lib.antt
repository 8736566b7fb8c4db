pub mod Dates
pub mod Texts
pub mod Table
pub mod Laws
