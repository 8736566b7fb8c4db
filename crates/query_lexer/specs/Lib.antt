pub mod Bytes
pub mod Words
pub mod Comments
pub mod Nesting
pub mod Lexes
pub mod Scan
pub mod Laws
