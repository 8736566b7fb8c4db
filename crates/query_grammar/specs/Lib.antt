pub mod Classes
pub mod Named
pub mod Nodes
pub mod Languages
pub mod Grammar
pub mod Words
pub mod Texts
pub mod Laws
