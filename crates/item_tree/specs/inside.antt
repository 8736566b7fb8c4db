-- How contracts of private functions see the code. No reader of the language, and no caller,
-- needs these.
pub mod Written
pub mod StrBytes
pub mod DateOrder
pub mod Held
pub mod HeldPairs
pub mod SameValues
pub mod Words
