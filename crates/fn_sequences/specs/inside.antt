-- How contracts of private functions see the code. No reader of the language, and no caller,
-- needs these.
pub mod Places
