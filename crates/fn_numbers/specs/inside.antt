-- How the contracts of private functions see the code. No reader of the language, and no caller,
-- needs these.
pub mod Steps
pub mod Tallies
pub mod Counted
pub mod Candidates
