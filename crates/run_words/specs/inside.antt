-- How the contracts of private functions see the code. No caller needs these.
pub mod Command
pub mod Marks
pub mod Numbers
pub mod Asking
