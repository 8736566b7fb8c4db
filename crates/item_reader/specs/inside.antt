-- How the contracts of functions see the code. None of it is part of what a line or an input
-- reads as.
pub mod Items
