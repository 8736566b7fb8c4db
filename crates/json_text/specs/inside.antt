-- How a reader goes through a text. Nothing here is part of what a text is or what a line of it
-- reads as: the law `reading_is_exact` says that it is the same.
pub mod Scan
pub mod Machine
pub mod Build
pub mod Fits
