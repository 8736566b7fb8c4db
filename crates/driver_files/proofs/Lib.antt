pub mod Closing
pub mod Opened
pub mod Lengths
pub mod Told
pub mod More
pub mod Rest
pub mod Whole
pub mod Together
