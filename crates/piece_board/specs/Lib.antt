pub mod Boards
pub mod Faults
pub mod Trouble
pub mod Whole
pub mod inside
