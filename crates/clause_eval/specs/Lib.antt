pub mod Carrying
pub mod Frames
pub mod Grouping
pub mod NarrowRuns
pub mod OneByOne
pub mod Ordering
pub mod Positions
pub mod Waits
