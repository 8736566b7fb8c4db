mod Carrying
mod Flags
mod Fronts
mod Grouped
mod Keyed
pub mod Members
mod NarrowRuns
mod Ordered
pub mod Ranges
mod Segments
pub mod Stages
mod Tables
mod ValueSteps
mod Waits
