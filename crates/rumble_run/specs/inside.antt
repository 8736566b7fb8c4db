-- How the contracts of private functions see the code. None of it is part of what the answer is.
pub mod Cuts
pub mod Computed
pub mod Reads
pub mod Held
pub mod Decided
pub mod Seen
pub mod Printing
pub mod LoneInput
pub mod Parted
pub mod Caught
pub mod LeafCounts
pub mod Walked
pub mod Driving
pub mod Along
