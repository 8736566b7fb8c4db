mod BoundRows
mod CallRows
mod Calling
mod CompiledFrames
pub mod Folds
mod Framed
mod Frames
pub mod Held
pub mod Layers
pub mod Lists
mod Maps
mod Naming
mod NestingLaws
pub mod NestingLists
mod NestingRows
mod Seen
pub mod Sharing
pub mod SlotNumbers
pub mod Slotting
mod SpineLaws
mod SpineRows
pub mod Telling
pub mod Waits
mod Walking
