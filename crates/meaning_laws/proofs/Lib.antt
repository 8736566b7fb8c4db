mod Alike
mod AlikeParts
mod AlikeRows
mod AlikeClauses
mod Calling
pub mod Finding
pub mod Streams
mod Libraries
pub mod Standing
pub mod Naming
pub mod Beside
mod Slots
mod Sight
mod SightParts
mod SightClauses
pub mod Widths
pub mod Accepted
mod Counting
pub mod Once
pub mod Planned
