pub mod Files
pub mod Merged
pub mod Found
pub mod Leaves
pub mod Seen
pub mod Laws
pub mod inside
