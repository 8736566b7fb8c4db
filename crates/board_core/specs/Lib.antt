pub mod Core
pub mod Schedules
pub mod Laws
