pub mod Steps
pub mod Ends
pub mod Values
pub mod Drivers
pub mod Laws
pub mod Came
pub mod Results
pub mod InputLines
