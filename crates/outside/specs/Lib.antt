pub mod Counted
pub mod Opens
pub mod World
pub mod InMemory
pub mod AfterCalls
pub mod Outputs
pub mod MemOutputs
pub mod inside
