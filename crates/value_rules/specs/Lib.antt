pub mod Operands
pub mod Results
pub mod Numbers
pub mod Sequences
pub mod Objects
pub mod Strings
pub mod Arguments
