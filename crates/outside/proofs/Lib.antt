mod NameLemmas
mod Rows
mod Sinks
mod Slices
