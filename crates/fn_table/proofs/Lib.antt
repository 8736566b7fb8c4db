pub mod DayLemmas
mod Rows
