mod Lines
mod Ranges
