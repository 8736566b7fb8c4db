mod Computing
mod Rows
