-- Written by tools/query_rows.py.
mod Literals
mod Arithmetic
mod Comparisons
mod Logic
mod Texts
mod Ranges
mod Types
mod Paths
mod Constructors
mod Choices
mod Functions
mod Inputs
mod Flwors
mod Groups
mod Orders
mod Depths
