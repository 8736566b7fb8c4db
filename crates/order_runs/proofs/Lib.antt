pub mod StableOrder
mod TotalKeys
mod ColumnClasses
pub mod RowClashes
mod ColumnLists
pub mod RunLists
