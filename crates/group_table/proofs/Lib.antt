mod Appearances
mod Merges
pub mod SameKeys
pub mod RowJoins
pub mod GroupTables
mod CodeRows
mod CodeGroups
