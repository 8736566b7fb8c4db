mod Arguments
mod Covering
mod NotTold
mod Leading
mod Locals
mod Placing
mod Rows
pub mod Walking
mod Besides
mod Tables
mod NamesRead
