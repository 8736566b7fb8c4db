pub mod ArrayLists
pub mod PairLists
pub mod Places
pub mod Puts
pub mod TextOrder
pub mod EqualLists
pub mod Emptiness
pub mod LastZeros
pub mod AtomTexts
pub mod AtomOrder
pub mod Members
pub mod DeepEquality
pub mod AsciiTexts
pub mod FunctionNames
mod DecimalDigits
mod ShortTexts
mod FrontLanes
mod StringRows
mod TextRows
mod DayNumbers
pub mod DateTexts
mod DateRows
mod KeyOrder
mod SameValues
mod Letting
pub mod Crossing
