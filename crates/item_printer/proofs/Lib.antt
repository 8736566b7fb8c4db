pub mod Cuts
pub mod ShortNumbers
pub mod ItemLists
pub mod Stops
pub mod StringTexts
