pub mod CivilDays
mod DigitTexts
mod TailTexts
mod SaidTexts
pub mod DayRange
mod PrintedTexts
mod TextRows
pub mod ComputedTexts
mod DecidedTexts
pub mod ReadTexts
