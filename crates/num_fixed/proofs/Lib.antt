pub mod DigitLemmas
pub mod DivisionLemmas
pub mod FarLemmas
pub mod NearestLemmas
pub mod Outcomes
pub mod Reading
pub mod RoundingLemmas
pub mod ScaleLemmas
pub mod Signs
pub mod TotalLemmas
pub mod TextLemmas
pub mod NumeralLemmas
pub mod FrontLemmas
pub mod LongestFronts
pub mod ShortFronts
pub mod ValueLemmas
mod ValueRows
