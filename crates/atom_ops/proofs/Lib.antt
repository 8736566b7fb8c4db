pub mod ToldLemmas
pub mod OperandLemmas
pub mod RangeLemmas
pub mod TextLemmas
pub mod CastLemmas
pub mod PlainTexts
