pub mod Cut
pub mod PairText
pub mod StringBytes
