pub mod Given
mod Rows
mod Each
mod Pieces
mod Alike
mod AlikeParts
mod AlikeRows
mod AlikeClauses
mod Finding
