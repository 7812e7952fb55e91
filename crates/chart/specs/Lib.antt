pub mod Chart
pub mod Piece
pub mod Block
pub mod Writing
pub mod Theorems
