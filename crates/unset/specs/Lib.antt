pub mod Path
pub mod Answer
pub mod Bits
pub mod Uses
pub mod Search
pub mod Finding
pub mod Theorems
