pub mod Form
pub mod Bits
pub mod Bytes
pub mod Theorems
