pub mod Bits
pub mod Marks
pub mod Unpacked
pub mod Theorems
