pub mod Cell
pub mod Storage
pub mod Words
pub mod Arithmetic
pub mod Attempt
pub mod Cause
pub mod Unindexed
pub mod Theorems
