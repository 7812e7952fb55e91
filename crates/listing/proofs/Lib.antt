-- The laws that the crate's proofs share.
pub mod Answers
pub mod Appends
pub mod Decimals
pub mod Theorems
pub mod Words
