pub mod Digits
pub mod Text
pub mod Listing
pub mod Theorems
