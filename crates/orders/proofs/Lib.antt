pub mod Addresses
pub mod Generals
pub mod Passing
pub mod Ranges
pub mod Table
pub mod Unindexed
