pub mod Trail
pub mod Apart
pub mod Unindexed
pub mod Theorems
