pub mod Jump
pub mod Trial
pub mod Stretch
pub mod Answer
pub mod Restore
pub mod Search
pub mod Theorems
