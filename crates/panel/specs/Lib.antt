pub mod Back
pub mod Reply
pub mod Explain
pub mod Chart
pub mod Unset
pub mod Stretch
