pub mod Desk
pub mod Call
pub mod Number
