-- The laws of the reader.
mod Same
mod Tested
mod Digits
mod DigitTable
mod Names
mod Slots
mod Decimals
mod Lines
mod Answers
mod Parsed
mod Forms
mod Cells
mod Marks
mod Staging
mod Widths
mod Walking
mod Readings
mod Passing
pub mod Laws
mod Numbers
pub mod Packed
pub mod Theorems
pub mod Unindexed
