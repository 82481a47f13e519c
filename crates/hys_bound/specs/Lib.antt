pub mod Ranges
pub mod Answers
pub mod Values
pub mod Fixed
pub mod Example
