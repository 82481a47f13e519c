pub mod Checks
pub mod Values
pub mod Shown
pub mod Plain
