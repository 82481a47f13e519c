pub mod Costs
pub mod Fixed
pub mod Gathered
pub mod Listed
pub mod Summing
