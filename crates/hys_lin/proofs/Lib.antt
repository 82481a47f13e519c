pub mod Merging
pub mod Multiples
pub mod Ranging
pub mod Summing
pub mod Lists
pub mod Stated
pub mod Examples
