pub mod Outside
pub mod Entries
pub mod InMemory
pub mod Counts
