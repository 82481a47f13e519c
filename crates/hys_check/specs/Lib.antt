pub mod Testing
pub mod TreeTests
pub mod ClaimTests
pub mod Verdict
pub mod Summing
pub mod Walk
pub mod Worked
