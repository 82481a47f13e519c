-- Notes on how this crate is proved.
pub mod Listing
pub mod Standings
pub mod Judging
pub mod Raising
pub mod Comparing
pub mod Values
pub mod Summed
pub mod Multiplying
pub mod Nodes
pub mod Finishing
pub mod Goings
pub mod Ends
pub mod Solved
pub mod Lawful
pub mod Bounded
pub mod Samples
