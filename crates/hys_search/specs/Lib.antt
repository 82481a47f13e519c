pub mod Branching
pub mod Outcome
pub mod Nodes
pub mod Standings
pub mod Core
pub mod Places
pub mod Answers
pub mod Picks
