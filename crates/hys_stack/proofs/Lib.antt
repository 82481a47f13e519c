-- Notes on how this crate is proved. A stacked list is stated step by step, each_step t n, and a loop keeps that what is
-- done and what is still to come are the whole (Steps). A reader answers the first fault of nested or_else (Judging).
pub mod Steps
pub mod Blocks
pub mod Chains
pub mod Parts
pub mod Runs
pub mod Costs
pub mod Problems
pub mod OneToOne
pub mod Stacked
pub mod Examples
pub mod Judging
pub mod Lawful
pub mod Outcomes
pub mod OneAnswer
pub mod Sampled
