pub mod Answer
pub mod Planned
