pub mod System
pub mod Solution
pub mod Exact
pub mod Sum
