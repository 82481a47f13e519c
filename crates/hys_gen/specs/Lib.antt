pub mod Requested
pub mod Tanks
pub mod Worked
