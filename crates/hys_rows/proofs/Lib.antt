pub mod Moving
pub mod Adding
pub mod Placing
pub mod Meaning
pub mod Whole
pub mod Worked
pub mod Trying
