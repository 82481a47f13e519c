pub mod Moved
pub mod Items
pub mod Parts
pub mod Numbers
pub mod Adding
pub mod Example
