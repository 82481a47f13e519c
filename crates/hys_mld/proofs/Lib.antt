pub mod Free
pub mod Sorts
pub mod Defining
pub mod FreshColumns
pub mod Counting
pub mod Growing
pub mod Sizing
pub mod Keeping
