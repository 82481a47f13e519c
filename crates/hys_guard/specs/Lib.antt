pub mod Bits
pub mod Numbers
pub mod Stated
pub mod Set
pub mod Meanings
