pub mod Bytes
pub mod Words
pub mod Pieces
pub mod Cut
pub mod Reading
pub mod Spaced
pub mod Named
