pub mod Literals
pub mod Rows
pub mod Tables
pub mod Meanings
pub mod Uses
