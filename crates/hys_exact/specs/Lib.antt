pub mod Automata
pub mod Columns
pub mod Parts
pub mod Labels
pub mod Built
pub mod Sound
pub mod Example
