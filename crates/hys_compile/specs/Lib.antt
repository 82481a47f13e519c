pub mod Automaton
pub mod Faults
pub mod Sources
pub mod Text
