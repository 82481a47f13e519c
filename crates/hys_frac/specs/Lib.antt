pub mod Compare
pub mod Frac
pub mod Read
pub mod Written
pub use Rattle.hys_base.specs.Differ
pub mod Numerals
