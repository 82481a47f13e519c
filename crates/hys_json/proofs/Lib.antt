-- A loop that gathers what holds of each part: "if it holds of what is left it holds of all" (Fitted).
pub mod Readings
pub mod Judging
pub mod Items
pub mod Passing
pub mod Fitted
pub mod Plain
pub mod Pieces
