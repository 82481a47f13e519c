-- Notes on how this crate is proved. A Boolean state is defined by exactly one item, whose section is that of formulas'
-- truths (BooleanStates); all else is put together from the laws of stacked problems and of trees (Plans).
pub mod BooleanStates
pub mod Plans
