-- Notes on how this crate is proved: forms that worked, and traps.
-- - Lawful takes the checks of a value apart, Again puts those of a written value together; both go piece by piece.
-- - A record's field can't have the name of one of its parameters, and `Met` is a module's name already.
-- - A written text is read item by item: the guess has no clause, Kept says what the tried rules give, and the clause
--   `reads` of write_system does the rest (Guessed).
-- - The view of a `Value` that is made in place doesn't compute: a function of its own makes it (`text_value`).
-- - Of a chain of writes each equation is a premise of one lemma over plain variables (Written.put_together), since a
--   `_` before a `++` isn't determined.
pub mod Fronts
pub mod Outcomes
pub mod Floats
pub mod Pieces
pub mod Plain
pub mod Distinct
pub mod Lawful
pub mod OneAnswer
pub mod Known
pub mod Blank
pub mod Again
pub mod Depths
pub mod Written
pub mod Kept
pub mod Guessed
