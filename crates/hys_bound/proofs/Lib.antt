-- Notes on how this crate is proved: forms that worked, and traps.
-- - `Onward` (Turns): what is left to be found from here gives what is to be found from the start.
-- - That intervals hold the numbers (Holding) is an induction along the order; what is known at each turn is of the
--   names that are taken and of those that aren't auxiliaries (`AreInside`), so that the range of a form asks only
--   for the columns that it has (`form_within`), and none for a name that the order hasn't reached.
-- - A property of the name at a place is `NameAt names n P`; two at one place are joined by `name_both`.
-- - Trap: a slice got twice is two steps (`c.as_slice`, `c.as_slice-2`): collect their equations in one lemma.
pub mod Turns
pub mod Holding
pub mod Fixing
pub mod Example
