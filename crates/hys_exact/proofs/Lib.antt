-- Notes on these proofs.
-- One equivalence carries the theorem: a solution that begins with a state and an input is the encoding of the one
-- valued assignment, under which each item is met; and the encoding of a legal step is a solution. No step is built:
-- that there is one assignment, and no other, is hys_prog's.
-- The order of definition is needed for one thing alone, that a solution has the numbers of the valued assignment
-- (Along): what an item mentions agrees, so it lies in its interval, so the item's rows give its case, which has one
-- number. Don't go by prefixes of the solution: columns stand by declaration and rows by item.
-- A list with an entry for each column is `spread front behind f middle` (Places); columns and solutions both are, so
-- one look-up and one extensionality serve both.
-- What is given for names by a test is `of_each`; with the identity on places it is a list of places, and maps, filters
-- and tests of it are lemmas of three lines (Names).
-- A module with the program, its order and the built system as parameters keeps statements short; inside it write
-- `abbrev` for what has to compute.
-- Names differ by ranks: texts of names whose rank is below n, then those of rank n; fresh names between (Distinct).
-- The intervals of real auxiliaries hold a number, since the low ends of the boxes have a valued assignment (Lawful).
pub mod Places
pub mod Names
pub mod Columns
pub mod Placing
pub mod Parts
pub mod Texts
pub mod Moving
pub mod Along
pub mod Given
pub mod Exactness
pub mod Sizes
pub mod Distinct
pub mod Lawful
pub mod Example
