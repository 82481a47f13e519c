-- Notes on how this crate is proved: forms that worked, and traps.
-- - A loop that picks the first ready one: the code speaks of its own lists (bitmap, links, cursors), and one bridge
--   leads to the subject's words (Definable). "All before the cursor are taken" survives every later taking.
-- - A relation with what is left as an argument (`Onward`) makes each turn one lemma. `get_or taken n true ≡ false`
--   as "not taken" gives the bound for free; the measure is a recursion on the bitmap (`unset`).
-- - A cycle: `Chain links first ns` with `head_or` splits and joins at `++` in both directions.
-- - One or the other (Total): the loops again on lists with a number of turns, a turn a lemma that takes what
--   follows as a function; the lemmas of the code's loops (`path_more`, `path_end`, `circular`) are all it needs.
pub mod Taken
pub mod Linked
pub mod Rounds
pub mod Definable
pub mod Walked
pub mod Total
