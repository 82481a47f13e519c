-- Notes on these proofs.
-- Judging: lists of checks, one behind the other, and a loop over one (what is still to be judged from here on fails
-- first where the whole does). Recording: the records that take a text to its end are all that `csv` has of it.
-- Running: transitions, one more at their end. Texting: fields after commas. Only: two runs are the same.
-- A call that is given `&vector` speaks of what is lent. The lemmas that end in `_answer` take it as a variable with an
-- equation (`deref.ensures.value`, and the clause of the call that made the vector behind it), and the answer with its
-- want of memory; `rw` doesn't find a vector within `GivenWhere`, and what stands under `match Err(Stop(stop))` is
-- carried by `field-0-is`.
pub mod Judging
pub mod Recording
pub mod Counting
pub mod Starting
pub mod Columning
pub mod Placing
pub mod Texting
pub mod Running
pub mod Only
pub mod Tanks
