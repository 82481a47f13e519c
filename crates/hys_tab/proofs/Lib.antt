-- Notes on how this crate is proved.
-- - Loops write lists of cells; their clauses are over `cell_at list width i j` and named in specs/Cells.
-- - Where a lemma speaks of a table, a second one (`.._in`) takes lists and sizes under other names with equations;
--   answers give these from `as_slice`, `len` and `view_is`.
-- - A changed number in a loop goes through a helper on `&mut Vec` with clauses `there` and `others`, not an `if` in
--   the loop: then one lemma over plain variables proves a turn.
-- - That `vec![in alloc; x; n]` is n times x: `items_if_clones_equal (λ y e. e)` and `get_or-replicate`.
-- - No more multipliers than columns: count the columns whose variable comes before the slack of row i.
pub mod Steps
pub mod Placing
pub mod Tables
pub mod Slacks
pub mod Multiplied
