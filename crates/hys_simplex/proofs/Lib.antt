-- Notes on how this crate is proved: forms that worked, and traps.
-- - Ranges of all variables as `lower` and `upper : Option` make columns and slacks one case in every definition.
--   A Boolean test with soundness lemmas (proofs/Decide) proves concrete pivots by `refl`, five pivots deep in
--   seconds; a path is refuted by `one_rule`, `inside_not_off` or `movable`.
-- - A table in memory equals a tableau of functions only at its places: keep `IsAlike` as the invariant and
--   transport by `alike_say`.
-- - A table in place: free functions on `&mut [Frac]`, clauses over `cell_at list width i j`, `IsWritten` and
--   `IsUpTo` as loop invariants; then the loops prove with no answer. Sparse terms into a dense row: from last to
--   first, with `coefficient (drop left terms)`.
-- - That a stored `Frac` fits isn't known while the value is closed: read `num()` and `den()` in a helper, and
--   keep `AllFit` in the model's invariant.
-- - Trap: `as_mut_slice` of a field leaves `(with_items v new).items`: `with_items_is`. `v[i]` says `result ≡
--   get_or v i result`: move the default. `checked_mul` ensures a pair.
pub mod Same
pub mod Relations
pub mod Pivots
pub mod Rows
pub mod Places
pub mod Status
pub mod Lex
pub mod Edges
pub mod Rising
pub mod Ruled
pub mod Ratios
pub mod Measure
pub mod Chain
pub mod Paths
pub mod Never
pub mod Ranges
pub mod Rules
pub mod Runs
pub mod Pairs
pub mod Stranded
pub mod NodePaths
pub mod Decide
pub mod WorkedPaths
pub mod One
pub mod Alike
pub mod AlikeRules
pub mod Points
pub mod Shown
pub mod UpwardPath
pub mod Shows
pub mod Pins
pub mod WorkedUnfit
