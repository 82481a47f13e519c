-- Notes on how this crate is proved. Tests are lists, and a verdict that of the first that fails; lists one behind the
-- other go by `passes_then` and `failed_first` (Verdicts). That all tests pass is taken apart place by place (Leaves,
-- Points), and for the tree by trees one behind the other, as many as there are paths still to come (Trees). The code
-- keeps one path; the paths to come lie at 1 below its fixings at 0 (Walks).
pub mod Verdicts
pub mod Comparing
pub mod Leaves
pub mod Trees
pub mod Points
pub mod Shown
pub mod Walks
pub mod Loops
pub mod Bounds
pub mod Rows
