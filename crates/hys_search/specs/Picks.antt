-- What the two pickers answer.
use Rattle.std.specs.Prelude.{ℕ, ◌<◌, ◌≤◌, List, get_or}
use Rattle.hys_number.specs.Number.{Number}
use Rattle.hys_number.specs.Ops.{◌≤ₙ◌, ◌<ₙ◌, whole}
use Rattle.hys_search.specs.declared.nodes.Waiting.{Waiting}

abbrev pub no_entry : Waiting
no_entry = record { depth = 0; bound = whole 0 }

abbrev pub bound_in : List Waiting → ℕ → Number
bound_in ws k = (get_or ws k no_entry).bound

abbrev pub depth_in : List Waiting → ℕ → ℕ
depth_in ws k = (get_or ws k no_entry).depth

-- the first of least bound among the first n
pub record IsLeastOf (ws : List Waiting) (n b : ℕ) : Type 0 where
  pub there : b < n
  pub least : (k : ℕ) → k < n → bound_in ws b ≤ₙ bound_in ws k
  pub first : (k : ℕ) → k < b → bound_in ws b <ₙ bound_in ws k

-- the last of greatest depth among the first n
pub record IsDeepestOf (ws : List Waiting) (n d : ℕ) : Type 0 where
  pub there : d < n
  pub deepest : (k : ℕ) → k < n → depth_in ws k ≤ depth_in ws d
  pub last : (k : ℕ) → d < k → k < n → depth_in ws k < depth_in ws d
