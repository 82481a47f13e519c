-- A walk through the places of a tree with one path: what is still to come lies at 1 below its fixings at 0.
use Rattle.std.specs.Prelude.{List, [], ◌∷◌, ◌++◌, Bool, true, false, cond, Option, Some, None, ℕ, ◌<◌}
use Rattle.hys_number.specs.Number.{Number}
use Rattle.hys_relax.specs.Laws.{child}
use Rattle.hys_relax.specs.declared.fixing.Fixing.{Fixing}
use Rattle.hys_lagrange.specs.Fixed.{AreWithin}
use Rattle.hys_tree.specs.Shows.{Goal, at_least, none}
use Rattle.hys_tree.specs.declared.tree.TreePlace.{TreePlace}
use Rattle.hys_tree.specs.declared.tree.TreePlace.TheVariants.{Inner, Cost, Never}
use Rattle.hys_check.specs.TreeTests.{paths_below}

-- the goal with this least cost, or that there is no solution
abbrev pub goal_by : Option Number → Goal
goal_by None = none
goal_by (Some z) = at_least z

-- for each fixing at 0 of the second list, the path to the other side of its column, the last one first
abbrev pub pending_after : List Fixing → List Fixing → List (List Fixing)
pending_after above [] = []
pending_after above (f ∷ fs) =
    pending_after (above ++ f ∷ []) fs ++ cond f.one [] (child above f.column true ∷ [])

abbrev pub pending : List Fixing → List (List Fixing)
pending path = pending_after [] path

-- the paths that are still to come, the path itself first where it is one of them
abbrev pub paths_with : Bool → List Fixing → List (List Fixing)
paths_with true path = path ∷ pending path
paths_with false path = []

-- the column of an inner place is one of the first n
abbrev pub IsColumnWithin : ℕ → TreePlace → Type 0
IsColumnWithin n (Inner c) = c < n
IsColumnWithin n (Cost m k) = Unit {0}
IsColumnWithin n (Never m k) = Unit {0}

-- the paths that are still to come behind a place with this path
abbrev pub paths_after : List Fixing → TreePlace → List (List Fixing)
paths_after path place = paths_below path place ++ pending path

-- where the columns of the old path and of the place are among the first n, those of the new path are too
abbrev pub StaysWithin : TreePlace → List Fixing → List Fixing → Type 0
StaysWithin place old new = (n : ℕ) → AreWithin n old → IsColumnWithin n place → AreWithin n new
