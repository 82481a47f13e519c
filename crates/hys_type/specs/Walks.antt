-- The checks of the elements of a list, one after the other, where those of an element may look at the elements before
-- it.
use Rattle.std.specs.Prelude.{List, [], ◌∷◌, ◌++◌}
use Rattle.hys_type.specs.Faults.{Check}

abbrev pub walk : {A : Type 0} → (List A → A → List Check) → (before rest : List A) → List Check
walk f before [] = []
walk f before (a ∷ rest) = f before a ++ walk f (before ++ a ∷ []) rest
