-- Fixings of columns that are there.
use Rattle.std.specs.Prelude.{ℕ, ◌<◌, List}
use Rattle.std.specs.List.{AllByRecursion}
use Rattle.hys_relax.specs.declared.fixing.Fixing.{Fixing}

-- each fixing names one of the first n columns
abbrev pub AreWithin : ℕ → List Fixing → Type 0
AreWithin n fixings = AllByRecursion (λ f. f.column < n) fixings
