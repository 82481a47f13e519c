-- What every tree keeps.
use Rattle.std.specs.Prelude.{List}
use Rattle.std.specs.List.{AllByRecursion}
use Rattle.hys_relax.specs.Bound.{AreMultipliers}
use Rattle.hys_tree.specs.declared.tree.TreePlace.{TreePlace}
use Rattle.hys_tree.specs.declared.tree.TreePlace.TheVariants.{Inner, Cost, Never}

-- a leaf's rows rise strictly and no multiplier is 0
abbrev pub IsMultiplied : TreePlace → Type 0
IsMultiplied (Inner c) = Unit {0}
IsMultiplied (Cost m k) = AreMultipliers m.pairs
IsMultiplied (Never m k) = AreMultipliers m.pairs

abbrev pub AreMultiplied : List TreePlace → Type 0
AreMultiplied places = AllByRecursion IsMultiplied places
