-- Trees of certificates, and their places in preorder.
use Rattle.std.specs.Prelude.{ℕ, List, [], ◌∷◌, ◌++◌}
use Rattle.hys_relax.specs.declared.multipliers.Multipliers.{Multipliers}
use Rattle.hys_tree.specs.declared.tree.TreePlace.{TreePlace}
use Rattle.hys_tree.specs.declared.tree.TreePlace.TheVariants.{Inner, Cost, Never}

-- a leaf with multipliers and a depth, or a branch column with the trees where it is 0 and where it is 1
pub data Certificate : Type 0 where
  cost : Multipliers → ℕ → Certificate
  never : Multipliers → ℕ → Certificate
  fork : ℕ → Certificate → Certificate → Certificate

abbrev pub preorder : Certificate → List TreePlace
preorder (cost m k) = Cost m k ∷ []
preorder (never m k) = Never m k ∷ []
preorder (fork c a b) = Inner c ∷ (preorder a ++ preorder b)
