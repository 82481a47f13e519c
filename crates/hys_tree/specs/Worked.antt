-- The tree of a worked problem whose least cost is -3.
use Rattle.std.specs.Prelude.{ℕ, List, [], ◌∷◌}
use Rattle.hys_number.specs.Number.{Number}
use Rattle.hys_number.specs.Ops.{whole, neg}
use Rattle.hys_relax.specs.Worked.{on_equation, on_demand}
use Rattle.hys_relax.specs.declared.multipliers.Multipliers.{Multipliers}
use Rattle.hys_tree.specs.declared.tree.TreePlace.{TreePlace}
use Rattle.hys_tree.specs.declared.tree.TreePlace.TheVariants.{Inner, Cost, Never}
use Rattle.hys_tree.specs.declared.answer.Claim.{Claim}
use Rattle.hys_tree.specs.declared.answer.Claim.TheVariants.{Least}

abbrev pub with_pairs : List (ℕ × Number) → Multipliers
with_pairs ps = record { pairs = ps }

-- the first input at 0; at 1 with the second at 0; with both at 1 there is no point
abbrev pub worked_places : List TreePlace
worked_places =
    Inner 1 ∷ Cost (with_pairs on_equation) 1 ∷ Inner 2 ∷ Cost (with_pairs on_equation) 2
    ∷ Never (with_pairs on_demand) 2 ∷ []

-- the first input alone
abbrev pub worked_claim : Claim
worked_claim = Least (record {
  point = record { values = whole 0 ∷ whole 1 ∷ whole 0 ∷ whole 3 ∷ [] };
  cost = neg (whole 3);
})
