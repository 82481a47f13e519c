-- The verdicts on the worked tree, and on trees and claims that differ from it in one place.
use Rattle.std.specs.Prelude.{◌≡◌, ℕ, List, [], ◌∷◌}
use Rattle.hys_number.specs.Number.{Number}
use Rattle.hys_number.specs.Ops.{whole, neg}
use Rattle.hys_lin.specs.Operations.{times}
use Rattle.hys_relax.specs.Worked.{worked, on_equation, on_demand}
use Rattle.hys_tree.specs.Worked.{worked_places, worked_claim, with_pairs}
use Rattle.hys_tree.specs.declared.answer.Claim.{Claim}
use Rattle.hys_tree.specs.declared.answer.Claim.TheVariants.{Least}
use Rattle.hys_tree.specs.declared.tree.TreePlace.{TreePlace}
use Rattle.hys_tree.specs.declared.tree.TreePlace.TheVariants.{Inner, Cost, Never}
use Rattle.hys_check.specs.Verdict.{verdict_of}
use Rattle.hys_check.specs.declared.verdict.At.TheVariants as place
use Rattle.hys_check.specs.declared.verdict.CheckWhy.TheVariants.{Shape, Sign, Below, Point, Range}
use Rattle.hys_check.specs.declared.verdict.Verdict.{Verdict}
use Rattle.hys_check.specs.declared.verdict.Verdict.TheVariants.{Yes, No}

-- the worked tree with other leaves and another second column
abbrev pub tree_with : TreePlace → ℕ → TreePlace → List TreePlace
tree_with first second last = Inner 1 ∷ first ∷ Inner second ∷ Cost (with_pairs on_equation) 2 ∷ last ∷ []

abbrev pub first_leaf : TreePlace
first_leaf = Cost (with_pairs on_equation) 1

abbrev pub last_leaf : TreePlace
last_leaf = Never (with_pairs on_demand) 2

abbrev pub on : List TreePlace → Verdict
on places = verdict_of worked places worked_claim

-- the claim with another point and cost
abbrev pub claim_with : List Number → Number → Claim
claim_with point cost = Least (record { point = record { values = point }; cost = cost })

pub record WorkedVerdicts : Type 0 where
  pub right : on worked_places ≡ Yes
  -- a multiplier below 0 on a row that is no equation
  pub sign : on (tree_with first_leaf 2 (Never (with_pairs ((0, neg (whole 1)) ∷ [])) 2)) ≡ No (place.Node 4) Sign
  -- the first leaf over the boxes of the root
  pub below : on (tree_with (Cost (with_pairs on_equation) 0) 2 last_leaf)
      ≡ No (place.Node 1) (Below (neg (whole 5)) (neg (whole 3)))
  -- a multiplier whose product doesn't fit
  pub range : on (tree_with (Cost (with_pairs ((1, whole 9223372036854775807) ∷ [])) 1) 2 last_leaf)
      ≡ No (place.Node 1) (Range (times (whole 9223372036854775807) (neg (whole 3))))
  -- the second column fixed above
  pub fixed : on (tree_with first_leaf 1 last_leaf) ≡ No (place.Node 2) Shape
  -- the last place missing
  pub early : on (Inner 1 ∷ first_leaf ∷ Inner 2 ∷ Cost (with_pairs on_equation) 2 ∷ []) ≡ No (place.Node 4) Shape
  -- a place left over
  pub late : on (Inner 1 ∷ first_leaf ∷ Inner 2 ∷ Cost (with_pairs on_equation) 2 ∷ last_leaf ∷ last_leaf ∷ [])
      ≡ No (place.Node 5) Shape
  -- another cost, and no point
  pub cost : verdict_of worked worked_places (claim_with (whole 0 ∷ whole 1 ∷ whole 0 ∷ whole 3 ∷ []) (neg (whole 4)))
      ≡ No place.Claim Point
  pub short : verdict_of worked worked_places (claim_with [] (neg (whole 3))) ≡ No place.Claim Point
