-- What the laws of this crate say.
use Rattle.std.specs.Prelude.{◌≡◌, List, Option}
use Rattle.hys_number.specs.Number.{Number}
use Rattle.hys_number.specs.Ops.{◌≤ₙ◌}
use Rattle.hys_lin.specs.Sums.{at, value}
use Rattle.hys_lin.specs.Problem.{IsProblem}
use Rattle.hys_lin.specs.declared.problem.Problem.{Problem}
use Rattle.hys_relax.specs.Node.{StackedSolution}
use Rattle.hys_relax.specs.Worked.{worked}
use Rattle.hys_tree.specs.declared.tree.TreePlace.{TreePlace}
use Rattle.hys_tree.specs.declared.answer.Best.{Best}
use Rattle.hys_tree.specs.declared.answer.Why.{Why}
use Rattle.hys_tree.specs.declared.answer.Claim.TheVariants.{Least, NoneExists, AtLeast}
use Rattle.hys_tree.specs.Certificate.{Certificate, preorder}
use Rattle.hys_tree.specs.Shows.{Shows}
use Rattle.hys_tree.specs.Fits.{Fits}
use Rattle.hys_tree.specs.Worked.{worked_places, worked_claim}

abbrev pub LeastIsLeast : Type 0
LeastIsLeast = (p : Problem) (places : List TreePlace) (b : Best) → IsProblem p → Shows p places (Least b) →
    (v : List Number) → StackedSolution p v → b.cost ≤ₙ value p.cost (at v)

abbrev pub NoneIsThere : Type 0
NoneIsThere = (p : Problem) (places : List TreePlace) → IsProblem p → Shows p places NoneExists →
    (v : List Number) → StackedSolution p v → ⊥

abbrev pub BoundHolds : Type 0
BoundHolds = (p : Problem) (places : List TreePlace) (bound : Number) (best : Option Best) (why : Why) → IsProblem p →
    Shows p places (AtLeast bound best why) → (v : List Number) → StackedSolution p v → bound ≤ₙ value p.cost (at v)

abbrev pub OneTree : Type 0
OneTree = (s t : Certificate) → preorder s ≡ preorder t → s ≡ t

pub record WorkedTree : Type 0 where
  pub shows : Shows worked worked_places worked_claim
  pub fits : Fits worked worked_places worked_claim
