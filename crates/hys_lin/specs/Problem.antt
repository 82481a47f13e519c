-- What every linear problem keeps.
use Rattle.std.specs.Prelude.{ℕ, ◌<◌, List, [], ◌∷◌, length, All}
use Rattle.hys_lin.specs.Over.{AreTermsOver}
use Rattle.hys_lin.specs.Ranges.{box_at}
use Rattle.hys_lin.specs.Sums.{IsInterval, IsUnit}
use Rattle.hys_lin.specs.declared.form.Interval.{Interval}
use Rattle.hys_lin.specs.declared.problem.Problem.{Problem}

-- the columns rise strictly
abbrev pub Rise : List ℕ → Type 0
Rise [] = Unit {0}
Rise (c ∷ cs) = All (λ d. c < d) cs × Rise cs

-- one of the boxes is the column's, and it is 0 to 1
pub record IsBranch (boxes : List Interval) (c : ℕ) : Type 0 where
  pub below : c < length boxes
  pub unit : IsUnit (box_at boxes c)

pub record IsProblem (p : Problem) : Type 0 where
  pub boxes : All IsInterval p.boxes
  pub rows : All (λ r. AreTermsOver (length p.boxes) r.terms) p.rows
  pub cost : AreTermsOver (length p.boxes) p.cost.terms
  pub rise : Rise p.branch
  pub branch : All (IsBranch p.boxes) p.branch
