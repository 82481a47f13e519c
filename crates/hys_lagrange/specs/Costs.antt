-- Problems with another cost.
use Rattle.hys_lin.specs.declared.form.Affine.{Affine}
use Rattle.hys_lin.specs.declared.problem.Problem.{Problem}

-- the problem with this cost
abbrev pub with_cost : Problem → Affine → Problem
with_cost p cost = record p { cost = cost }
