-- Problems with another cost.
use Rattle.std.specs.Prelude.{List}
use Rattle.hys_number.specs.Number.{Number}
use Rattle.hys_lin.specs.declared.form.Term.{Term}
use Rattle.hys_lin.specs.declared.problem.Problem.{Problem}

-- the problem with this cost
abbrev pub with_cost : Problem → List Term → Number → Problem
with_cost p terms constant = record p { cost = record { terms = terms; constant = constant } }
