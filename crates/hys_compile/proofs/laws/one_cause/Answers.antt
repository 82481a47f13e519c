use Rattle.std.proofs.Common.{List, ℕ}
use Rattle.hys_compile.proofs.Only.{AreOnly, no_cause}
use Rattle.hys_compile.proofs.Stages.{same_cause}
use Rattle.hys_compile.proofs.laws.one_cause.Goals as goal

only : goal.After-one_fault → (text : List ℕ) → AreOnly text
only c text = record {
  cut = c.one_cut.ensures.cut text;
  fault = c.one_cut.ensures.fault text;
  apart = c.one_cut.ensures.apart text;
  stuck = c.one_fault.ensures.one text;
  tree = c.one_tree.ensures text;
}

pub returns-clause-one : goal.returns-clause-one
returns-clause-one c = λ tolerance text f g. same_cause tolerance text f g (only c text)

pub returns-clause-none : goal.returns-clause-none
returns-clause-none c = λ tolerance text k f. no_cause tolerance text f (only c text) k
