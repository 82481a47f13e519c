-- Terms over a number of columns.
use Rattle.std.specs.Prelude.{ℕ, ◌<◌, List}
use Rattle.hys_lin.specs.Sums.{AreTerms, EachColumn}
use Rattle.hys_lin.specs.declared.form.Term.{Term}

-- terms over so many columns: the columns rise, and no factor is 0
pub record AreTermsOver (columns : ℕ) (ts : List Term) : Type 0 where
  pub rise : AreTerms ts
  pub below : EachColumn (λ c. c < columns) ts
