use Rattle.std.proofs.Common.{◌∙◌}
use Rattle.hys_logic.proofs.Terms.{own_value, own_sorted}
use Rattle.hys_logic.proofs.literal.Literal.form.Goals as goal

pub returns-clause-value : goal.returns-clause-value
returns-clause-value c = λ v. own_value c.args.self _ v (c.of.ensures ∙ c.in_ok-terms.ensures) (c.bit.ensures ∙ c.constant.ensures)

pub returns-clause-terms : goal.returns-clause-terms
returns-clause-terms c = rw (c.of.ensures, c.in_ok-terms.ensures) (own_sorted c.args.self)
