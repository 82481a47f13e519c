use Rattle.std.proofs.Common.{◌≡◌, ◌∙◌, ap, refl, negsuc}
use Rattle.hys_number.specs.Gcd.{gcd}
use Rattle.hys_number.specs.Number.{make}
use Rattle.hys_number.specs.Ops.{whole, neg}
use Rattle.hys_mld.proofs.tests.minus_one.Goals as goal

negated : neg (whole 1) ≡ make (negsuc 0) 1
unfolding neg whole make gcd
negated = refl

pub returns : goal.returns
returns c = c.neg.ensures ∙ ap neg c.whole.ensures ∙ negated
