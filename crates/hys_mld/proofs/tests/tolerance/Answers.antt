use Rattle.std.proofs.Common.{◌≡◌, ◌∙◌, refl, pos, Option, Some, None}
use Rattle.std.specs.Prelude.{IfSome}
use Rattle.hys_number.specs.Gcd.{gcd}
use Rattle.hys_number.specs.Number.{Number, make}
use Rattle.hys_number.specs.Ops.{int, ◌*ₙ◌, ◌/ₙ◌, inverse}
use Rattle.hys_mld.proofs.tests.tolerance.Goals as goal

thousandth : int (pos 1) /ₙ int (pos 1000) ≡ make (pos 1) 1000
unfolding ◌*ₙ◌ inverse int make gcd
thousandth = refl

if_some : (r : Option Number) (a b : Number) → a ≡ b → IfSome r (λ x. x ≡ a) → IfSome r (λ x. x ≡ b)
if_some (Some x) a b e h = h ∙ e
if_some None a b e h = h

pub returns : goal.returns
returns c = if_some c.new.result (int (pos 1) /ₙ int (pos 1000)) (make (pos 1) 1000) thousandth c.new.ensures.value
