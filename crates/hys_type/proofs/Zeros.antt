-- Operations whose result is 0 for want of an operand.
use Rattle.std.proofs.Common.{◌≡◌, [], ◌∷◌, None, refl}
use Rattle.hys_number.specs.Number.{Number, make}
use Rattle.hys_number.specs.Gcd.{gcd}
use Rattle.hys_number.specs.Ops.{◌+ₙ◌, ◌-ₙ◌, ◌*ₙ◌, whole, fits}
use Rattle.hys_number.proofs.Field.{add_neg, mul_zero}
use Rattle.hys_number.proofs.Cancel.{zero_add, zero_mul}
use Rattle.hys_lin.specs.Operations.{first_lost, outcome}
use Rattle.hys_lin.specs.declared.lost.Lost.{Lost}

pub none_added : (a b : Number) → a ≡ whole 0 → b ≡ whole 0 → a +ₙ b ≡ whole 0
none_added a b e f = rw (e, f) (zero_add (whole 0))

pub none_subtracted : (a b : Number) → a ≡ whole 0 → b ≡ whole 0 → a -ₙ b ≡ whole 0
none_subtracted a b e f = rw (e, f) (add_neg (whole 0))

pub none_multiplied : (a b : Number) → a ≡ whole 0 → a *ₙ b ≡ whole 0
none_multiplied a b e = rw e (zero_mul b)

pub by_none_multiplied : (a b : Number) → b ≡ whole 0 → a *ₙ b ≡ whole 0
by_none_multiplied a b e = rw e (mul_zero a)

-- 0 fits
pub nothing_lost : (o : Lost) → outcome o ≡ whole 0 → first_lost (o ∷ []) ≡ None
unfolding fits whole make gcd
nothing_lost o e = rw e refl
