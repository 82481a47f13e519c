use Rattle.std.proofs.Common.{rules, arith, FitsSigned, w64, sym, ◌∙◌, to_z-of_z, ◌≡◌, pos, ℤ, ℕ, ◌<◌, ◌^◌}
use Rattle.std.proofs.lemmas.Int.{ints}
use Rattle.hys_frac.proofs.Fracs.{parts_is}
use Rattle.hys_frac.proofs.frac.Frac.den.Goals as goal

below : (d : ℤ) (n : ℕ) → pos n ≡ d → FitsSigned w64 d → n < 2 ^ 63
below d n e f = omega (arith, ints)

pub returns-clause-value : goal.returns-clause-value
returns-clause-value c = let f : FitsSigned w64 c.self.inside.den = search rules in to_z-of_z f ∙ sym (parts_is _ _ _ c.self.view_is c.self.invariant).1

pub returns-clause-below : goal.returns-clause-below
returns-clause-below c = let f : FitsSigned w64 c.self.inside.den = search rules in below c.self.inside.den _ (parts_is _ _ _ c.self.view_is c.self.invariant).1 f
