use Rattle.std.proofs.Common.{rules, FitsSigned, w64, sym, ◌∙◌, to_z-of_z}
use Rattle.hys_frac.proofs.Fracs.{parts_is}
use Rattle.hys_frac.proofs.frac.Frac.num.Goals as goal

pub returns-clause-value : goal.returns-clause-value
returns-clause-value c = let f : FitsSigned w64 c.self.inside.num = search rules in to_z-of_z f ∙ sym (parts_is _ _ _ c.self.view_is c.self.invariant).0
