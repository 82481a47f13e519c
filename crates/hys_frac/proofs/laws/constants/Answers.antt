use Rattle.std.proofs.Common.{pos, refl, arith}
use Rattle.hys_frac.proofs.Fracs.{whole_make}
use Rattle.hys_frac.proofs.Wholes.{reduced_at}
use Rattle.hys_frac.proofs.laws.constants.Goals as goal

pub invariant_of-result : goal.invariant_of-result
invariant_of-result c = reduced_at (pos 0) 0 refl (omega arith)

pub invariant_of-result-2 : goal.invariant_of-result-2
invariant_of-result-2 c = reduced_at (pos 1) 1 refl (omega arith)

pub returns-clause-zero : goal.returns-clause-zero
returns-clause-zero c = whole_make 0

pub returns-clause-one : goal.returns-clause-one
returns-clause-one c = whole_make 1
