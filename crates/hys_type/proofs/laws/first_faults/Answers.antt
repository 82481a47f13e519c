use Rattle.std.proofs.Common.{refl}
use Rattle.std.specs.Float.Numeral.{scan_numeral}
use Rattle.hys_number.specs.Number.{make}
use Rattle.hys_number.specs.Gcd.{gcd}
use Rattle.hys_number.specs.Ops.{fits, whole, ◌+ₙ◌, ◌*ₙ◌, neg}
use Rattle.hys_frac.specs.Compare.{number_cmp}
use Rattle.hys_meaning.specs.Values.{literal}
use Rattle.hys_meaning.specs.Folding.{is_zero}
use Rattle.hys_type.proofs.laws.first_faults.Goals as goal

pub returns-clause-none : goal.returns-clause-none
unfolding fits literal scan_numeral whole make gcd ◌+ₙ◌ ◌*ₙ◌ neg is_zero number_cmp
returns-clause-none c = refl

pub returns-clause-unknown : goal.returns-clause-unknown
unfolding fits literal scan_numeral whole make gcd ◌+ₙ◌ ◌*ₙ◌ neg is_zero number_cmp
returns-clause-unknown c = refl

pub returns-clause-not_linear : goal.returns-clause-not_linear
unfolding fits literal scan_numeral whole make gcd ◌+ₙ◌ ◌*ₙ◌ neg is_zero number_cmp
returns-clause-not_linear c = refl

pub returns-clause-left_first : goal.returns-clause-left_first
unfolding fits literal scan_numeral whole make gcd ◌+ₙ◌ ◌*ₙ◌ neg is_zero number_cmp
returns-clause-left_first c = refl

pub returns-clause-at_top : goal.returns-clause-at_top
unfolding fits literal scan_numeral whole make gcd ◌+ₙ◌ ◌*ₙ◌ neg is_zero number_cmp
returns-clause-at_top c = refl

pub returns-clause-twice : goal.returns-clause-twice
unfolding fits literal scan_numeral whole make gcd ◌+ₙ◌ ◌*ₙ◌ neg is_zero number_cmp
returns-clause-twice c = refl

pub returns-clause-missing : goal.returns-clause-missing
unfolding fits literal scan_numeral whole make gcd ◌+ₙ◌ ◌*ₙ◌ neg is_zero number_cmp
returns-clause-missing c = refl

pub returns-clause-not_constant : goal.returns-clause-not_constant
unfolding fits literal scan_numeral whole make gcd ◌+ₙ◌ ◌*ₙ◌ neg is_zero number_cmp
returns-clause-not_constant c = refl

pub returns-clause-an_output : goal.returns-clause-an_output
unfolding fits literal scan_numeral whole make gcd ◌+ₙ◌ ◌*ₙ◌ neg is_zero number_cmp
returns-clause-an_output c = refl

pub returns-clause-defined_twice : goal.returns-clause-defined_twice
unfolding fits literal scan_numeral whole make gcd ◌+ₙ◌ ◌*ₙ◌ neg is_zero number_cmp
returns-clause-defined_twice c = refl
