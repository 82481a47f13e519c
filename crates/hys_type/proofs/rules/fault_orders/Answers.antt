use Rattle.std.proofs.Common.{refl}
use Rattle.std.specs.Float.Numeral.{scan_numeral}
use Rattle.hys_number.specs.Number.{make}
use Rattle.hys_number.specs.Gcd.{gcd}
use Rattle.hys_number.specs.Ops.{fits, whole, ◌+ₙ◌, ◌*ₙ◌, neg, inverse}
use Rattle.hys_frac.specs.Compare.{number_cmp}
use Rattle.hys_meaning.specs.Values.{literal}
use Rattle.hys_meaning.specs.Folding.{is_zero}
use Rattle.hys_type.proofs.rules.fault_orders.Goals as goal

pub returns-clause-comparison_first : goal.returns-clause-comparison_first
unfolding fits literal scan_numeral whole make gcd ◌+ₙ◌ ◌*ₙ◌ neg is_zero number_cmp inverse
returns-clause-comparison_first c = refl

pub returns-clause-tolerance_next : goal.returns-clause-tolerance_next
unfolding fits literal scan_numeral whole make gcd ◌+ₙ◌ ◌*ₙ◌ neg is_zero number_cmp inverse
returns-clause-tolerance_next c = refl

pub returns-clause-product_first : goal.returns-clause-product_first
unfolding fits literal scan_numeral whole make gcd ◌+ₙ◌ ◌*ₙ◌ neg is_zero number_cmp inverse
returns-clause-product_first c = refl

pub returns-clause-no_comparison : goal.returns-clause-no_comparison
unfolding fits literal scan_numeral whole make gcd ◌+ₙ◌ ◌*ₙ◌ neg is_zero number_cmp inverse
returns-clause-no_comparison c = refl

pub returns-clause-section_first : goal.returns-clause-section_first
unfolding fits literal scan_numeral whole make gcd ◌+ₙ◌ ◌*ₙ◌ neg is_zero number_cmp inverse
returns-clause-section_first c = refl

pub returns-clause-left_name_first : goal.returns-clause-left_name_first
unfolding fits literal scan_numeral whole make gcd ◌+ₙ◌ ◌*ₙ◌ neg is_zero number_cmp inverse
returns-clause-left_name_first c = refl

pub returns-clause-values_first : goal.returns-clause-values_first
unfolding fits literal scan_numeral whole make gcd ◌+ₙ◌ ◌*ₙ◌ neg is_zero number_cmp inverse
returns-clause-values_first c = refl

pub returns-clause-boxes_first : goal.returns-clause-boxes_first
unfolding fits literal scan_numeral whole make gcd ◌+ₙ◌ ◌*ₙ◌ neg is_zero number_cmp inverse
returns-clause-boxes_first c = refl

pub returns-clause-low_end_first : goal.returns-clause-low_end_first
unfolding fits literal scan_numeral whole make gcd ◌+ₙ◌ ◌*ₙ◌ neg is_zero number_cmp inverse
returns-clause-low_end_first c = refl

pub returns-clause-kind_of_constants : goal.returns-clause-kind_of_constants
unfolding fits literal scan_numeral whole make gcd ◌+ₙ◌ ◌*ₙ◌ neg is_zero number_cmp inverse
returns-clause-kind_of_constants c = refl

pub returns-clause-guard_number_first : goal.returns-clause-guard_number_first
unfolding fits literal scan_numeral whole make gcd ◌+ₙ◌ ◌*ₙ◌ neg is_zero number_cmp inverse
returns-clause-guard_number_first c = refl

pub returns-clause-divisor_of_no_term : goal.returns-clause-divisor_of_no_term
unfolding fits literal scan_numeral whole make gcd ◌+ₙ◌ ◌*ₙ◌ neg is_zero number_cmp inverse
returns-clause-divisor_of_no_term c = refl

pub returns-clause-left_operand_first : goal.returns-clause-left_operand_first
unfolding fits literal scan_numeral whole make gcd ◌+ₙ◌ ◌*ₙ◌ neg is_zero number_cmp inverse
returns-clause-left_operand_first c = refl
