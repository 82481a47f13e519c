use Rattle.hys_number.proofs.Inverse.{mul_inverse, zero_not_one}
use Rattle.hys_frac.proofs.laws.field.Goals as goal

pub returns : goal.returns
returns c = record { one = zero_not_one; inverse = mul_inverse }
