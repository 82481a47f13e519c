use Rattle.hys_number.proofs.Field.{add_comm, add_assoc, add_zero, add_neg, mul_comm, mul_assoc, mul_one, mul-add}
use Rattle.hys_frac.proofs.laws.ring.Goals as goal

pub returns : goal.returns
returns c = record { add_comm = add_comm; add_assoc = add_assoc; add_zero = add_zero; add_neg = add_neg; mul_comm = mul_comm; mul_assoc = mul_assoc; mul_one = mul_one; mul_add = mul-add }
