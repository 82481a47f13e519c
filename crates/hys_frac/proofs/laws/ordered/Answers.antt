use Rattle.hys_number.proofs.Order.{add-le-add_right, mul-le-mul_left, mul-le-mul_left_neg}
use Rattle.hys_frac.proofs.laws.ordered.Goals as goal

pub returns : goal.returns
returns c = record { sum = add-le-add_right; product = λ a b q l m. mul-le-mul_left q a b l m; turned = λ a b q l m. mul-le-mul_left_neg q a b l m }
