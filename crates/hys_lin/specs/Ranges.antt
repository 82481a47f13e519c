-- The least and the greatest value of a form over boxes.
use Rattle.std.specs.Prelude.{List, ◌++◌, ℕ, ◌<◌, Bool, true, false, ℤ, pos, negsuc, length}
use Rattle.std.proofs.Common.{get_or}
use Rattle.hys_number.specs.Number.{Number}
use Rattle.hys_number.specs.Ops.{◌+ₙ◌, whole}
use Rattle.hys_lin.specs.declared.form.Term.{Term}
use Rattle.hys_lin.specs.declared.form.Affine.{Affine}
use Rattle.hys_lin.specs.declared.form.Interval.{Interval}
use Rattle.hys_lin.specs.Sums.{Assignment, Within}
use Rattle.hys_lin.specs.declared.lost.Lost.{Lost}
use Rattle.hys_lin.specs.Operations.{sum_by, summing}

-- the box of a column
abbrev pub box_at : List Interval → ℕ → Interval
box_at boxes c = get_or boxes c (record { low = whole 0; high = whole 0 })

-- each column's number is within its box
abbrev pub InBoxes : List Interval → Assignment → Type 0
InBoxes boxes v = (c : ℕ) → c < length boxes → Within (box_at boxes c) (v c)

abbrev pub end_by_sign : Bool → ℤ → Interval → Number
end_by_sign false (pos n) i = i.low
end_by_sign false (negsuc n) i = i.high
end_by_sign true (pos n) i = i.high
end_by_sign true (negsuc n) i = i.low

-- the end of a term's box at which its product is greatest, or least where not `greatest`
abbrev pub end_at : (greatest : Bool) → List Interval → Term → Number
end_at greatest boxes t = end_by_sign greatest t.factor.num (box_at boxes t.column)

-- the constant and each product at that end
abbrev pub end_of : (greatest : Bool) → Affine → List Interval → Number
end_of greatest f boxes = f.constant +ₙ sum_by f.terms (end_at greatest boxes)

-- the operations of one end, from the constant, and those of both, the low end's first
abbrev pub ending : (greatest : Bool) → List Interval → Affine → List Lost
ending greatest boxes f = summing f.constant f.terms (end_at greatest boxes)

abbrev pub ranging : List Interval → Affine → List Lost
ranging boxes f = ending false boxes f ++ ending true boxes f
