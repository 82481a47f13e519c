use Rattle.std.proofs.Common.{◌≡◌, ◌<◌, List, [], ◌∷◌, length, ℤ, pos, negsuc, ◌<ℤ◌, Bool, true, false, cond, refl, arith}
use borrow.Author.Differences.{ints}
use Rattle.hys_number.specs.Number.{Number}
use Rattle.hys_number.specs.Ops.{◌*ₙ◌, ◌≤ₙ◌, ◌<ₙ◌, whole}
use Rattle.hys_number.proofs.Field.{add_comm}
use Rattle.hys_number.proofs.Order.{le_refl', le_of_lt, add-le-add, mul-le-mul_left, mul-le-mul_left_neg, at_least_zero, below_zero}
use Rattle.hys_number.proofs.Signs.{negative_num}
use Rattle.hys_lin.specs.declared.form.Term.{Term}
use Rattle.hys_lin.specs.declared.form.Affine.{Affine}
use Rattle.hys_lin.specs.declared.form.Interval.{Interval}
use Rattle.hys_lin.specs.Sums.{Assignment, sum_of, value, Within, EachColumn}
use Rattle.hys_lin.specs.Operations.{sum_by}
use Rattle.hys_lin.specs.Ranges.{InBoxes, box_at, end_by_sign, end_at, end_of}

-- the end by the sign is the low one where exactly one of the two holds: below 0, greatest
pub end_negative : (greatest : Bool) (a : Number) (i : Interval) → a <ₙ whole 0 → end_by_sign greatest a.num i ≡ cond greatest i.low i.high
end_negative greatest a i l = go greatest a.num ((negative_num a).1 l)
  where
    go : (g : Bool) (z : ℤ) → z <ℤ pos 0 → end_by_sign g z i ≡ cond g i.low i.high
    go true (pos n) h = absurd (omega (arith, ints))
    go false (pos n) h = absurd (omega (arith, ints))
    go true (negsuc n) h = refl
    go false (negsuc n) h = refl

pub end_else : (greatest : Bool) (a : Number) (i : Interval) → ¬ (a <ₙ whole 0) → end_by_sign greatest a.num i ≡ cond greatest i.high i.low
end_else greatest a i l = go greatest a.num (λ h. l ((negative_num a).0 h))
  where
    go : (g : Bool) (z : ℤ) → ¬ (z <ℤ pos 0) → end_by_sign g z i ≡ cond g i.high i.low
    go true (pos n) h = refl
    go false (pos n) h = refl
    go true (negsuc n) h = absurd (h (omega (arith, ints)))
    go false (negsuc n) h = absurd (h (omega (arith, ints)))

product_around : (f : Number) (i : Interval) (x : Number) → Within i x → (f *ₙ end_by_sign false f.num i ≤ₙ f *ₙ x) × (f *ₙ x ≤ₙ f *ₙ end_by_sign true f.num i)
product_around f i x w = go f.num refl
  where
    go : (z : ℤ) → f.num ≡ z → (f *ₙ end_by_sign false z i ≤ₙ f *ₙ x) × (f *ₙ x ≤ₙ f *ₙ end_by_sign true z i)
    go (pos n) e = (mul-le-mul_left f i.low x (at_least_zero f n e) w.low, mul-le-mul_left f x i.high (at_least_zero f n e) w.high)
    go (negsuc n) e = (mul-le-mul_left_neg f x i.high (le_of_lt f (whole 0) (below_zero f n e)) w.high, mul-le-mul_left_neg f i.low x (le_of_lt f (whole 0) (below_zero f n e)) w.low)

ends_around : (boxes : List Interval) (v : Assignment) → InBoxes boxes v → (ts : List Term) → EachColumn (λ c. c < length boxes) ts →
    (sum_by ts (end_at false boxes) ≤ₙ sum_of ts v) × (sum_of ts v ≤ₙ sum_by ts (end_at true boxes))
ends_around boxes v w [] h = (le_refl' (whole 0), le_refl' (whole 0))
ends_around boxes v w (t ∷ ts) h =
    let p : (t.factor *ₙ end_at false boxes t ≤ₙ t.factor *ₙ v t.column) × (t.factor *ₙ v t.column ≤ₙ t.factor *ₙ end_at true boxes t) = product_around t.factor (box_at boxes t.column) (v t.column) (w t.column h.0) in
    let q : (sum_by ts (end_at false boxes) ≤ₙ sum_of ts v) × (sum_of ts v ≤ₙ sum_by ts (end_at true boxes)) = ends_around boxes v w ts h.1 in
    (add-le-add _ _ _ _ p.0 q.0, add-le-add _ _ _ _ p.1 q.1)

-- the two ends hold every value of the form over the boxes
pub range_holds : (f : Affine) (boxes : List Interval) (r : Interval) → EachColumn (λ c. c < length boxes) f.terms → r.low ≡ end_of false f boxes → r.high ≡ end_of true f boxes →
    (v : Assignment) → InBoxes boxes v → Within r (value f v)
unfolding value
range_holds f boxes r h e e' v w =
    let q : (sum_by f.terms (end_at false boxes) ≤ₙ sum_of f.terms v) × (sum_of f.terms v ≤ₙ sum_by f.terms (end_at true boxes)) = ends_around boxes v w f.terms h in
    record {
      low = rw (e, add_comm f.constant (sum_by f.terms (end_at false boxes))) (add-le-add _ _ _ _ q.0 (le_refl' f.constant));
      high = rw (e', add_comm f.constant (sum_by f.terms (end_at true boxes))) (add-le-add _ _ _ _ q.1 (le_refl' f.constant));
    }
