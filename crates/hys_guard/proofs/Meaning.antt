-- What stated rows mean.
use Rattle.std.specs.Prelude.{◌≡◌, ℕ, ◌<◌, ◌≤◌, ◌↔◌, List, [], ◌∷◌, length, ◌⊎◌, Bool, true, false, Option, Some, None}
use Rattle.std.proofs.Common.{refl, sym, ◌∙◌, ap, arith, inl, inr}
use Rattle.hys_number.specs.Number.{Number}
use Rattle.hys_number.specs.Ops.{◌+ₙ◌, ◌*ₙ◌, ◌-ₙ◌, neg, ◌≤ₙ◌, whole}
use Rattle.hys_number.proofs.Laws.{whole-ratio}
use Rattle.hys_number.proofs.Field.{mul_one, mul_zero, add_neg, mul-add, neg-mul, add_zero}
use Rattle.hys_number.proofs.Scale.{overs, common3, common3_of, common5, common5_of, common7, common7_of}
use Rattle.hys_number.proofs.Ring.{by_ring, v as x, k, minus, ◌⊕◌, ◌⊖◌}
use Rattle.hys_lin.specs.declared.form.Term.{Term}
use Rattle.hys_lin.specs.declared.form.Affine.{Affine}
use Rattle.hys_lin.specs.declared.form.Row.{Row}
use Rattle.hys_lin.specs.declared.form.Interval.{Interval}
use Rattle.hys_lin.specs.Sums.{Assignment, sum_of, value, HoldAll, Within}
use Rattle.hys_lin.specs.Bits.{bit, IsBit}
use Rattle.hys_guard.specs.Bits.{chosen}
use Rattle.hys_guard.specs.Numbers.{own_term, opposite_term}
use Rattle.hys_lin.specs.Stated.{HoldStated, AreRows}
use Rattle.hys_lin.proofs.Stated.{rows_hold}
use Rattle.hys_guard.specs.Stated.{guard_stated, choice_stated, copy_stated, term_value}

-- ---- a guard, at the two values of its column
one_of : (s c m M e : Number) → m ≤ₙ s +ₙ c → s +ₙ c ≤ₙ M → ((s +ₙ M *ₙ whole 1 ≤ₙ M -ₙ c) × (neg s +ₙ (m -ₙ e) *ₙ whole 1 ≤ₙ c -ₙ e)) ↔ (s +ₙ c ≤ₙ whole 0)
one_of s c m M e = simp (mul_one) (elim (common5_of s c m M e) [ common5 D h p1 n1 p2 n2 p3 n3 p4 n4 p5 n5 e1 e2 e3 e4 e5 ↦ rw (e1, e2, e3, e4, e5) (simp (overs, whole-ratio 0 D h) (omega arith)) ])

zero_of : (s c m M e : Number) → m ≤ₙ s +ₙ c → s +ₙ c ≤ₙ M → ((s +ₙ M *ₙ whole 0 ≤ₙ M -ₙ c) × (neg s +ₙ (m -ₙ e) *ₙ whole 0 ≤ₙ c -ₙ e)) ↔ (e ≤ₙ s +ₙ c)
zero_of s c m M e = simp (mul_zero) (elim (common5_of s c m M e) [ common5 D h p1 n1 p2 n2 p3 n3 p4 n4 p5 n5 e1 e2 e3 e4 e5 ↦ rw (e1, e2, e3, e4, e5) (simp (overs, whole-ratio 0 D h) (omega arith)) ])

abbrev TwoCases : (f : Affine) (e : Number) (d : ℕ) (v : Assignment) → Type 0
TwoCases f e d v = ((value f v ≤ₙ whole 0) × (v d ≡ whole 1)) ⊎ ((e ≤ₙ value f v) × (v d ≡ whole 0))

guard_cases : (f : Affine) (i : Interval) (e : Number) (d : ℕ) (v : Assignment) → Within i (value f v) → IsBit (v d) → HoldStated v (guard_stated f i e d) ↔ TwoCases f e d v
unfolding value
guard_cases f i e d w l b = (there b, back)
  where
    there : IsBit (w d) → HoldStated w (guard_stated f i e d) → TwoCases f e d w
    there (inl z) h = inr ((zero_of (sum_of f.terms w) f.constant i.low i.high e l.low l.high).0 (rw z at h.0, rw z at h.1.0), z)
    there (inr o) h = inl ((one_of (sum_of f.terms w) f.constant i.low i.high e l.low l.high).0 (rw o at h.0, rw o at h.1.0), o)

    back : TwoCases f e d w → HoldStated w (guard_stated f i e d)
    back (inl o) = let y : (sum_of f.terms w +ₙ i.high *ₙ whole 1 ≤ₙ i.high -ₙ f.constant) × (neg (sum_of f.terms w) +ₙ (i.low -ₙ e) *ₙ whole 1 ≤ₙ f.constant -ₙ e) = (one_of (sum_of f.terms w) f.constant i.low i.high e l.low l.high).1 o.0 in rw (o.1) (y.0, (y.1, tt))
    back (inr o) = let y : (sum_of f.terms w +ₙ i.high *ₙ whole 0 ≤ₙ i.high -ₙ f.constant) × (neg (sum_of f.terms w) +ₙ (i.low -ₙ e) *ₙ whole 0 ≤ₙ f.constant -ₙ e) = (zero_of (sum_of f.terms w) f.constant i.low i.high e l.low l.high).1 o.0 in rw (o.1) (y.0, (y.1, tt))

pub guard_means : (f : Affine) (i : Interval) (e : Number) (d : ℕ) (rows : List Row) → AreRows rows (guard_stated f i e d) → (v : Assignment) → Within i (value f v) → IsBit (v d) →
    HoldAll v rows ↔ (((value f v ≤ₙ whole 0) × (v d ≡ whole 1)) ⊎ ((e ≤ₙ value f v) × (v d ≡ whole 0)))
guard_means f i e d rows h v l b =
    let p : HoldAll v rows ↔ HoldStated v (guard_stated f i e d) = rows_hold rows (guard_stated f i e d) v h in
    let q : HoldStated v (guard_stated f i e d) ↔ TwoCases f e d v = guard_cases f i e d v l b in
    (λ y. q.0 (p.0 y), λ y. p.1 (q.1 y))

-- ---- a copy
copy_both : (s c z : Number) → ((z -ₙ s ≤ₙ c) × (s -ₙ z ≤ₙ neg c)) ↔ (z ≡ s +ₙ c)
copy_both s c z = elim (common3_of s c z) [ common3 D h p1 n1 p2 n2 p3 n3 e1 e2 e3 ↦ rw (e1, e2, e3) (simp overs (omega arith)) ]

pub copy_means : (f : Affine) (z : ℕ) (rows : List Row) → AreRows rows (copy_stated f z) → (v : Assignment) → HoldAll v rows ↔ (v z ≡ value f v)
unfolding value
copy_means f z rows h w =
    let p : HoldAll w rows ↔ HoldStated w (copy_stated f z) = rows_hold rows (copy_stated f z) w h in
    let q : ((w z -ₙ sum_of f.terms w ≤ₙ f.constant) × (sum_of f.terms w -ₙ w z ≤ₙ neg f.constant)) ↔ (w z ≡ sum_of f.terms w +ₙ f.constant) = copy_both (sum_of f.terms w) f.constant (w z) in
    (λ y. let g : HoldStated w (copy_stated f z) = p.0 y in q.0 (g.0, g.1.0), λ y. let g : (w z -ₙ sum_of f.terms w ≤ₙ f.constant) × (sum_of f.terms w -ₙ w z ≤ₙ neg f.constant) = q.1 y in p.1 (g.0, (g.1, tt)))

-- ---- a choice
upper_moved : (z s q a t p : Number) → (z -ₙ s +ₙ a *ₙ t ≤ₙ q -ₙ a *ₙ p) ↔ (a *ₙ (t +ₙ p) +ₙ z ≤ₙ s +ₙ q)
upper_moved z s q a t p = simp mul-add (go (a *ₙ t) (a *ₙ p))
  where
    go : (y w : Number) → (z -ₙ s +ₙ y ≤ₙ q -ₙ w) ↔ (y +ₙ w +ₙ z ≤ₙ s +ₙ q)
    go y w = elim (common5_of z s q y w) [ common5 D h p1 n1 p2 n2 p3 n3 p4 n4 p5 n5 e1 e2 e3 e4 e5 ↦ rw (e1, e2, e3, e4, e5) (simp overs (omega arith)) ]

lower_moved : (z s q a t p : Number) → (s -ₙ z +ₙ a *ₙ t ≤ₙ neg q -ₙ a *ₙ p) ↔ (a *ₙ (t +ₙ p) +ₙ (s +ₙ q) ≤ₙ z)
lower_moved z s q a t p = simp mul-add (go (a *ₙ t) (a *ₙ p))
  where
    go : (y w : Number) → (s -ₙ z +ₙ y ≤ₙ neg q -ₙ w) ↔ (y +ₙ w +ₙ (s +ₙ q) ≤ₙ z)
    go y w = elim (common5_of z s q y w) [ common5 D h p1 n1 p2 n2 p3 n3 p4 n4 p5 n5 e1 e2 e3 e4 e5 ↦ rw (e1, e2, e3, e4, e5) (simp overs (omega arith)) ]

less_zero : whole 1 -ₙ whole 0 ≡ whole 1
less_zero = let h : 0 < 1 = omega arith in rw (whole-ratio 0 1 h, whole-ratio 1 1 h) (simp (overs, h) (omega arith))

-- the four rows of a choice between a and b, by big factors A and B
abbrev ChoiceHold : (A B l z a b : Number) → Type 0
ChoiceHold A B l z a b =
    (A *ₙ l +ₙ z ≤ₙ b)
    × (B *ₙ l +ₙ b ≤ₙ z)
    × (B *ₙ (whole 1 -ₙ l) +ₙ z ≤ₙ a)
    × (A *ₙ (whole 1 -ₙ l) +ₙ a ≤ₙ z)

choice_either : (l : Bool) (a b z m1 M1 m2 M2 : Number) → m1 ≤ₙ a → a ≤ₙ M1 → m2 ≤ₙ b → b ≤ₙ M2 →
    ChoiceHold (m2 -ₙ M1) (m1 -ₙ M2) (bit l) z a b ↔ (z ≡ chosen l a b)
choice_either true a b z m1 M1 m2 M2 = simp (mul_one, add_neg, mul_zero) (elim (common7_of a b z m1 M1 m2 M2) [
  | common7 D h p1 n1 p2 n2 p3 n3 p4 n4 p5 n5 p6 n6 p7 n7 e1 e2 e3 e4 e5 e6 e7 ↦
      rw (e1, e2, e3, e4, e5, e6, e7) (simp (overs, whole-ratio 0 D h) (omega arith))
])
choice_either false a b z m1 M1 m2 M2 = simp (mul_one, less_zero, mul_zero) (elim (common7_of a b z m1 M1 m2 M2) [
  | common7 D h p1 n1 p2 n2 p3 n3 p4 n4 p5 n5 p6 n6 p7 n7 e1 e2 e3 e4 e5 e6 e7 ↦
      rw (e1, e2, e3, e4, e5, e6, e7) (simp (overs, whole-ratio 0 D h) (omega arith))
])

own_value : (ts : List Term) (w : Assignment) → length ts ≤ 1 → term_value (own_term ts) w ≡ sum_of ts w
own_value [] w h = refl
own_value (t ∷ []) w h = sym (add_zero (t.factor *ₙ w t.column))
own_value (t ∷ u ∷ ts) w h = absurd (omega arith)

opposite_value : (t : Option Term) (w : Assignment) → term_value (opposite_term t) w ≡ neg (term_value t w)
opposite_value None w = by_ring [] (k 0) (minus (k 0)) refl
opposite_value (Some t) w = neg-mul t.factor (w t.column)

pub choice_means : (l a : Affine) (i : Interval) (b : Affine) (j : Interval) (z : ℕ) (rows : List Row) → length l.terms ≤ 1 → AreRows rows (choice_stated l a i b j z) →
    (v : Assignment) (t : Bool) → value l v ≡ bit t → Within i (value a v) → Within j (value b v) → HoldAll v rows ↔ (v z ≡ chosen t (value a v) (value b v))
unfolding value
choice_means l a i b j z rows n h w t e p q = (λ y. c.0 (there (r.0 y)), λ y. r.1 (back (c.1 y)))
  where
    A : Number
    A = j.low -ₙ i.high

    B : Number
    B = i.low -ₙ j.high

    T : Number
    T = term_value (own_term l.terms) w

    N : Number
    N = term_value (opposite_term (own_term l.terms)) w

    r : HoldAll w rows ↔ HoldStated w (choice_stated l a i b j z)
    r = rows_hold rows (choice_stated l a i b j z) w h

    c : ChoiceHold (j.low -ₙ i.high) (i.low -ₙ j.high) (bit t) (w z) (sum_of a.terms w +ₙ a.constant) (sum_of b.terms w +ₙ b.constant) ↔ (w z ≡ chosen t (sum_of a.terms w +ₙ a.constant) (sum_of b.terms w +ₙ b.constant))
    c = choice_either t (sum_of a.terms w +ₙ a.constant) (sum_of b.terms w +ₙ b.constant) (w z) i.low i.high j.low j.high p.low p.high q.low q.high

    own : term_value (own_term l.terms) w +ₙ l.constant ≡ bit t
    own = ap (λ y. y +ₙ l.constant) (own_value l.terms w n) ∙ e

    turned : term_value (opposite_term (own_term l.terms)) w +ₙ (whole 1 -ₙ l.constant) ≡ whole 1 -ₙ bit t
    turned = ap (λ y. y +ₙ (whole 1 -ₙ l.constant)) (opposite_value (own_term l.terms) w)
        ∙ by_ring (term_value (own_term l.terms) w ∷ l.constant ∷ []) (minus (x 0) ⊕ (k 1 ⊖ x 1)) (k 1 ⊖ (x 0 ⊕ x 1)) refl
        ∙ ap (λ y. whole 1 -ₙ y) own

    m1 : (w z -ₙ sum_of b.terms w +ₙ A *ₙ T ≤ₙ b.constant -ₙ A *ₙ l.constant) ↔ (A *ₙ bit t +ₙ w z ≤ₙ sum_of b.terms w +ₙ b.constant)
    m1 = rw own at (upper_moved (w z) (sum_of b.terms w) b.constant A T l.constant)

    m2 : (sum_of b.terms w -ₙ w z +ₙ B *ₙ T ≤ₙ neg b.constant -ₙ B *ₙ l.constant) ↔ (B *ₙ bit t +ₙ (sum_of b.terms w +ₙ b.constant) ≤ₙ w z)
    m2 = rw own at (lower_moved (w z) (sum_of b.terms w) b.constant B T l.constant)

    m3 : (w z -ₙ sum_of a.terms w +ₙ B *ₙ N ≤ₙ a.constant -ₙ B *ₙ (whole 1 -ₙ l.constant)) ↔ (B *ₙ (whole 1 -ₙ bit t) +ₙ w z ≤ₙ sum_of a.terms w +ₙ a.constant)
    m3 = rw turned at (upper_moved (w z) (sum_of a.terms w) a.constant B N (whole 1 -ₙ l.constant))

    m4 : (sum_of a.terms w -ₙ w z +ₙ A *ₙ N ≤ₙ neg a.constant -ₙ A *ₙ (whole 1 -ₙ l.constant)) ↔ (A *ₙ (whole 1 -ₙ bit t) +ₙ (sum_of a.terms w +ₙ a.constant) ≤ₙ w z)
    m4 = rw turned at (lower_moved (w z) (sum_of a.terms w) a.constant A N (whole 1 -ₙ l.constant))

    there : HoldStated w (choice_stated l a i b j z) → ChoiceHold (j.low -ₙ i.high) (i.low -ₙ j.high) (bit t) (w z) (sum_of a.terms w +ₙ a.constant) (sum_of b.terms w +ₙ b.constant)
    there y = (m1.0 y.0, m2.0 y.1.0, m3.0 y.1.1.0, m4.0 y.1.1.1.0)

    back : ChoiceHold (j.low -ₙ i.high) (i.low -ₙ j.high) (bit t) (w z) (sum_of a.terms w +ₙ a.constant) (sum_of b.terms w +ₙ b.constant) → HoldStated w (choice_stated l a i b j z)
    back y = (m1.1 y.0, (m2.1 y.1, (m3.1 y.2, (m4.1 y.3, tt))))
