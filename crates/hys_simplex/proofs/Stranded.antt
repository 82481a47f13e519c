-- Where no column may enter, no values of the variables outside bring the row's basic value to its range.
use Rattle.std.proofs.Common.{◌≡◌, ℕ, suc, ◌+◌, ◌<◌, inl, inr, refl, sym, ◌∙◌, ap, subst, arith, Bool, true, false, if◌then◌else◌, Option, Some, None, [], ◌∷◌}
use Rattle.hys_number.specs.Number.{Number}
use Rattle.hys_number.specs.Ops.{◌*ₙ◌, ◌-ₙ◌, neg, ◌≤ₙ◌, ◌<ₙ◌, whole}
use Rattle.hys_number.specs.Sums.{sum_to}
use Rattle.hys_number.proofs.Laws.{whole-ratio}
use Rattle.hys_number.proofs.Order.{le_refl', le_total, le_antisymm, mul-le-mul_left, mul-le-mul_left_neg, lt_of_le-lt, lt_of_lt-le}
use Rattle.hys_number.proofs.Scale.{overs, common1, common1_of, common2, common2_of, common3, common3_of}
use Rattle.hys_number.proofs.Sums.{sum_to-same, sum_to-mul, sum_to-le}
use Rattle.hys_number.proofs.Ring.{by_ring, v, k, minus, ◌⊕◌, ◌⊗◌, ◌⊖◌}
use Rattle.hys_relax.specs.Node.{Boxes}
use Rattle.hys_relax.specs.LinearProgram.{LinearProgram}
use Rattle.hys_simplex.specs.Tableau.{Tableau, IsOf}
use Rattle.hys_simplex.specs.Status.{raised, is_raised_above, lower, upper, at_most, IsOff, under, over, end_or, end_value, basic_value, IsDualFeasible}
use Rattle.hys_simplex.specs.Rule.{raised_sign, IsBlocked, IsStranded}
use Rattle.hys_simplex.proofs.Ruled.{cases}
use Rattle.hys_simplex.proofs.Ranges.{test_down, upper_column, upper_slack}

not_above : (a : Number) → (whole 0 <ₙ a → ⊥) → a ≤ₙ whole 0
not_above a h = elim (le_total a (whole 0)) as (λ _. a ≤ₙ whole 0) [ inl l ↦ l | inr l ↦ absurd (h l) ]

-- a variable at its end, with a factor by which it can't help
no_help : (high : Option Number) (low a x : Number) (b : Bool) → low ≤ₙ x → at_most x high → (b ≡ true → high ≡ None → ⊥) →
    (¬ (high ≡ Some low) → (if b then whole 1 else neg (whole 1)) *ₙ a ≤ₙ whole 0) → a *ₙ (if b then end_or high low else low) ≤ₙ a *ₙ x
no_help None low a x true l m f h = absurd (f refl refl)
no_help None low a x false l m f h = up (h (λ e. absurd (cc)))
  where
    up : neg (whole 1) *ₙ a ≤ₙ whole 0 → a *ₙ low ≤ₙ a *ₙ x
    up q = mul-le-mul_left a low x (turn a (subst (λ z. z ≤ₙ whole 0) (by_ring (a ∷ []) (minus (k 1) ⊗ v 0) (minus (v 0)) refl) q)) l
      where
        turn : (a : Number) → neg a ≤ₙ whole 0 → whole 0 ≤ₙ a
        turn a = elim (common1_of a) [ common1 D h p n e ↦ rw (e) (simp (overs, whole-ratio 0 D h) (omega arith)) ]
no_help (Some high) low a x b l m f h = elim (le_total high low) as (λ _. a *ₙ (if b then high else low) ≤ₙ a *ₙ x) [
  | inl q ↦ let e : x ≡ low = le_antisymm x low (trans x high low m q) l in let g : high ≡ low = le_antisymm high low q (trans low x high l m) in
      subst (λ z. a *ₙ z ≤ₙ a *ₙ x) (e ∙ one b g) (le_refl' (a *ₙ x))
  | inr q ↦ apart b (h (λ e. less low high q (some_same e)))
]
  where
    trans : (x y z : Number) → x ≤ₙ y → y ≤ₙ z → x ≤ₙ z
    trans x y z = elim (common3_of x y z) [ common3 D h p1 n1 p2 n2 p3 n3 e1 e2 e3 ↦ rw (e1, e2, e3) (simp overs (omega arith)) ]

    some_same : {a b : Number} → Some a ≡ Some b → a ≡ b
    some_same e = ap (λ o. elim o [ Some x ↦ x | None ↦ whole 0 ]) e

    less : (x y : Number) → x <ₙ y → y ≡ x → ⊥
    less x y l e = irrefl x (subst (λ z. x <ₙ z) e l)
      where
        irrefl : (x : Number) → x <ₙ x → ⊥
        irrefl x = elim (common1_of x) [ common1 D h p n e ↦ rw (e) (simp overs (omega arith)) ]

    one : (b : Bool) → high ≡ low → low ≡ (if b then high else low)
    one true g = sym g
    one false g = refl

    apart : (b : Bool) → (if b then whole 1 else neg (whole 1)) *ₙ a ≤ₙ whole 0 → a *ₙ (if b then high else low) ≤ₙ a *ₙ x
    apart true q = mul-le-mul_left_neg a x high (subst (λ z. z ≤ₙ whole 0) (by_ring (a ∷ []) (k 1 ⊗ v 0) (v 0) refl) q) m
    apart false q = mul-le-mul_left a low x (turn a (subst (λ z. z ≤ₙ whole 0) (by_ring (a ∷ []) (minus (k 1) ⊗ v 0) (minus (v 0)) refl) q)) l
      where
        turn : (a : Number) → neg a ≤ₙ whole 0 → whole 0 ≤ₙ a
        turn a = elim (common1_of a) [ common1 D h p n e ↦ rw (e) (simp (overs, whole-ratio 0 D h) (omega arith)) ]

pub stranded : (P : LinearProgram) (B : Boxes) (T : Tableau) (r : ℕ) (side near : Number) → IsOf P T → IsDualFeasible P T → IsBlocked P B T r side near → IsStranded P B T r side near
stranded P B T r side near o f h w s inside = off h.leaving.off
  where
    bounded : (j : ℕ) → j < P.columns → is_raised_above P T j ≡ true → upper P B (T.outside j) ≡ None → ⊥
    bounded j lj e n = elim (cases (T.outside j) P.columns P.rows (o.placed.outside_in j lj)) as (λ _. ⊥) [
      | inl l ↦ absurd (let t : upper P B (T.outside j) ≡ Some (B (T.outside j)).high = upper_column P B (T.outside j) l in let u : Some (B (T.outside j)).high ≡ None = sym t ∙ n in cc)
      | inr z ↦ of_slack z.0 z.1 z.2 (P.equation z.0) refl
    ]
      where
        of_slack : (i : ℕ) → i < P.rows → T.outside j ≡ P.columns + i → (q : Bool) → P.equation i ≡ q → ⊥
        of_slack i li e' true g = absurd (let u : Some (whole 0) ≡ None = sym (ap (upper P B) e' ∙ upper_slack P B i ∙ ap (λ b. if b then Some (whole 0) else None) g) ∙ n in cc)
        of_slack i li e' false g = absurd (let u : true ≡ false = sym e ∙ test_down (suc P.columns) (raised P T j) (f j i lj li e' g) in cc)

    each : (j : ℕ) → j < P.columns → (side *ₙ T.cell r j) *ₙ end_value P B T j ≤ₙ (side *ₙ T.cell r j) *ₙ w (T.outside j)
    each j lj = no_help (upper P B (T.outside j)) (lower P B (T.outside j)) (side *ₙ T.cell r j) (w (T.outside j)) (is_raised_above P T j) (inside j lj).low (inside j lj).high (bounded j lj)
        (λ m. subst (λ z. z ≤ₙ whole 0) (by_ring (side ∷ raised_sign P T j ∷ T.cell r j ∷ []) (v 0 ⊗ v 1 ⊗ v 2) (v 1 ⊗ (v 0 ⊗ v 2)) refl)
        (not_above (side *ₙ raised_sign P T j *ₙ T.cell r j) (λ q. h.closed j lj (record { movable = m; toward = q }))))

    sums : side *ₙ sum_to T.columns (λ j. T.cell r j *ₙ end_value P B T j) ≤ₙ side *ₙ sum_to T.columns (λ j. T.cell r j *ₙ w (T.outside j))
    sums = subst (λ z. z ≤ₙ side *ₙ sum_to T.columns (λ j. T.cell r j *ₙ w (T.outside j))) (pulled (end_value P B T))
        (subst (λ z. sum_to T.columns (λ j. (side *ₙ T.cell r j) *ₙ end_value P B T j) ≤ₙ z) (pulled (λ j. w (T.outside j)))
        (sum_to-le T.columns (λ j. (side *ₙ T.cell r j) *ₙ end_value P B T j) (λ j. (side *ₙ T.cell r j) *ₙ w (T.outside j)) (λ j l. each j (rw (← o.wide) l))))
      where
        pulled : (x : ℕ → Number) → sum_to T.columns (λ j. (side *ₙ T.cell r j) *ₙ x j) ≡ side *ₙ sum_to T.columns (λ j. T.cell r j *ₙ x j)
        pulled x = sum_to-same T.columns _ (λ j. side *ₙ (T.cell r j *ₙ x j)) (λ j l. by_ring (side ∷ T.cell r j ∷ x j ∷ []) ((v 0 ⊗ v 1) ⊗ v 2) (v 0 ⊗ (v 1 ⊗ v 2)) refl) ∙ sum_to-mul T.columns side (λ j. T.cell r j *ₙ x j)

    ends : Number
    ends = sum_to T.columns (λ j. T.cell r j *ₙ end_value P B T j)

    others : Number
    others = sum_to T.columns (λ j. T.cell r j *ₙ w (T.outside j))

    value_is : w (T.basic r) ≡ T.cell r T.columns -ₙ sum_to T.columns (λ j. T.cell r j *ₙ w (T.outside j))
    value_is = by_ring (w (T.basic r) ∷ sum_to T.columns (λ j. T.cell r j *ₙ w (T.outside j)) ∷ []) (v 0) ((v 0 ⊕ v 1) ⊖ v 1) refl
        ∙ ap (λ z. z -ₙ sum_to T.columns (λ j. T.cell r j *ₙ w (T.outside j))) (s r (let l : r < P.rows = h.leaving.row in omega (arith, o.tall)))

    off : IsOff P B (T.basic r) (basic_value P B T r) side near → IsOff P B (T.basic r) (w (T.basic r)) side near
    off (under e g l) = under e g (subst (λ z. z <ₙ near) (sym value_is) (lt_of_le-lt _ (basic_value P B T r) near (less (T.cell r T.columns) _ _ (ones ends others e sums)) l))
      where
        ones : (a b : Number) → side ≡ whole 1 → side *ₙ a ≤ₙ side *ₙ b → a ≤ₙ b
        ones a b q m = subst (λ z. z ≤ₙ b) (ap (λ z. z *ₙ a) q ∙ by_ring (a ∷ []) (k 1 ⊗ v 0) (v 0) refl) (subst (λ z. side *ₙ a ≤ₙ z) (ap (λ z. z *ₙ b) q ∙ by_ring (b ∷ []) (k 1 ⊗ v 0) (v 0) refl) m)

        less : (c a b : Number) → a ≤ₙ b → c -ₙ b ≤ₙ c -ₙ a
        less c a b = elim (common3_of c a b) [ common3 D h p1 n1 p2 n2 p3 n3 e1 e2 e3 ↦ rw (e1, e2, e3) (simp overs (omega arith)) ]
    off (over e g l) = over e g (subst (λ z. near <ₙ z) (sym value_is) (lt_of_lt-le near (basic_value P B T r) _ l (less (T.cell r T.columns) _ _ (ones ends others e sums))))
      where
        ones : (a b : Number) → side ≡ neg (whole 1) → side *ₙ a ≤ₙ side *ₙ b → b ≤ₙ a
        ones a b q m = turn a b (subst (λ z. z ≤ₙ neg b) (ap (λ z. z *ₙ a) q ∙ by_ring (a ∷ []) (minus (k 1) ⊗ v 0) (minus (v 0)) refl) (subst (λ z. side *ₙ a ≤ₙ z) (ap (λ z. z *ₙ b) q ∙ by_ring (b ∷ []) (minus (k 1) ⊗ v 0) (minus (v 0)) refl) m))
          where
            turn : (a b : Number) → neg a ≤ₙ neg b → b ≤ₙ a
            turn a b = elim (common2_of a b) [ common2 D h p1 n1 p2 n2 e1 e2 ↦ rw (e1, e2) (simp overs (omega arith)) ]

        less : (c a b : Number) → b ≤ₙ a → c -ₙ a ≤ₙ c -ₙ b
        less c a b = elim (common3_of c a b) [ common3 D h p1 n1 p2 n2 p3 n3 e1 e2 e3 ↦ rw (e1, e2, e3) (simp overs (omega arith)) ]
