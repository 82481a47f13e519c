-- Raised cost cells, read off a table by where each variable stands.
use Rattle.std.proofs.Common.{◌≡◌, ℕ, suc, ◌+◌, ◌-◌, ◌<◌, ◌≤◌, ◌⊎◌, inl, inr, ◌↔◌, refl, sym, ◌∙◌, ap, subst, arith, Bool, true, false, nat_eq, if◌then◌else◌, IsTrue, List, []}
use Rattle.hys_number.specs.Number.{Number}
use Rattle.hys_number.specs.Ops.{◌<ₙ◌, neg, whole}
use Rattle.hys_number.proofs.Bools.{eq_true, eq_false, not_true}
use Rattle.hys_number.proofs.Order.{le_antisymm}
use Rattle.hys_number.proofs.Ring.{by_ring, k, minus}
use Rattle.hys_relax.specs.LinearProgram.{LinearProgram}
use Rattle.hys_simplex.specs.Tableau.{Tableau, IsOf}
use Rattle.hys_simplex.specs.Status.{raised, is_positive, is_raised_above}
use Rattle.hys_simplex.proofs.Lex.{neg_above, positive_not_null}
use Rattle.hys_simplex.proofs.Pivots.{same_place}
use Rattle.hys_simplex.proofs.Ranges.{test_yes, test_is, test_down}
use Rattle.hys_simplex.proofs.Shows.{raised_cost, raised_basic, raised_own, raised_else}
use Rattle.hys_dual.specs.declared.stand.Stand.{Stand}
use Rattle.hys_dual.specs.declared.stand.Stand.TheVariants.{Basic, Outside}
use Rattle.hys_dual.proofs.Judging.{not_less}
use Rattle.hys_dual.specs.Standing.{StandsAt, stand_at, AllStand}

pub at_cost : (P : LinearProgram) (T : Tableau) (j place m : ℕ) (x : Number) → IsOf P T → j < T.columns → place ≡ 0 → m ≡ T.rows → x ≡ T.cell m j → x ≡ raised P T j place
at_cost P T j place m x o l e em ex = ex ∙ ap (λ z. T.cell z j) (em ∙ o.tall) ∙ sym (raised_cost P T o j (rw (← o.wide) l)) ∙ ap (raised P T j) (sym e)

pub place_stands : (T : Tableau) (xs : List Stand) (place : ℕ) (s : Stand) → AllStand T xs → ¬ (place ≡ 0) → place ≤ T.columns → stand_at xs (place - 1) ≡ s → StandsAt T (place - 1) s
place_stands T xs place s all d l e = subst (StandsAt T (place - 1)) e (all (place - 1) (omega (arith, d, l)))

pub at_basic : (P : LinearProgram) (T : Tableau) (j i place : ℕ) (xs : List Stand) (x : Number) → IsOf P T → AllStand T xs → j < T.columns → ¬ (place ≡ 0) → place ≤ T.columns →
    stand_at xs (place - 1) ≡ Basic i → x ≡ T.cell i j → x ≡ raised P T j place
at_basic P T j i place xs x o all l d lp e ex =
    let s : StandsAt T (place - 1) (Basic i) = place_stands T xs place (Basic i) all d lp e in
    let back : suc (place - 1) ≡ place = omega (arith, d) in
    ex ∙ sym (raised_basic P T o j i (place - 1) (rw (← o.wide) l) (omega (arith, s.0, o.tall)) s.1) ∙ ap (raised P T j) back

pub at_outside : (P : LinearProgram) (T : Tableau) (j i place : ℕ) (xs : List Stand) (x : Number) → IsOf P T → AllStand T xs → j < T.columns → ¬ (place ≡ 0) → place ≤ T.columns →
    stand_at xs (place - 1) ≡ Outside i → x ≡ (if nat_eq i j then neg (whole 1) else whole 0) → x ≡ raised P T j place
at_outside P T j i place xs x o all l d lp e ex =
    let s : StandsAt T (place - 1) (Outside i) = place_stands T xs place (Outside i) all d lp e in
    let back : suc (place - 1) ≡ place = omega (arith, d) in
    elim (same_place i j) as (λ _. x ≡ raised P T j place) [
      | inl q ↦ ex ∙ ap (λ b. if b then neg (whole 1) else whole 0) (eq_true i j q) ∙ sym (raised_own P T o j (place - 1) (rw (← o.wide) l) (ap T.outside (sym q) ∙ s.1)) ∙ ap (raised P T j) back
      | inr q ↦ ex ∙ ap (λ b. if b then neg (whole 1) else whole 0) (eq_false i j q) ∙ sym (raised_else P T o j i (place - 1) (rw (← o.wide) l) (rw (← o.wide) s.0) q s.1) ∙ ap (raised P T j) back
    ]

-- ---- the sign: the first place that isn't 0 decides
abbrev pub AreZeroBelow : LinearProgram → Tableau → ℕ → ℕ → Type 0
AreZeroBelow P T j n = (t : ℕ) → t < n → raised P T j t ≡ whole 0

pub above_at : (P : LinearProgram) (T : Tableau) (j place : ℕ) (x : Number) → place < P.columns + 1 → AreZeroBelow P T j place → x ≡ raised P T j place → whole 0 <ₙ x → true ≡ is_raised_above P T j
above_at P T j place x l z e h = sym (test_is (suc P.columns) (raised P T j) (record { place = place; within = omega (arith, l); before = z; above = subst (λ y. whole 0 <ₙ y) e h }))

pub below_at : (P : LinearProgram) (T : Tableau) (j place : ℕ) (x : Number) → place < P.columns + 1 → AreZeroBelow P T j place → x ≡ raised P T j place → x <ₙ whole 0 → false ≡ is_raised_above P T j
below_at P T j place x l z e h = sym (test_down (suc P.columns) (raised P T j) (record {
  place = place;
  within = omega (arith, l);
  before = λ t m. ap neg (z t m) ∙ by_ring [] (minus (k 0)) (k 0) refl;
  above = neg_above (raised P T j place) (subst (λ y. y <ₙ whole 0) e h);
}))

pub null_at : (P : LinearProgram) (T : Tableau) (j n : ℕ) → P.columns + 1 ≤ n → AreZeroBelow P T j n → false ≡ is_raised_above P T j
null_at P T j n l z = sym (not_true (is_positive (suc P.columns) (raised P T j))
    (λ e. positive_not_null (suc P.columns) (raised P T j) (test_yes (suc P.columns) (raised P T j) e) (λ t m. z t (omega (arith, l, m)))))

below_or_at : (q t : ℕ) → q < t + 1 → (q < t) ⊎ (q ≡ t)
below_or_at q t l = grind arith

pub zero_next : (P : LinearProgram) (T : Tableau) (j n : ℕ) (x : Number) (a b : Bool) → x ≡ raised P T j n → (IsTrue a ↔ (whole 0 <ₙ x)) → a ≡ false → (IsTrue b ↔ (x <ₙ whole 0)) → b ≡ false → AreZeroBelow P T j n → AreZeroBelow P T j (n + 1)
zero_next P T j n x a b e p f q g z t l = elim (below_or_at t n l) as (λ _. raised P T j t ≡ whole 0) [
  | inl h ↦ z t h
  | inr h ↦ ap (raised P T j) h ∙ sym e ∙ le_antisymm x (whole 0) (not_less (whole 0) x a f p) (not_less x (whole 0) b g q)
]
