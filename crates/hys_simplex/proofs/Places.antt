-- Where the variables stand, and their factors.
use Rattle.std.proofs.Common.{◌≡◌, ℕ, ◌+◌, ◌-◌, ◌<◌, ◌≤◌, ◌↔◌, ◌⊎◌, inl, inr, refl, sym, ◌∙◌, ap, ap₂, subst, arith, [], ◌∷◌}
use Rattle.hys_number.specs.Ops.{whole, ◌+ₙ◌, ◌*ₙ◌}
use Rattle.hys_relax.proofs.Sums.{sum_zero, sum_single}
use Rattle.hys_relax.specs.LinearProgram.{LinearProgram}
use Rattle.hys_simplex.specs.Tableau.{Tableau, start, put, pivot, Solves, unit, coef, IsPlaced, IsOf}
use Rattle.hys_simplex.proofs.Pivots.{put_at, put_else, same_place, pivot_keeps}
use Rattle.hys_simplex.proofs.Rows.{unit_yes, unit_no, start_is_mix, pivot_is_mix}
use Rattle.hys_number.proofs.Ring.{by_ring, v, k, ◌⊕◌, ◌⊗◌}

pub start_placed : (P : LinearProgram) → IsPlaced P.columns P.rows (start P)
start_placed P = record {
  apart = λ i j l m e. absurd (omega arith);
  once = λ j j' l l' e. e;
  basic_once = λ i i' l l' e. omega arith;
  somewhere = λ u l. go u l (split u P.columns);
  goal = refl;
  basic_in = λ i l. omega arith;
  outside_in = λ j l. omega arith;
}
  where
    split : (u n : ℕ) → (u < n) ⊎ (n ≤ u)
    split u n = grind arith

    go : (u : ℕ) → u < P.columns + P.rows → (u < P.columns) ⊎ (P.columns ≤ u) → ((i : ℕ) × (i < P.rows) × (P.columns + i ≡ u)) ⊎ ((j : ℕ) × (j < P.columns) × (j ≡ u))
    go u l (inl m) = inr (u, m, refl)
    go u l (inr m) = inl (u - P.columns, omega arith, omega arith)

-- the two exchanged, and the others as before
pub data PutCase (f : ℕ → ℕ) (a x i : ℕ) : Type 0 where
  moved : i ≡ a → put f a x i ≡ x → PutCase f a x i
  kept : ¬ (i ≡ a) → put f a x i ≡ f i → PutCase f a x i

pub put_case : (f : ℕ → ℕ) (a x i : ℕ) → PutCase f a x i
put_case f a x i = elim (same_place i a) as (λ _. PutCase f a x i) [
  | inl e ↦ moved e (subst (λ z. put f a x z ≡ x) (sym e) (put_at f a x))
  | inr d ↦ kept d (put_else f a x i d)
]

pub pivot_placed : (n m : ℕ) (T : Tableau) (r c : ℕ) → r < m → c < n → IsPlaced n m T → IsPlaced n m (pivot T r c)
pivot_placed n m T r c lr lc s = record {
  apart = λ i j l h e. elim (put_case T.basic r (T.outside c) i) as (λ _. ⊥) [
    | moved q a ↦ elim (put_case T.outside c (T.basic r) j) as (λ _. ⊥) [
      | moved q' b ↦ s.apart r c (omega arith) lc (sym (sym a ∙ e ∙ b))
      | kept d' b ↦ d' (sym (s.once c j lc h (sym a ∙ e ∙ b)))
    ]
    | kept d a ↦ elim (put_case T.outside c (T.basic r) j) as (λ _. ⊥) [
      | moved q' b ↦ d (s.basic_once i r l (omega arith) (sym a ∙ e ∙ b))
      | kept d' b ↦ s.apart i j l h (sym a ∙ e ∙ b)
    ]
  ];
  once = λ j j' l l' e. elim (put_case T.outside c (T.basic r) j) as (λ _. j ≡ j') [
    | moved q a ↦ elim (put_case T.outside c (T.basic r) j') as (λ _. j ≡ j') [
      | moved q' b ↦ q ∙ sym q'
      | kept d' b ↦ absurd (s.apart r j' (omega arith) l' (sym a ∙ e ∙ b))
    ]
    | kept d a ↦ elim (put_case T.outside c (T.basic r) j') as (λ _. j ≡ j') [
      | moved q' b ↦ absurd (s.apart r j (omega arith) l (sym (sym a ∙ e ∙ b)))
      | kept d' b ↦ s.once j j' l l' (sym a ∙ e ∙ b)
    ]
  ];
  basic_once = λ i i' l l' e. elim (put_case T.basic r (T.outside c) i) as (λ _. i ≡ i') [
    | moved q a ↦ elim (put_case T.basic r (T.outside c) i') as (λ _. i ≡ i') [
      | moved q' b ↦ q ∙ sym q'
      | kept d' b ↦ absurd (s.apart i' c l' lc (sym (sym a ∙ e ∙ b)))
    ]
    | kept d a ↦ elim (put_case T.basic r (T.outside c) i') as (λ _. i ≡ i') [
      | moved q' b ↦ absurd (s.apart i c l lc (sym a ∙ e ∙ b))
      | kept d' b ↦ s.basic_once i i' l l' (sym a ∙ e ∙ b)
    ]
  ];
  somewhere = λ u l. elim (s.somewhere u l) as (λ _. ((i : ℕ) × (i < m) × ((pivot T r c).basic i ≡ u)) ⊎ ((j : ℕ) × (j < n) × ((pivot T r c).outside j ≡ u))) [
    | inl w ↦ elim (put_case T.basic r (T.outside c) w.0) as (λ _. ((i : ℕ) × (i < m) × ((pivot T r c).basic i ≡ u)) ⊎ ((j : ℕ) × (j < n) × ((pivot T r c).outside j ≡ u))) [
      | moved q a ↦ inr (c, lc, put_at T.outside c (T.basic r) ∙ ap T.basic (sym q) ∙ w.2)
      | kept d a ↦ inl (w.0, w.1, a ∙ w.2)
    ]
    | inr w ↦ elim (put_case T.outside c (T.basic r) w.0) as (λ _. ((i : ℕ) × (i < m) × ((pivot T r c).basic i ≡ u)) ⊎ ((j : ℕ) × (j < n) × ((pivot T r c).outside j ≡ u))) [
      | moved q a ↦ inl (r, lr, put_at T.basic r (T.outside c) ∙ ap T.outside (sym q) ∙ w.2)
      | kept d a ↦ inr (w.0, w.1, a ∙ w.2)
    ]
  ];
  goal = put_else T.basic r (T.outside c) m (λ e. absurd (omega arith)) ∙ s.goal;
  basic_in = λ i l. elim (put_case T.basic r (T.outside c) i) as (λ _. (pivot T r c).basic i < n + m) [
    | moved q a ↦ rw a (s.outside_in c lc)
    | kept d a ↦ rw a (s.basic_in i l)
  ];
  outside_in = λ j l. elim (put_case T.outside c (T.basic r) j) as (λ _. (pivot T r c).outside j < n + m) [
    | moved q a ↦ rw a (s.basic_in r lr)
    | kept d a ↦ rw a (s.outside_in j l)
  ];
}

pub start_of : (P : LinearProgram) → IsOf P (start P)
start_of P = record { wide = refl; tall = refl; mixes = start_is_mix P; placed = start_placed P; keeps = λ w. (λ s. s, λ s. s) }

pub pivot_of : (P : LinearProgram) (T : Tableau) (r c : ℕ) → r < P.rows → c < P.columns → ¬ (T.cell r c ≡ whole 0) → IsOf P T → IsOf P (pivot T r c)
pivot_of P T r c lr lc h s =
    let lc' : c < T.columns = rw s.wide lc in
    let lr' : r < T.rows = rw s.tall lr in
    record {
      wide = s.wide;
      tall = s.tall;
      mixes = pivot_is_mix P T r c lr lc' h s.mixes;
      placed = pivot_placed P.columns P.rows T r c lr lc s.placed;
      keeps = λ w. let e : Solves T w ↔ Solves (pivot T r c) w = pivot_keeps T r c w lr' lc' h in (λ x. e.0 ((s.keeps w).0 x), λ x. (s.keeps w).1 (e.1 x));
    }

-- ---- the factor of a variable that stands outside, and of one that is basic
pub coef_outside : (P : LinearProgram) (T : Tableau) → IsOf P T → (i j : ℕ) → i ≤ P.rows → j < P.columns → coef T i (T.outside j) ≡ T.cell i j
coef_outside P T s i j li lj = ap₂ ◌+ₙ◌ (unit_no (T.outside j) (T.basic i) (s.placed.apart i j li lj))
    (sum_single T.columns j (λ q. T.cell i q *ₙ unit (T.outside j) (T.outside q)) (rw s.wide lj)
    (λ q m d. ap (λ z. T.cell i q *ₙ z) (unit_no (T.outside j) (T.outside q) (λ e. d (s.placed.once q j (rw (← s.wide) m) lj e))) ∙ by_ring (T.cell i q ∷ []) (v 0 ⊗ k 0) (k 0) refl)
    ∙ ap (λ z. T.cell i j *ₙ z) (unit_yes (T.outside j)))
    ∙ by_ring (T.cell i j ∷ []) (k 0 ⊕ v 0 ⊗ k 1) (v 0) refl

pub coef_basic : (P : LinearProgram) (T : Tableau) → IsOf P T → (i i' : ℕ) → i ≤ P.rows → i' ≤ P.rows → ¬ (i ≡ i') → coef T i (T.basic i') ≡ whole 0
coef_basic P T s i i' li li' d = ap₂ ◌+ₙ◌ (unit_no (T.basic i') (T.basic i) (λ e. d (s.placed.basic_once i i' li li' e)))
    (sum_zero T.columns (λ q. T.cell i q *ₙ unit (T.basic i') (T.outside q))
    (λ q m. ap (λ z. T.cell i q *ₙ z) (unit_no (T.basic i') (T.outside q) (λ e. s.placed.apart i' q li' (rw (← s.wide) m) (sym e))) ∙ by_ring (T.cell i q ∷ []) (v 0 ⊗ k 0) (k 0) refl))
    ∙ by_ring [] (k 0 ⊕ k 0) (k 0) refl
