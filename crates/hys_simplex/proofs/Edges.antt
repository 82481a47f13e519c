-- Edges: what the rows and the variables outside determine.
use Rattle.std.proofs.Common.{◌≡◌, ℕ, suc, ◌+◌, ◌<◌, ◌≤◌, ◌⊎◌, inl, inr, refl, sym, ◌∙◌, ap, ap₂, subst, arith, [], ◌∷◌}
use Rattle.hys_number.specs.Number.{Number}
use Rattle.hys_number.specs.Sums.{sum_to}
use Rattle.hys_number.specs.Ops.{neg, inverse, whole, ◌+ₙ◌, ◌*ₙ◌, ◌-ₙ◌}
use Rattle.hys_number.proofs.Inverse.{mul_inverse}
use Rattle.hys_number.proofs.Sums.{sum_to-same}
use Rattle.hys_relax.proofs.Sums.{sum_linear, sum_zero, sum_single}
use Rattle.hys_relax.specs.LinearProgram.{LinearProgram}
use Rattle.hys_simplex.specs.Tableau.{Tableau, pivot, line, Solves, unit, IsOf}
use Rattle.hys_simplex.specs.Status.{edge}
use Rattle.hys_simplex.proofs.Pivots.{put_at, put_else, line_r, line_other, same_place}
use Rattle.hys_simplex.proofs.Rows.{unit_yes, unit_no}
use Rattle.hys_simplex.proofs.Places.{put_case, pivot_of, moved, kept}
use Rattle.hys_number.proofs.Ring.{by_ring, v, k, minus, ◌⊕◌, ◌⊗◌, ◌⊖◌}

pub line_linear : (T : Tableau) (a b : Number) (f g : ℕ → Number) (i : ℕ) → line T (λ u. a *ₙ f u +ₙ b *ₙ g u) i ≡ a *ₙ line T f i +ₙ b *ₙ line T g i
line_linear T a b f g i =
    ap (λ z. (a *ₙ f (T.basic i) +ₙ b *ₙ g (T.basic i)) +ₙ z)
    (sum_to-same T.columns _ (λ j. a *ₙ (T.cell i j *ₙ f (T.outside j)) +ₙ b *ₙ (T.cell i j *ₙ g (T.outside j)))
    (λ j l. by_ring (a ∷ b ∷ T.cell i j ∷ f (T.outside j) ∷ g (T.outside j) ∷ []) (v 2 ⊗ (v 0 ⊗ v 3 ⊕ v 1 ⊗ v 4)) (v 0 ⊗ (v 2 ⊗ v 3) ⊕ v 1 ⊗ (v 2 ⊗ v 4)) refl)
    ∙ sum_linear T.columns a b (λ j. T.cell i j *ₙ f (T.outside j)) (λ j. T.cell i j *ₙ g (T.outside j)))
    ∙ by_ring (a ∷ b ∷ f (T.basic i) ∷ g (T.basic i) ∷ sum_to T.columns (λ j. T.cell i j *ₙ f (T.outside j)) ∷ sum_to T.columns (λ j. T.cell i j *ₙ g (T.outside j)) ∷ [])
    ((v 0 ⊗ v 2 ⊕ v 1 ⊗ v 3) ⊕ (v 0 ⊗ v 4 ⊕ v 1 ⊗ v 5)) (v 0 ⊗ (v 2 ⊕ v 4) ⊕ v 1 ⊗ (v 3 ⊕ v 5)) refl

abbrev pub IsFlat : Tableau → (ℕ → Number) → Type 0
IsFlat T h = (i : ℕ) → i ≤ T.rows → line T h i ≡ whole 0

pub flat_linear : (T : Tableau) (a b : Number) (f g : ℕ → Number) → IsFlat T f → IsFlat T g → IsFlat T (λ u. a *ₙ f u +ₙ b *ₙ g u)
flat_linear T a b f g hf hg i l = line_linear T a b f g i ∙ ap₂ (λ y z. a *ₙ y +ₙ b *ₙ z) (hf i l) (hg i l) ∙ by_ring (a ∷ b ∷ []) (v 0 ⊗ k 0 ⊕ v 1 ⊗ k 0) (k 0) refl

pub flat_pivot : (T : Tableau) (r c : ℕ) (h : ℕ → Number) → r ≤ T.rows → c < T.columns → ¬ (T.cell r c ≡ whole 0) → IsFlat T h → IsFlat (pivot T r c) h
flat_pivot T r c h lr lc p f i l = elim (same_place i r) as (λ _. line (pivot T r c) h i ≡ whole 0) [
  | inl e ↦ subst (λ z. line (pivot T r c) h z ≡ whole 0) (sym e) (line_r T r c h lc p ∙ ap (λ z. inverse (T.cell r c) *ₙ z) (f r lr) ∙ by_ring (inverse (T.cell r c) ∷ []) (v 0 ⊗ k 0) (k 0) refl)
  | inr d ↦ line_other T r c h i lc p d ∙ ap₂ (λ y z. y -ₙ (T.cell i c *ₙ inverse (T.cell r c)) *ₙ z) (f i l) (f r lr) ∙ by_ring ((T.cell i c *ₙ inverse (T.cell r c)) ∷ []) (k 0 ⊖ v 0 ⊗ k 0) (k 0) refl
]

-- what the rows and the variables outside determine
pub determined : (P : LinearProgram) (T : Tableau) → IsOf P T → (f g : ℕ → Number) → ((i : ℕ) → i ≤ P.rows → line T f i ≡ line T g i) → ((j : ℕ) → j < P.columns → f (T.outside j) ≡ g (T.outside j)) →
    (u : ℕ) → u ≤ P.columns + P.rows → f u ≡ g u
determined P T o f g h s u l = elim (cases u l) as (λ _. f u ≡ g u) [
  | inl e ↦ subst (λ z. f z ≡ g z) (o.placed.goal ∙ sym e) (basic P.rows (omega arith))
  | inr m ↦ elim (o.placed.somewhere u m) as (λ _. f u ≡ g u) [
    | inl w ↦ subst (λ z. f z ≡ g z) w.2 (basic w.0 (omega (arith, w.1)))
    | inr w ↦ subst (λ z. f z ≡ g z) w.2 (s w.0 w.1)
  ]
]
  where
    cases : (u : ℕ) → u ≤ P.columns + P.rows → (u ≡ P.columns + P.rows) ⊎ (u < P.columns + P.rows)
    cases u l = grind arith

    drop : (x y s t : Number) → x +ₙ s ≡ y +ₙ t → s ≡ t → x ≡ y
    drop x y s t e q = by_ring (x ∷ s ∷ []) (v 0) ((v 0 ⊕ v 1) ⊖ v 1) refl ∙ ap₂ (λ m n. m -ₙ n) e q ∙ by_ring (y ∷ t ∷ []) ((v 0 ⊕ v 1) ⊖ v 1) (v 0) refl

    basic : (i : ℕ) → i ≤ P.rows → f (T.basic i) ≡ g (T.basic i)
    basic i l = drop (f (T.basic i)) (g (T.basic i)) (sum_to T.columns (λ j. T.cell i j *ₙ f (T.outside j))) (sum_to T.columns (λ j. T.cell i j *ₙ g (T.outside j))) (h i l)
        (sum_to-same T.columns _ _ (λ j m. ap (λ z. T.cell i j *ₙ z) (s j (rw (← o.wide) m))))

-- ---- edges
pub edge_outside : (P : LinearProgram) (T : Tableau) → IsOf P T → (c j : ℕ) → c < P.columns → j < P.columns → edge T c (T.outside j) ≡ unit (T.outside c) (T.outside j)
edge_outside P T o c j lc lj = ap (λ z. unit (T.outside c) (T.outside j) -ₙ z)
    (sum_zero (suc T.rows) _ (λ i l. ap (λ z. z *ₙ T.cell i c) (unit_no (T.basic i) (T.outside j) (λ e. o.placed.apart i j (omega (arith, o.tall)) lj (sym e))) ∙ by_ring (T.cell i c ∷ []) (k 0 ⊗ v 0) (k 0) refl))
    ∙ by_ring (unit (T.outside c) (T.outside j) ∷ []) (v 0 ⊖ k 0) (v 0) refl

pub edge_basic : (P : LinearProgram) (T : Tableau) → IsOf P T → (c i : ℕ) → c < P.columns → i ≤ P.rows → edge T c (T.basic i) ≡ neg (T.cell i c)
edge_basic P T o c i lc li = ap₂ (λ y z. y -ₙ z) (unit_no (T.outside c) (T.basic i) (o.placed.apart i c li lc))
    (sum_single (suc T.rows) i (λ q. unit (T.basic q) (T.basic i) *ₙ T.cell q c) (omega (arith, o.tall)) (λ q l d. ap (λ z. z *ₙ T.cell q c) (unit_no (T.basic q) (T.basic i) (λ e. d (o.placed.basic_once q i (omega (arith, o.tall)) li (sym e)))) ∙ by_ring (T.cell q c ∷ []) (k 0 ⊗ v 0) (k 0) refl)
    ∙ ap (λ z. z *ₙ T.cell i c) (unit_yes (T.basic i)))
    ∙ by_ring (T.cell i c ∷ []) (k 0 ⊖ k 1 ⊗ v 0) (minus (v 0)) refl

unit_apart : (P : LinearProgram) (T : Tableau) → IsOf P T → (c j : ℕ) → c < P.columns → j < P.columns → ¬ (j ≡ c) → unit (T.outside c) (T.outside j) ≡ whole 0
unit_apart P T o c j lc lj d = unit_no (T.outside c) (T.outside j) (λ e. d (o.placed.once j c lj lc e))

pub edge_flat : (P : LinearProgram) (T : Tableau) → IsOf P T → (c : ℕ) → c < P.columns → IsFlat T (edge T c)
edge_flat P T o c lc i l = ap₂ ◌+ₙ◌ (edge_basic P T o c i lc (rw (← o.tall) l))
    (sum_single T.columns c (λ j. T.cell i j *ₙ edge T c (T.outside j)) (rw o.wide lc)
    (λ j m d. ap (λ z. T.cell i j *ₙ z) (edge_outside P T o c j lc (rw (← o.wide) m) ∙ unit_apart P T o c j lc (rw (← o.wide) m) d) ∙ by_ring (T.cell i j ∷ []) (v 0 ⊗ k 0) (k 0) refl)
    ∙ ap (λ z. T.cell i c *ₙ z) (edge_outside P T o c c lc lc ∙ unit_yes (T.outside c)))
    ∙ by_ring (T.cell i c ∷ []) (minus (v 0) ⊕ v 0 ⊗ k 1) (k 0) refl

-- two solutions that differ outside in one column differ by a multiple of its edge
pub along_edge : (P : LinearProgram) (T : Tableau) → IsOf P T → (c : ℕ) → c < P.columns → (w w' : ℕ → Number) → Solves T w → Solves T w' →
    ((j : ℕ) → j < P.columns → ¬ (j ≡ c) → w' (T.outside j) ≡ w (T.outside j)) →
    (u : ℕ) → u ≤ P.columns + P.rows → w' u ≡ whole 1 *ₙ w u +ₙ (w' (T.outside c) -ₙ w (T.outside c)) *ₙ edge T c u
along_edge P T o c lc w w' s s' h = determined P T o w' (λ u. whole 1 *ₙ w u +ₙ t *ₙ edge T c u)
    (λ i l. let l' : i ≤ T.rows = rw o.tall l in s' i l' ∙ sym (line_linear T (whole 1) t w (edge T c) i ∙ ap₂ (λ y z. whole 1 *ₙ y +ₙ t *ₙ z) (s i l') (edge_flat P T o c lc i l') ∙ by_ring (T.cell i T.columns ∷ t ∷ []) (k 1 ⊗ v 0 ⊕ v 1 ⊗ k 0) (v 0) refl))
    (λ j l. elim (same_place j c) as (λ _. w' (T.outside j) ≡ whole 1 *ₙ w (T.outside j) +ₙ t *ₙ edge T c (T.outside j)) [
      | inl e ↦ subst (λ z. w' (T.outside z) ≡ whole 1 *ₙ w (T.outside z) +ₙ t *ₙ edge T c (T.outside z)) (sym e)
          (sym (ap (λ z. whole 1 *ₙ w (T.outside c) +ₙ t *ₙ z) (edge_outside P T o c c lc lc ∙ unit_yes (T.outside c)) ∙ by_ring (w (T.outside c) ∷ w' (T.outside c) ∷ []) (k 1 ⊗ v 0 ⊕ (v 1 ⊖ v 0) ⊗ k 1) (v 1) refl))
      | inr d ↦ h j l d ∙ sym (ap (λ z. whole 1 *ₙ w (T.outside j) +ₙ t *ₙ z) (edge_outside P T o c j lc l ∙ unit_apart P T o c j lc l d) ∙ by_ring (w (T.outside j) ∷ t ∷ []) (k 1 ⊗ v 0 ⊕ v 1 ⊗ k 0) (v 0) refl)
    ])
  where
    t : Number
    t = w' (T.outside c) -ₙ w (T.outside c)

-- ---- a pivot on edges
pub edge_entering : (P : LinearProgram) (T : Tableau) (r c : ℕ) → IsOf P T → r < P.rows → c < P.columns → ¬ (T.cell r c ≡ whole 0) → (u : ℕ) → u ≤ P.columns + P.rows →
    edge (pivot T r c) c u ≡ neg (inverse (T.cell r c)) *ₙ edge T c u +ₙ whole 0 *ₙ edge T c u
edge_entering P T r c o lr lc p = determined P (pivot T r c) o' (edge (pivot T r c) c) (λ u. neg (inverse (T.cell r c)) *ₙ edge T c u +ₙ whole 0 *ₙ edge T c u)
    (λ i l. edge_flat P (pivot T r c) o' c lc i (rw o.tall l) ∙ sym (flat_pivot T r c (λ u. neg (inverse (T.cell r c)) *ₙ edge T c u +ₙ whole 0 *ₙ edge T c u) (omega (arith, o.tall)) (rw o.wide lc) p (flat_linear T (neg (inverse (T.cell r c))) (whole 0) (edge T c) (edge T c) (edge_flat P T o c lc) (edge_flat P T o c lc)) i (rw o.tall l)))
    (λ j l. edge_outside P (pivot T r c) o' c j lc l ∙ elim (put_case T.outside c (T.basic r) j) as (λ _. unit ((pivot T r c).outside c) ((pivot T r c).outside j) ≡ neg (inverse (T.cell r c)) *ₙ edge T c ((pivot T r c).outside j) +ₙ whole 0 *ₙ edge T c ((pivot T r c).outside j)) [
      | moved e a ↦ rw (a, put_at T.outside c (T.basic r)) (unit_yes (T.basic r) ∙ sym (ap (λ z. neg (inverse (T.cell r c)) *ₙ z +ₙ whole 0 *ₙ z) (edge_basic P T o c r lc (omega arith))
          ∙ by_ring (inverse (T.cell r c) ∷ T.cell r c ∷ []) (minus (v 0) ⊗ minus (v 1) ⊕ k 0 ⊗ minus (v 1)) (v 1 ⊗ v 0) refl ∙ mul_inverse (T.cell r c) p))
      | kept d a ↦ rw (a, put_at T.outside c (T.basic r)) (unit_no (T.basic r) (T.outside j) (λ e. o.placed.apart r j (omega arith) l (sym e)) ∙ sym (ap (λ z. neg (inverse (T.cell r c)) *ₙ z +ₙ whole 0 *ₙ z) (edge_outside P T o c j lc l ∙ unit_apart P T o c j lc l d)
          ∙ by_ring (inverse (T.cell r c) ∷ []) (minus (v 0) ⊗ k 0 ⊕ k 0 ⊗ k 0) (k 0) refl))
    ])
  where
    o' : IsOf P (pivot T r c)
    o' = pivot_of P T r c lr lc p o

pub edge_else : (P : LinearProgram) (T : Tableau) (r c : ℕ) → IsOf P T → r < P.rows → c < P.columns → ¬ (T.cell r c ≡ whole 0) → (q : ℕ) → q < P.columns → ¬ (q ≡ c) → (u : ℕ) → u ≤ P.columns + P.rows →
    edge (pivot T r c) q u ≡ whole 1 *ₙ edge T q u +ₙ neg (inverse (T.cell r c) *ₙ T.cell r q) *ₙ edge T c u
edge_else P T r c o lr lc p q lq dq = determined P (pivot T r c) o' (edge (pivot T r c) q) (λ u. whole 1 *ₙ edge T q u +ₙ t *ₙ edge T c u)
    (λ i l. edge_flat P (pivot T r c) o' q lq i (rw o.tall l) ∙ sym (flat_pivot T r c (λ u. whole 1 *ₙ edge T q u +ₙ t *ₙ edge T c u) (omega (arith, o.tall)) (rw o.wide lc) p (flat_linear T (whole 1) t (edge T q) (edge T c) (edge_flat P T o q lq) (edge_flat P T o c lc)) i (rw o.tall l)))
    (λ j l. edge_outside P (pivot T r c) o' q j lq l ∙ elim (put_case T.outside c (T.basic r) j) as (λ _. unit ((pivot T r c).outside q) ((pivot T r c).outside j) ≡ whole 1 *ₙ edge T q ((pivot T r c).outside j) +ₙ t *ₙ edge T c ((pivot T r c).outside j)) [
      | moved e a ↦ rw (a, put_else T.outside c (T.basic r) q dq) (unit_no (T.outside q) (T.basic r) (o.placed.apart r q (omega arith) lq) ∙ sym (ap₂ (λ y z. whole 1 *ₙ y +ₙ t *ₙ z) (edge_basic P T o q r lq (omega arith)) (edge_basic P T o c r lc (omega arith))
          ∙ by_ring (T.cell r q ∷ T.cell r c ∷ inverse (T.cell r c) ∷ []) (k 1 ⊗ minus (v 0) ⊕ minus (v 2 ⊗ v 0) ⊗ minus (v 1)) ((v 1 ⊗ v 2 ⊖ k 1) ⊗ v 0) refl ∙ ap (λ z. (z -ₙ whole 1) *ₙ T.cell r q) (mul_inverse (T.cell r c) p) ∙ by_ring (T.cell r q ∷ []) ((k 1 ⊖ k 1) ⊗ v 0) (k 0) refl))
      | kept d a ↦ rw (a, put_else T.outside c (T.basic r) q dq) (sym (ap₂ (λ y z. whole 1 *ₙ y +ₙ t *ₙ z) (edge_outside P T o q j lq l) (edge_outside P T o c j lc l ∙ unit_apart P T o c j lc l d)
          ∙ by_ring (unit (T.outside q) (T.outside j) ∷ t ∷ []) (k 1 ⊗ v 0 ⊕ v 1 ⊗ k 0) (v 0) refl))
    ])
  where
    o' : IsOf P (pivot T r c)
    o' = pivot_of P T r c lr lc p o

    t : Number
    t = neg (inverse (T.cell r c) *ₙ T.cell r q)
