-- A pivot keeps the solutions of the rows.
use Rattle.std.proofs.Common.{◌≡◌, ℕ, ◌<◌, ◌↔◌, ◌⊎◌, inl, inr, refl, sym, ◌∙◌, ap, ap₂, subst, arith, [], ◌∷◌}
use Rattle.hys_number.specs.Number.{Number}
use Rattle.hys_number.specs.Sums.{sum_to}
use Rattle.hys_number.specs.Ops.{neg, inverse, whole, ◌+ₙ◌, ◌*ₙ◌, ◌-ₙ◌, ◌/ₙ◌}
use Rattle.hys_number.proofs.Inverse.{mul_inverse}
use Rattle.hys_relax.proofs.Sums.{sum_apart}
use Rattle.hys_simplex.specs.Tableau.{Tableau, put, pivoted, pivot, line, Solves}
use Rattle.hys_simplex.proofs.Same.{same_yes, same_no}
use Rattle.hys_number.proofs.Ring.{by_ring, v, k, minus, ◌⊕◌, ◌⊗◌, ◌⊖◌}

pub inverse-neg : (p : Number) → ¬ (p ≡ whole 0) → inverse (neg p) ≡ neg (inverse p)
inverse-neg p h =
    let e : p *ₙ inverse p ≡ whole 1 = mul_inverse p h in
    let d : neg p *ₙ inverse (neg p) ≡ whole 1 = mul_inverse (neg p) (λ q. h (by_ring (p ∷ []) (v 0) (minus (minus (v 0))) refl ∙ ap neg q ∙ by_ring [] (minus (k 0)) (k 0) refl)) in
    by_ring (inverse (neg p) ∷ []) (v 0) (k 1 ⊗ v 0) refl ∙ ap (λ z. z *ₙ inverse (neg p)) (sym e)
    ∙ by_ring (p ∷ inverse p ∷ inverse (neg p) ∷ []) ((v 0 ⊗ v 1) ⊗ v 2) (minus (v 1) ⊗ (minus (v 0) ⊗ v 2)) refl
    ∙ ap (λ z. neg (inverse p) *ₙ z) d ∙ by_ring (inverse p ∷ []) (minus (v 0) ⊗ k 1) (minus (v 0)) refl

pub cell_rc : (M : ℕ → ℕ → Number) (r c : ℕ) → pivoted M r c r c ≡ inverse (M r c)
cell_rc M r c = rw (same_yes r, same_yes c) refl

pub cell_r : (M : ℕ → ℕ → Number) (r c j : ℕ) → ¬ (j ≡ c) → pivoted M r c r j ≡ M r j /ₙ M r c
cell_r M r c j d = rw (same_yes r, same_no j c (λ q. d (sym q))) refl

pub cell_c : (M : ℕ → ℕ → Number) (r c i : ℕ) → ¬ (i ≡ r) → pivoted M r c i c ≡ M i c /ₙ neg (M r c)
cell_c M r c i d = rw (same_no i r (λ q. d (sym q)), same_yes c) refl

pub cell_other : (M : ℕ → ℕ → Number) (r c i j : ℕ) → ¬ (i ≡ r) → ¬ (j ≡ c) → pivoted M r c i j ≡ M i j -ₙ M i c *ₙ (M r j /ₙ M r c)
cell_other M r c i j d d' = rw (same_no i r (λ q. d (sym q)), same_no j c (λ q. d' (sym q))) refl

pub put_at : (f : ℕ → ℕ) (a x : ℕ) → put f a x a ≡ x
put_at f a x = rw (same_yes a) refl

pub put_else : (f : ℕ → ℕ) (a x i : ℕ) → ¬ (i ≡ a) → put f a x i ≡ f i
put_else f a x i d = rw (same_no i a (λ q. d (sym q))) refl

-- ---- what a pivot does to the left sides and the constants
pub line_r : (T : Tableau) (r c : ℕ) (w : ℕ → Number) → c < T.columns → ¬ (T.cell r c ≡ whole 0) → line (pivot T r c) w r ≡ inverse (T.cell r c) *ₙ line T w r
line_r T r c w l h =
    let ip : Number = inverse (T.cell r c) in
    let f : ℕ → Number = λ j. T.cell r j *ₙ w (T.outside j) in
    let g : ℕ → Number = λ j. (pivot T r c).cell r j *ₙ w ((pivot T r c).outside j) in
    let s : sum_to T.columns g ≡ (ip *ₙ sum_to T.columns f +ₙ whole 0 *ₙ sum_to T.columns f) +ₙ (g c -ₙ (ip *ₙ f c +ₙ whole 0 *ₙ f c)) =
    sum_apart T.columns c ip (whole 0) f f g l (λ j m d. ap₂ (λ y z. y *ₙ w z) (cell_r T.cell r c j d) (put_else T.outside c (T.basic r) j d)
    ∙ by_ring (T.cell r j ∷ ip ∷ w (T.outside j) ∷ []) ((v 0 ⊗ v 1) ⊗ v 2) (v 1 ⊗ (v 0 ⊗ v 2) ⊕ k 0 ⊗ (v 0 ⊗ v 2)) refl) in
    let a : g c ≡ ip *ₙ w (T.basic r) = ap₂ (λ y z. y *ₙ w z) (cell_rc T.cell r c) (put_at T.outside c (T.basic r)) in
    let b : w ((pivot T r c).basic r) ≡ w (T.outside c) = ap w (put_at T.basic r (T.outside c)) in
    ap₂ ◌+ₙ◌ b (s ∙ ap (λ z. (ip *ₙ sum_to T.columns f +ₙ whole 0 *ₙ sum_to T.columns f) +ₙ (z -ₙ (ip *ₙ f c +ₙ whole 0 *ₙ f c))) a)
    ∙ by_ring (w (T.outside c) ∷ ip ∷ sum_to T.columns f ∷ w (T.basic r) ∷ T.cell r c ∷ [])
    (v 0 ⊕ ((v 1 ⊗ v 2 ⊕ k 0 ⊗ v 2) ⊕ (v 1 ⊗ v 3 ⊖ (v 1 ⊗ (v 4 ⊗ v 0) ⊕ k 0 ⊗ (v 4 ⊗ v 0)))))
    (v 1 ⊗ (v 3 ⊕ v 2) ⊕ (k 1 ⊖ v 4 ⊗ v 1) ⊗ v 0) refl
    ∙ ap (λ z. ip *ₙ (w (T.basic r) +ₙ sum_to T.columns f) +ₙ (whole 1 -ₙ z) *ₙ w (T.outside c)) (mul_inverse (T.cell r c) h)
    ∙ by_ring ((ip *ₙ (w (T.basic r) +ₙ sum_to T.columns f)) ∷ w (T.outside c) ∷ []) (v 0 ⊕ (k 1 ⊖ k 1) ⊗ v 1) (v 0) refl

pub line_other : (T : Tableau) (r c : ℕ) (w : ℕ → Number) (i : ℕ) → c < T.columns → ¬ (T.cell r c ≡ whole 0) → ¬ (i ≡ r) →
    line (pivot T r c) w i ≡ line T w i -ₙ (T.cell i c *ₙ inverse (T.cell r c)) *ₙ line T w r
line_other T r c w i l h d =
    let p : Number = T.cell r c in
    let ip : Number = inverse (T.cell r c) in
    let t : Number = T.cell i c in
    let f : ℕ → Number = λ j. T.cell i j *ₙ w (T.outside j) in
    let e : ℕ → Number = λ j. T.cell r j *ₙ w (T.outside j) in
    let g : ℕ → Number = λ j. (pivot T r c).cell i j *ₙ w ((pivot T r c).outside j) in
    let s : sum_to T.columns g ≡ (whole 1 *ₙ sum_to T.columns f +ₙ neg (t *ₙ ip) *ₙ sum_to T.columns e) +ₙ (g c -ₙ (whole 1 *ₙ f c +ₙ neg (t *ₙ ip) *ₙ e c)) =
    sum_apart T.columns c (whole 1) (neg (t *ₙ ip)) f e g l (λ j m q. ap₂ (λ y z. y *ₙ w z) (cell_other T.cell r c i j d q) (put_else T.outside c (T.basic r) j q)
    ∙ by_ring (T.cell i j ∷ t ∷ T.cell r j ∷ ip ∷ w (T.outside j) ∷ []) ((v 0 ⊖ v 1 ⊗ (v 2 ⊗ v 3)) ⊗ v 4) (k 1 ⊗ (v 0 ⊗ v 4) ⊕ minus (v 1 ⊗ v 3) ⊗ (v 2 ⊗ v 4)) refl) in
    let a : g c ≡ (t *ₙ neg ip) *ₙ w (T.basic r) = ap₂ (λ y z. y *ₙ w z) (cell_c T.cell r c i d ∙ ap (λ z. t *ₙ z) (inverse-neg p h)) (put_at T.outside c (T.basic r)) in
    let b : w ((pivot T r c).basic i) ≡ w (T.basic i) = ap w (put_else T.basic r (T.outside c) i d) in
    ap₂ ◌+ₙ◌ b (s ∙ ap (λ z. (whole 1 *ₙ sum_to T.columns f +ₙ neg (t *ₙ ip) *ₙ sum_to T.columns e) +ₙ (z -ₙ (whole 1 *ₙ f c +ₙ neg (t *ₙ ip) *ₙ e c))) a)
    ∙ by_ring (w (T.basic i) ∷ sum_to T.columns f ∷ t ∷ ip ∷ sum_to T.columns e ∷ w (T.basic r) ∷ w (T.outside c) ∷ p ∷ [])
    (v 0 ⊕ ((k 1 ⊗ v 1 ⊕ minus (v 2 ⊗ v 3) ⊗ v 4) ⊕ ((v 2 ⊗ minus (v 3)) ⊗ v 5 ⊖ (k 1 ⊗ (v 2 ⊗ v 6) ⊕ minus (v 2 ⊗ v 3) ⊗ (v 7 ⊗ v 6)))))
    (((v 0 ⊕ v 1) ⊖ (v 2 ⊗ v 3) ⊗ (v 5 ⊕ v 4)) ⊕ (v 7 ⊗ v 3 ⊖ k 1) ⊗ (v 2 ⊗ v 6)) refl
    ∙ ap (λ z. (line T w i -ₙ (t *ₙ ip) *ₙ line T w r) +ₙ (z -ₙ whole 1) *ₙ (t *ₙ w (T.outside c))) (mul_inverse p h)
    ∙ by_ring ((line T w i -ₙ (t *ₙ ip) *ₙ line T w r) ∷ (t *ₙ w (T.outside c)) ∷ []) (v 0 ⊕ (k 1 ⊖ k 1) ⊗ v 1) (v 0) refl

pub constant_r : (T : Tableau) (r c : ℕ) → c < T.columns → (pivot T r c).cell r T.columns ≡ inverse (T.cell r c) *ₙ T.cell r T.columns
constant_r T r c l = cell_r T.cell r c T.columns (λ q. absurd (omega arith)) ∙ by_ring (T.cell r T.columns ∷ inverse (T.cell r c) ∷ []) (v 0 ⊗ v 1) (v 1 ⊗ v 0) refl

pub constant_other : (T : Tableau) (r c i : ℕ) → c < T.columns → ¬ (i ≡ r) → (pivot T r c).cell i T.columns ≡ T.cell i T.columns -ₙ (T.cell i c *ₙ inverse (T.cell r c)) *ₙ T.cell r T.columns
constant_other T r c i l d = cell_other T.cell r c i T.columns d (λ q. absurd (omega arith))
    ∙ by_ring (T.cell i T.columns ∷ T.cell i c ∷ T.cell r T.columns ∷ inverse (T.cell r c) ∷ []) (v 0 ⊖ v 1 ⊗ (v 2 ⊗ v 3)) (v 0 ⊖ (v 1 ⊗ v 3) ⊗ v 2) refl

-- ---- a pivot keeps the solutions
pub same_place : (i r : ℕ) → (i ≡ r) ⊎ (¬ (i ≡ r))
same_place i r = grind arith

pub pivot_keeps : (T : Tableau) (r c : ℕ) (w : ℕ → Number) → r < T.rows → c < T.columns → ¬ (T.cell r c ≡ whole 0) → Solves T w ↔ Solves (pivot T r c) w
pivot_keeps T r c w lr lc h = (there, back)
  where
    there : Solves T w → Solves (pivot T r c) w
    there s i l = elim (same_place i r) as (λ _. line (pivot T r c) w i ≡ (pivot T r c).cell i T.columns) [
      | inl e ↦ subst (λ z. line (pivot T r c) w z ≡ (pivot T r c).cell z T.columns) (sym e)
          (line_r T r c w lc h ∙ ap (λ z. inverse (T.cell r c) *ₙ z) (s r (omega arith)) ∙ sym (constant_r T r c lc))
      | inr d ↦ line_other T r c w i lc h d ∙ ap₂ (λ y z. y -ₙ (T.cell i c *ₙ inverse (T.cell r c)) *ₙ z) (s i l) (s r (omega arith)) ∙ sym (constant_other T r c i lc d)
    ]

    at_r : Solves (pivot T r c) w → line T w r ≡ T.cell r T.columns
    at_r s = cancel (T.cell r c) h (line T w r) (T.cell r T.columns) (sym (line_r T r c w lc h) ∙ s r (omega arith) ∙ constant_r T r c lc)
      where
        cancel : (p : Number) → ¬ (p ≡ whole 0) → (a b : Number) → inverse p *ₙ a ≡ inverse p *ₙ b → a ≡ b
        cancel p h a b e = by_ring (a ∷ []) (v 0) (k 1 ⊗ v 0) refl ∙ ap (λ z. z *ₙ a) (sym (mul_inverse p h)) ∙ by_ring (p ∷ inverse p ∷ a ∷ []) (v 0 ⊗ v 1 ⊗ v 2) (v 0 ⊗ (v 1 ⊗ v 2)) refl
            ∙ ap (λ z. p *ₙ z) e ∙ by_ring (p ∷ inverse p ∷ b ∷ []) (v 0 ⊗ (v 1 ⊗ v 2)) (v 0 ⊗ v 1 ⊗ v 2) refl ∙ ap (λ z. z *ₙ b) (mul_inverse p h) ∙ by_ring (b ∷ []) (k 1 ⊗ v 0) (v 0) refl

    back : Solves (pivot T r c) w → Solves T w
    back s i l = elim (same_place i r) as (λ _. line T w i ≡ T.cell i T.columns) [
      | inl e ↦ subst (λ z. line T w z ≡ T.cell z T.columns) (sym e) (at_r s)
      | inr d ↦ add_back (line T w i) (T.cell i T.columns) (T.cell i c *ₙ inverse (T.cell r c)) (line T w r) (T.cell r T.columns)
          (sym (line_other T r c w i lc h d) ∙ s i l ∙ constant_other T r c i lc d) (at_r s)
    ]
      where
        add_back : (a b t x y : Number) → a -ₙ t *ₙ x ≡ b -ₙ t *ₙ y → x ≡ y → a ≡ b
        add_back a b t x y e q = by_ring (a ∷ t ∷ x ∷ []) (v 0) ((v 0 ⊖ v 1 ⊗ v 2) ⊕ v 1 ⊗ v 2) refl ∙ ap₂ (λ m n. m +ₙ t *ₙ n) e q ∙ by_ring (b ∷ t ∷ y ∷ []) ((v 0 ⊖ v 1 ⊗ v 2) ⊕ v 1 ⊗ v 2) (v 0) refl
