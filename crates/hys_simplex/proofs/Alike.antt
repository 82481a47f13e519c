-- Tableaux that agree at their places say the same.
use Rattle.std.proofs.Common.{◌≡◌, ℕ, zero, suc, ◌+◌, ◌<◌, ◌≤◌, refl, sym, ◌∙◌, ap, ap₂, subst, arith, Bool, true, false, if◌then◌else◌, ◌==◌, List, [], ◌∷◌, ◌++◌, length}
use Rattle.hys_number.specs.Number.{Number}
use Rattle.hys_number.specs.Ops.{◌+ₙ◌, ◌*ₙ◌, ◌-ₙ◌, ◌/ₙ◌, neg, inverse}
use Rattle.hys_number.specs.Sums.{sum_to}
use Rattle.hys_number.proofs.Sums.{sum_to-same}
use Rattle.hys_lin.specs.Operations.{times, minus}
use Rattle.hys_lin.specs.declared.problem.Problem.{Problem}
use Rattle.hys_relax.specs.Node.{Boxes}
use Rattle.hys_relax.specs.LinearProgram.{LinearProgram, linear_program}
use Rattle.hys_relax.specs.BoundSum.{joined_to, not_zero}
use Rattle.hys_simplex.specs.Tableau.{Tableau, put, pivot, line, Solves, unit, coef, cost_multiplier, row_multiplier}
use Rattle.hys_simplex.specs.Alike.{IsAlike}
use Rattle.hys_simplex.specs.Status.{edge, place_var, raised, first_sign, is_positive, is_raised_above, lower, upper, end_or, end_value, basic_value, status_value, values_to, status_point, InRange, AllInside}
use Rattle.hys_simplex.specs.Unfit.{value_operations, pairs_to, cost_pairs, row_pairs}

pub alike_refl : (T : Tableau) → IsAlike T T
alike_refl T = record { wide = refl; tall = refl; cells = λ i j l m. refl; basics = λ i l. refl; outsides = λ j l. refl }

pub alike_sym : (T T' : Tableau) → IsAlike T T' → IsAlike T' T
alike_sym T T' h = record {
  wide = sym h.wide;
  tall = sym h.tall;
  cells = λ i j l m. sym (h.cells i j (rw h.tall l) (rw h.wide m));
  basics = λ i l. sym (h.basics i (rw h.tall l));
  outsides = λ j l. sym (h.outsides j (rw h.wide l));
}

pub alike_trans : (T U W : Tableau) → IsAlike T U → IsAlike U W → IsAlike T W
alike_trans T U W h g = record {
  wide = h.wide ∙ g.wide;
  tall = h.tall ∙ g.tall;
  cells = λ i j l m. h.cells i j l m ∙ g.cells i j (rw (← h.tall) l) (rw (← h.wide) m);
  basics = λ i l. h.basics i l ∙ g.basics i (rw (← h.tall) l);
  outsides = λ j l. h.outsides j l ∙ g.outsides j (rw (← h.wide) l);
}

-- ---- pivots
put_alike : (f g : ℕ → ℕ) (at x y i : ℕ) → f i ≡ g i → x ≡ y → put f at x i ≡ put g at y i
put_alike f g at x y i e q = go (i == at)
  where
    go : (b : Bool) → (if b then x else f i) ≡ (if b then y else g i)
    go true = q
    go false = e

pub pivot_alike : (T T' : Tableau) (r c : ℕ) → IsAlike T T' → r < T.rows → c < T.columns → IsAlike (pivot T r c) (pivot T' r c)
pivot_alike T T' r c h lr lc = record {
  wide = h.wide;
  tall = h.tall;
  cells = λ i j l m. go (i == r) (j == c) (h.cells i j l m) (h.cells i c l (omega arith)) (h.cells r j (omega arith) m) (h.cells r c (omega arith) (omega arith));
  basics = λ i l. put_alike T.basic T'.basic r (T.outside c) (T'.outside c) i (h.basics i l) (h.outsides c lc);
  outsides = λ j l. put_alike T.outside T'.outside c (T.basic r) (T'.basic r) j (h.outsides j l) (h.basics r (omega arith));
}
  where
    go : (a b : Bool) {x x' y y' z z' p p' : Number} → x ≡ x' → y ≡ y' → z ≡ z' → p ≡ p' →
        (if a then (if b then inverse p else z /ₙ p) else (if b then y /ₙ neg p else x -ₙ y *ₙ (z /ₙ p)))
        ≡ (if a then (if b then inverse p' else z' /ₙ p') else (if b then y' /ₙ neg p' else x' -ₙ y' *ₙ (z' /ₙ p')))
    go true true ex ey ez ep = ap inverse ep
    go true false ex ey ez ep = ap₂ ◌/ₙ◌ ez ep
    go false true ex ey ez ep = ap₂ (λ s t. s /ₙ neg t) ey ep
    go false false ex ey ez ep = ap₂ ◌-ₙ◌ ex (ap₂ ◌*ₙ◌ ey (ap₂ ◌/ₙ◌ ez ep))

-- ---- sums
sum_alike : (n n' : ℕ) (f g : ℕ → Number) → n ≡ n' → ((j : ℕ) → j < n → f j ≡ g j) → sum_to n f ≡ sum_to n' g
sum_alike n n' f g e h = sum_to-same n f g h ∙ ap (λ z. sum_to z g) e

pub line_alike : (T T' : Tableau) → IsAlike T T' → (w : ℕ → Number) (i : ℕ) → i ≤ T.rows → line T w i ≡ line T' w i
line_alike T T' h w i l = ap₂ ◌+ₙ◌ (ap w (h.basics i l)) (sum_alike T.columns T'.columns _ _ h.wide (λ j m. ap₂ (λ x y. x *ₙ w y) (h.cells i j l (omega arith)) (h.outsides j m)))

pub solves_alike : (T T' : Tableau) → IsAlike T T' → (w : ℕ → Number) → Solves T w → Solves T' w
solves_alike T T' h w s i l = let m : i ≤ T.rows = rw h.tall l in sym (line_alike T T' h w i m) ∙ s i m ∙ h.cells i T.columns m (omega arith) ∙ ap (T'.cell i) h.wide

pub coef_alike : (T T' : Tableau) → IsAlike T T' → (i u : ℕ) → i ≤ T.rows → coef T i u ≡ coef T' i u
coef_alike T T' h i u l = line_alike T T' h (unit u) i l

-- ---- multipliers
pairs_alike : (n : ℕ) (y z : ℕ → Number) → ((i : ℕ) → i < n → y i ≡ z i) → pairs_to n y ≡ pairs_to n z
pairs_alike zero y z h = refl
pairs_alike (suc n) y z h = ap₂ ◌++◌ (pairs_alike n y z (λ i l. h i (omega arith))) (ap (λ a. if not_zero a.num then (n, a) ∷ [] else []) (h n (omega arith)))

pub cost_pairs_alike : (p : Problem) (T T' : Tableau) → IsAlike T T' → T.rows ≡ length p.rows → cost_pairs p T ≡ cost_pairs p T'
cost_pairs_alike p T T' h e = pairs_alike (length p.rows) (cost_multiplier (linear_program p) T) (cost_multiplier (linear_program p) T')
    (λ i l. ap neg (coef_alike T T' h (length p.rows) (length p.boxes + i) (omega (arith, e))))

pub row_pairs_alike : (p : Problem) (T T' : Tableau) (r : ℕ) (side : Number) → IsAlike T T' → r ≤ T.rows → row_pairs p T r side ≡ row_pairs p T' r side
row_pairs_alike p T T' r side h l = pairs_alike (length p.rows) (row_multiplier (linear_program p) T r side) (row_multiplier (linear_program p) T' r side)
    (λ i m. ap (λ z. side *ₙ z) (coef_alike T T' h r (length p.boxes + i) l))

-- ---- statuses
pub edge_alike : (T T' : Tableau) → IsAlike T T' → (j u : ℕ) → j < T.columns → edge T j u ≡ edge T' j u
edge_alike T T' h j u l = ap₂ ◌-ₙ◌ (ap (λ z. unit z u) (h.outsides j l))
    (sum_alike (suc T.rows) (suc T'.rows) _ _ (ap suc h.tall) (λ i m. ap₂ (λ x y. unit x u *ₙ y) (h.basics i (omega arith)) (h.cells i j (omega arith) (omega arith))))

pub raised_alike : (P : LinearProgram) (T T' : Tableau) → IsAlike T T' → (j t : ℕ) → j < T.columns → raised P T j t ≡ raised P T' j t
raised_alike P T T' h j t l = ap neg (edge_alike T T' h j (place_var P t) l)

pub positive_alike : (n : ℕ) (a b : ℕ → Number) → ((t : ℕ) → a t ≡ b t) → is_positive n a ≡ is_positive n b
positive_alike zero a b h = refl
positive_alike (suc n) a b h = ap₂ (λ x y. first_sign x.num y) (h 0) (positive_alike n (λ t. a (suc t)) (λ t. b (suc t)) (λ t. h (suc t)))

pub above_alike : (P : LinearProgram) (T T' : Tableau) → IsAlike T T' → (j : ℕ) → j < T.columns → is_raised_above P T j ≡ is_raised_above P T' j
above_alike P T T' h j l = positive_alike (suc P.columns) (raised P T j) (raised P T' j) (λ t. raised_alike P T T' h j t l)

pub end_alike : (P : LinearProgram) (B : Boxes) (T T' : Tableau) → IsAlike T T' → (j : ℕ) → j < T.columns → end_value P B T j ≡ end_value P B T' j
end_alike P B T T' h j l = ap₂ (λ b u. if b then end_or (upper P B u) (lower P B u) else lower P B u) (above_alike P T T' h j l) (h.outsides j l)

pub basic_alike : (P : LinearProgram) (B : Boxes) (T T' : Tableau) → IsAlike T T' → (i : ℕ) → i ≤ T.rows → basic_value P B T i ≡ basic_value P B T' i
basic_alike P B T T' h i l = ap₂ ◌-ₙ◌ (h.cells i T.columns l (omega arith) ∙ ap (T'.cell i) h.wide)
    (sum_alike T.columns T'.columns _ _ h.wide (λ j m. ap₂ ◌*ₙ◌ (h.cells i j l (omega arith)) (end_alike P B T T' h j m)))

pub value_alike : (P : LinearProgram) (B : Boxes) (T T' : Tableau) → IsAlike T T' → (u : ℕ) → status_value P B T u ≡ status_value P B T' u
value_alike P B T T' h u = ap₂ ◌+ₙ◌
    (sum_alike T.columns T'.columns _ _ h.wide (λ j m. ap₂ (λ x y. unit x u *ₙ y) (h.outsides j m) (end_alike P B T T' h j m)))
    (sum_alike (suc T.rows) (suc T'.rows) _ _ (ap suc h.tall) (λ i m. ap₂ (λ x y. unit x u *ₙ y) (h.basics i (omega arith)) (basic_alike P B T T' h i (omega arith))))

values_alike : (n : ℕ) (f g : ℕ → Number) → ((j : ℕ) → f j ≡ g j) → values_to n f ≡ values_to n g
values_alike zero f g h = refl
values_alike (suc n) f g h = ap₂ (λ xs x. xs ++ x ∷ []) (values_alike n f g h) (h n)

pub point_alike : (P : LinearProgram) (B : Boxes) (T T' : Tableau) → IsAlike T T' → status_point P B T ≡ status_point P B T'
point_alike P B T T' h = values_alike P.columns (status_value P B T) (status_value P B T') (value_alike P B T T' h)

-- ---- operations
joined_alike : {X : Type 0} (n n' : ℕ) (f g : ℕ → List X) → n ≡ n' → ((j : ℕ) → j < n → f j ≡ g j) → joined_to n f ≡ joined_to n' g
joined_alike n n' f g e h = go n h ∙ ap (λ z. joined_to z g) e
  where
    go : (n : ℕ) → ((j : ℕ) → j < n → f j ≡ g j) → joined_to n f ≡ joined_to n g
    go zero h = refl
    go (suc n) h = ap₂ ◌++◌ (go n (λ j l. h j (omega arith))) (h n (omega arith))

pub operations_alike : (P : LinearProgram) (B : Boxes) (T T' : Tableau) → IsAlike T T' → (i : ℕ) → i ≤ T.rows → value_operations P B T i ≡ value_operations P B T' i
operations_alike P B T T' h i l = joined_alike T.columns T'.columns _ _ h.wide (λ j m. same
    (h.cells i j l (omega arith)) (end_alike P B T T' h j m) (h.cells i T.columns l (omega arith) ∙ ap (T'.cell i) h.wide)
    (sum_alike j j _ _ refl (λ q n. ap₂ ◌*ₙ◌ (h.cells i q l (omega arith)) (end_alike P B T T' h q (omega arith)))))
  where
    same : {a a' x x' c c' s s' : Number} → a ≡ a' → x ≡ x' → c ≡ c' → s ≡ s' → (times a x ∷ minus (c -ₙ s) (a *ₙ x) ∷ []) ≡ (times a' x' ∷ minus (c' -ₙ s') (a' *ₙ x') ∷ [])
    same ea ex ec es = ap₂ (λ f g. f ∷ g ∷ []) (ap₂ times ea ex) (ap₂ minus (ap₂ ◌-ₙ◌ ec es) (ap₂ ◌*ₙ◌ ea ex))

pub inside_alike : (P : LinearProgram) (B : Boxes) (T T' : Tableau) → IsAlike T T' → (i : ℕ) → i ≤ T.rows → InRange P B (T.basic i) (basic_value P B T i) → InRange P B (T'.basic i) (basic_value P B T' i)
inside_alike P B T T' h i l q = subst (λ z. InRange P B z (basic_value P B T' i)) (h.basics i l) (subst (InRange P B (T.basic i)) (basic_alike P B T T' h i l) q)

pub all_inside_alike : (P : LinearProgram) (B : Boxes) (T T' : Tableau) → IsAlike T T' → T.rows ≡ P.rows → AllInside P B T → AllInside P B T'
all_inside_alike P B T T' h e a i l = inside_alike P B T T' h i (omega (arith, e)) (a i l)
