-- Points of statuses, their rows' sums, and the ends of a relaxation over boxes and a tableau.
use Rattle.std.proofs.Common.{◌≡◌, ℕ, suc, ◌+◌, ◌<◌, ◌≤◌, ◌⊎◌, inl, inr, refl, sym, ◌∙◌, ap, subst, arith, if◌then◌else◌, List, [], ◌∷◌, ◌++◌, length, get_or, Some, None, Bool, true, false, Result, Err}
use Rattle.std.specs.List.{AllByRecursion}
use Rattle.std.proofs.lemmas.List.Elements.{All-get_or}
use Rattle.std.proofs.lemmas.List.{get_or_default}
use Rattle.hys_lin.specs.Scaled.{AnswersLost}
use Rattle.hys_lin.specs.declared.lost.LinFault.{LinFault}
use Rattle.hys_lin.specs.declared.lost.LinFault.TheVariants.{Lost as Shown}
use Rattle.hys_dual.specs.Costs.{with_cost}
use Rattle.hys_number.specs.Number.{Number}
use Rattle.hys_number.specs.Ops.{whole, fits}
use Rattle.hys_number.proofs.Bools.{eq_true, eq_false}
use Rattle.hys_lin.specs.Operations.{first_lost, summing, row_summing, valuing}
use Rattle.hys_lin.specs.Problem.{IsProblem}
use Rattle.hys_lin.specs.Over.{AreTermsOver}
use Rattle.hys_lin.specs.Sums.{at, EachColumn}
use Rattle.hys_lin.specs.declared.form.Row.{Row}
use Rattle.hys_lin.specs.declared.form.Point.{Point}
use Rattle.hys_lin.specs.declared.form.Term.{Term}
use Rattle.hys_lin.specs.declared.lost.Lost.{Lost}
use Rattle.hys_lin.specs.declared.problem.Problem.{Problem}
use Rattle.hys_relax.specs.Node.{Boxes}
use Rattle.hys_relax.specs.LinearProgram.{LinearProgram, linear_program, row_at}
use Rattle.hys_relax.specs.Bound.{costless, AreLawful}
use Rattle.hys_relax.specs.BoundSum.{bound_operations}
use Rattle.hys_relax.specs.declared.range.TablePlace.TheVariants.{Sum}
use Rattle.hys_simplex.specs.Tableau.{Tableau, IsOf, IsPlaced}
use Rattle.hys_simplex.specs.Status.{status_value, basic_value, end_value, values_to, AllInside}
use Rattle.hys_simplex.specs.Rule.{IsBlocked}
use Rattle.hys_simplex.specs.Unfit.{SomeUnfit, point_operations, row_pairs, cost_pairs, UnfitAt}
use Rattle.hys_simplex.specs.Laws.{AreOrdered, IsReached, RowShowsNone}
use Rattle.hys_simplex.proofs.Paths.{values_outside}
use Rattle.hys_simplex.proofs.Ranges.{basic_is}
use Rattle.hys_simplex.proofs.Pairs.{values_long}
use Rattle.hys_simplex.specs.Laws.{CostRowShows}
use Rattle.hys_simplex.proofs.Shown.{lost_is_unfit, blocked_row, cost_row}
use Rattle.hys_tab.specs.Table.{multipliers_of}
use Rattle.hys_dual.specs.Relaxing.{PointFits}
use Rattle.hys_dual.specs.Choosing.{AreFitting, IsPointed, IsLeastHere, IsNeverHere}
use Rattle.hys_dual.specs.declared.finish.Pointed.{Pointed}
use Rattle.hys_dual.specs.declared.finish.Pointed.TheVariants.{At}

pub placed_here : (P : LinearProgram) (T : Tableau) → IsOf P T → IsPlaced T.columns T.rows T
placed_here P T o = subst (λ n. IsPlaced n T.rows T) (sym o.wide) (subst (λ m. IsPlaced P.columns m T) (sym o.tall) o.placed)

-- ---- the values of a status
pub value_basic : (P : LinearProgram) (B : Boxes) (T : Tableau) (i u : ℕ) (x : Number) → IsOf P T → i < T.rows → T.basic i ≡ u → x ≡ basic_value P B T i → x ≡ status_value P B T u
value_basic P B T i u x o l q e = e ∙ sym (basic_is P B T o i (omega (arith, l, o.tall))) ∙ ap (status_value P B T) q

pub value_outside : (P : LinearProgram) (B : Boxes) (T : Tableau) (j u : ℕ) (x : Number) → IsOf P T → j < T.columns → T.outside j ≡ u → x ≡ end_value P B T j → x ≡ status_value P B T u
value_outside P B T j u x o l q e = e ∙ sym (values_outside P T o (end_value P B T) j (omega (arith, l, o.wide))) ∙ ap (status_value P B T) q

pub values_next : (n : ℕ) (f : ℕ → Number) (xs : List Number) (x : Number) → xs ≡ values_to n f → x ≡ f n → xs ++ x ∷ [] ≡ values_to (n + 1) f
values_next n f xs x e g = let s : suc n ≡ n + 1 = omega arith in rw (e, g) (ap (λ z. values_to z f) s)

-- ---- the rows' sums at a point
abbrev pub no_row : Row
no_row = record { terms = []; bound = whole 0; eq = false }

pub row_below : (p : Problem) → IsProblem p → (i n : ℕ) (ts : List Term) → i < length p.rows → n ≡ length p.boxes → ts ≡ (row_at p i).terms → EachColumn (λ c. c < n) ts
row_below p h i n ts l e g = rw (e, g) (All-get_or (λ r. AreTermsOver (length p.boxes) r.terms) p.rows i no_row l h.rows).below

pub cost_below : (p : Problem) → IsProblem p → (n : ℕ) → n ≡ length p.boxes → EachColumn (λ c. c < n) p.cost.terms
cost_below p h n e = rw e h.cost.below

pub row_unfit : (p : Problem) (v : List Number) (i : ℕ) (ts : List Term) (l : Lost) → i < length p.rows → ts ≡ (row_at p i).terms → first_lost (summing (whole 0) ts (λ t. at v t.column)) ≡ Some l → SomeUnfit fits (point_operations p (at v) i)
row_unfit p v i ts l h e g = subst (SomeUnfit fits)
    (sym (ap (λ b. if b then summing p.cost.constant p.cost.terms (λ t. at v t.column) else summing (whole 0) (row_at p i).terms (λ t. at v t.column)) (eq_false i (length p.rows) (λ q. absurd (omega (arith, h, q))))))
    (lost_is_unfit (summing (whole 0) (row_at p i).terms (λ t. at v t.column)) l (ap (λ z. first_lost (summing (whole 0) z (λ t. at v t.column))) (sym e) ∙ g))

pub cost_unfit : (p : Problem) (v : List Number) (i : ℕ) (l : Lost) → i ≡ length p.rows → first_lost (valuing p.cost (at v)) ≡ Some l → SomeUnfit fits (point_operations p (at v) i)
cost_unfit p v i l h g = subst (SomeUnfit fits)
    (sym (ap (λ b. if b then summing p.cost.constant p.cost.terms (λ t. at v t.column) else summing (whole 0) (row_at p i).terms (λ t. at v t.column)) (eq_true i (length p.rows) h)))
    (lost_is_unfit (valuing p.cost (at v)) l g)

-- the rows below n lose nothing
abbrev pub NoneLostBelow : Problem → List Number → ℕ → Type 0
NoneLostBelow p v n = (i : ℕ) → i < n → first_lost (row_summing (row_at p i) (at v)) ≡ None

below_or_at : (q t : ℕ) → q < t + 1 → (q < t) ⊎ (q ≡ t)
below_or_at q t l = grind arith

pub none_next : (p : Problem) (v : List Number) (n : ℕ) (ts : List Term) → ts ≡ (row_at p n).terms → first_lost (summing (whole 0) ts (λ t. at v t.column)) ≡ None → NoneLostBelow p v n → NoneLostBelow p v (n + 1)
none_next p v n ts e g h i l = elim (below_or_at i n l) as (λ _. first_lost (row_summing (row_at p i) (at v)) ≡ None) [
  | inl q ↦ h i q
  | inr q ↦ subst (λ z. first_lost (row_summing (row_at p z) (at v)) ≡ None) (sym q) (ap (λ z. first_lost (summing (whole 0) z (λ t. at v t.column))) (sym e) ∙ g)
]

all_places : (Q : Row → Type 0) (rs : List Row) → ((i : ℕ) → i < length rs → Q (get_or rs i no_row)) → AllByRecursion Q rs
all_places Q [] h = tt
all_places Q (r ∷ rs) h = (h 0 (omega arith), all_places Q rs (λ i l. h (suc i) (omega (arith, l))))

pub point_fits : (p : Problem) (v : List Number) (n : ℕ) → length p.rows ≤ n → NoneLostBelow p v n → first_lost (valuing p.cost (at v)) ≡ None → PointFits p v
point_fits p v n l h g = record { rows = all_places (λ r. first_lost (row_summing r (at v)) ≡ None) p.rows (λ i m. h i (omega (arith, l, m))); cost = g }

-- ---- a row for which no column may enter
pub never_lawful : (p : Problem) (B : Boxes) (T : Tableau) (r : ℕ) (side near : Number) (pairs : List (ℕ × Number)) → AreOrdered (length p.boxes) B → IsReached (linear_program p) T → IsBlocked (linear_program p) B T r side near →
    pairs ≡ row_pairs p T r side → AreLawful p pairs
never_lawful p B T r side near pairs b s h e = let q : RowShowsNone p B T r side near = blocked_row p B T r side near b s h in subst (AreLawful p) (sym e) q.lawful

pub never_unfit : (p : Problem) (B : Boxes) (T : Tableau) (r : ℕ) (side near : Number) (pairs : List (ℕ × Number)) → AreOrdered (length p.boxes) B → IsReached (linear_program p) T → IsBlocked (linear_program p) B T r side near →
    pairs ≡ row_pairs p T r side → (t : Bool) → AreFitting (bound_operations (costless p) B pairs) t → t ≡ false → UnfitAt fits p B T Sum
never_unfit p B T r side near pairs b s h e t u f = let q : RowShowsNone p B T r side near = blocked_row p B T r side near b s h in inr (record {
  row = r;
  side = side;
  near = near;
  leaving = h.leaving;
  stranded = q.stranded;
  lawful = q.lawful;
  unfit = subst (λ z. SomeUnfit fits (bound_operations (costless p) B z)) e (subst (AreFitting (bound_operations (costless p) B pairs)) f u);
})

-- ---- the multipliers of the cost row
-- those that are read off a tableau of the problem are its multipliers
pub read_pairs : (p : Problem) (T : Tableau) → IsOf (linear_program p) T → multipliers_of T ≡ cost_pairs p T
read_pairs p T o = rw (o.tall, o.wide) refl

pub cost_lawful : (p : Problem) (B : Boxes) (T : Tableau) (pairs : List (ℕ × Number)) → IsProblem p → IsReached (linear_program p) T → pairs ≡ multipliers_of T → AreLawful p pairs
cost_lawful p B T pairs h s e = let q : CostRowShows p B T = cost_row p B T h s in subst (AreLawful p) (sym (e ∙ read_pairs p T s.of)) q.lawful

pub least_unfit : (p : Problem) (B : Boxes) (T : Tableau) (pairs : List (ℕ × Number)) (t : Bool) → IsReached (linear_program p) T → AllInside (linear_program p) B T → pairs ≡ multipliers_of T →
    AreFitting (bound_operations p B pairs) t → t ≡ false → UnfitAt fits p B T Sum
least_unfit p B T pairs t s a e u f = inl (a, subst (λ z. SomeUnfit fits (bound_operations p B z)) (e ∙ read_pairs p T s.of) (subst (AreFitting (bound_operations p B pairs)) f u))

pub point_long : (p : Problem) (B : Boxes) (T : Tableau) (q : Pointed) (v : Point) → IsPointed (linear_program p) B T q → q ≡ At v → length v.values ≡ length p.boxes
point_long p B T q v h e = let g : IsPointed (linear_program p) B T (At v) = subst (IsPointed (linear_program p) B T) e h in
    ap length g ∙ values_long (length p.boxes) (status_value (linear_program p) B T)

pub least_here : (p : Problem) (B : Boxes) (T : Tableau) (pairs : List (ℕ × Number)) (t : Bool) (q : Pointed) (v : Point) → IsReached (linear_program p) T → AllInside (linear_program p) B T → pairs ≡ multipliers_of T →
    AreFitting (bound_operations p B pairs) t → t ≡ true → IsPointed (linear_program p) B T q → q ≡ At v → PointFits p v.values → IsLeastHere p B T v.values pairs
least_here p B T pairs t q v s a e u f g d h = record {
  inside = a;
  point = subst (IsPointed (linear_program p) B T) d g;
  read = e ∙ read_pairs p T s.of;
  sum_fits = subst (AreFitting (bound_operations p B pairs)) f u;
  point_fits = h;
}

pub never_here : (p : Problem) (B : Boxes) (T : Tableau) (r : ℕ) (side near : Number) (pairs : List (ℕ × Number)) (t : Bool) → IsBlocked (linear_program p) B T r side near → pairs ≡ row_pairs p T r side →
    AreFitting (bound_operations (costless p) B pairs) t → t ≡ true → IsNeverHere p B T pairs
never_here p B T r side near pairs t h e u f = record { row = r; side = side; near = near; blocked = h; read = e; sum_fits = subst (AreFitting (bound_operations (costless p) B pairs)) f u }

-- ---- which numbers fit
pub shown_lost : {X : Type 0} (r : Result X LinFault) (f : LinFault) (l : Lost) (os : List Lost) → AnswersLost r os → r ≡ Err f → f ≡ Shown l → first_lost os ≡ Some l
shown_lost r f l os h e g = subst (λ z. AnswersLost z os) (e ∙ ap Err g) h

pub costless_fitting : (p : Problem) (B : Boxes) (cost : List Term) (constant : Number) (pairs pairs' : List (ℕ × Number)) (t : Bool) → cost ≡ [] → constant ≡ whole 0 → pairs' ≡ pairs →
    AreFitting (bound_operations (with_cost p cost constant) B pairs') t → AreFitting (bound_operations (costless p) B pairs) t
costless_fitting p B cost constant pairs pairs' t e f g h =
    subst (λ z. AreFitting (bound_operations (costless p) B z) t) g
    (subst (λ z. AreFitting (bound_operations (with_cost p [] z) B pairs') t) f
    (subst (λ z. AreFitting (bound_operations (with_cost p z constant) B pairs') t) e h))

pub same_fitting : (p : Problem) (B : Boxes) (cost : List Term) (pairs pairs' : List (ℕ × Number)) (t : Bool) → cost ≡ p.cost.terms → pairs' ≡ pairs →
    AreFitting (bound_operations (with_cost p cost p.cost.constant) B pairs') t → AreFitting (bound_operations p B pairs) t
same_fitting p B cost pairs pairs' t e g h =
    subst (λ z. AreFitting (bound_operations p B z) t) g
    (subst (λ z. AreFitting (bound_operations (with_cost p z p.cost.constant) B pairs') t) e h)

pub row_terms : (p : Problem) (rows : List Row) (i : ℕ) (d : Row) (ts : List Term) → ts ≡ (get_or rows i d).terms → rows ≡ p.rows → i < length p.rows → ts ≡ (row_at p i).terms
row_terms p rows i d ts e f l = e ∙ ap (λ xs. (get_or xs i d).terms) f ∙ ap (λ r. r.terms) (get_or_default p.rows i d no_row l)
