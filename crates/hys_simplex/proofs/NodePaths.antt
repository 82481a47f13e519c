-- Ruled paths at the nodes of a problem, and what their tableaux show.
use Rattle.std.proofs.Common.{◌≡◌, ℕ, zero, suc, ◌<◌, ◌≤◌, inl, inr, refl, sym, ◌∙◌, ap, subst, arith, Bool, true, false, List, [], ◌∷◌, ◌++◌, length, take}
use Rattle.hys_number.specs.Number.{Number}
use Rattle.hys_number.specs.Ops.{◌+ₙ◌, ◌*ₙ◌, neg, ◌≤ₙ◌, ◌<ₙ◌, whole}
use Rattle.hys_number.proofs.Order.{le_refl', le_total}
use Rattle.hys_number.proofs.Sums.{sum_to-same}
use Rattle.hys_number.proofs.Scale.{overs, common1, common1_of}
use Rattle.hys_number.proofs.Laws.{whole-ratio}
use Rattle.hys_lin.specs.Sums.{Assignment, at, value, compared, Within}
use Rattle.hys_lin.specs.declared.problem.Problem.{Problem}
use Rattle.hys_lin.specs.Problem.{IsProblem}
use Rattle.hys_relax.specs.Node.{Boxes, IsNode, node_boxes, IsLeastRelaxed}
use Rattle.hys_relax.specs.LinearProgram.{LinearProgram, linear_program, cost_of, Meets}
use Rattle.hys_relax.specs.Bound.{IsSigned, multiplier, AreLawful, bound_of, node_bound, costless, plain_bound}
use Rattle.hys_relax.specs.declared.fixing.Fixing.{Fixing}
use Rattle.hys_relax.proofs.Dense.{meets_is, cost_is as dense_cost}
use Rattle.hys_relax.proofs.Nodes.{under_within, node_ordered, fixable, AreFixable}
use Rattle.hys_relax.proofs.Bounds.{node_duality}
use Rattle.hys_simplex.specs.Tableau.{Tableau, start, pivot, after, ArePivots, IsOf, cost_multiplier, row_multiplier}
use Rattle.hys_simplex.specs.Status.{IsPositive, raised, IsDualFeasible, AllInside, status_value, status_point}
use Rattle.hys_simplex.specs.Rule.{IsRuled, IsBlocked}
use Rattle.hys_simplex.specs.Path.{RulesPath, IsRun, levels, IsPathAt, tableau_after, IsLawfulPath}
use Rattle.hys_simplex.specs.Unfit.{cost_pairs, row_pairs}
use Rattle.hys_simplex.proofs.Relations.{SignOf, HasSigns, IsOrdered, IsFeasible}
use Rattle.hys_simplex.proofs.Places.{start_of}
use Rattle.hys_simplex.proofs.Status.{status_bound, status_lawful, status_meets}
use Rattle.hys_simplex.proofs.Paths.{raised_is_status, raised_zero, first_not_below}
use Rattle.hys_simplex.proofs.Never.{never_above, never_lawful}
use Rattle.hys_simplex.proofs.Ranges.{stands, range_of_all, feasible}
use Rattle.hys_simplex.proofs.Rules.{none_enters, pivot_feasible, ruled_of}
use Rattle.hys_simplex.proofs.Runs.{Kept, start_feasible, path_kept, path_pivots, AreNested, path_bound, pivot_bound, bound_same, start_multiplier}
use Rattle.hys_simplex.proofs.Pairs.{pairs_are, pairs_lawful, values_are, values_long}

-- ---- levels
pub levels_ordered : (p : Problem) → IsProblem p → (fixings : List Fixing) (k : ℕ) → IsOrdered (length p.boxes) (levels p fixings k)
levels_ordered p h fixings k = node_ordered p h (take k fixings)

take_take : {X : Type 0} (k m : ℕ) (xs : List X) → k ≤ m → take k (take m xs) ≡ take k xs
take_take zero m [] l = none (take m [])
  where
    none : {X : Type 0} (xs : List X) → take 0 xs ≡ []
    none [] = refl
    none (x ∷ xs) = refl
take_take zero zero (x ∷ xs) l = refl
take_take zero (suc m) (x ∷ xs) l = refl
take_take (suc k) zero xs l = absurd (omega arith)
take_take (suc k) (suc m) [] l = refl
take_take (suc k) (suc m) (x ∷ xs) l = ap (λ ys. x ∷ ys) (take_take k m xs (omega arith))

take_whole : {X : Type 0} (xs : List X) → take (length xs) xs ≡ xs
take_whole [] = refl
take_whole (x ∷ xs) = ap (λ ys. x ∷ ys) (take_whole xs)

take_fixable : (p : Problem) (m : ℕ) (fs : List Fixing) → AreFixable p fs → AreFixable p (take m fs)
take_fixable p zero [] a = tt
take_fixable p zero (f ∷ fs) a = tt
take_fixable p (suc m) [] a = tt
take_fixable p (suc m) (f ∷ fs) a = (a.0, take_fixable p m fs a.1)

pub levels_nested : (p : Problem) → IsProblem p → (fixings : List Fixing) → IsNode p fixings → AreNested (length p.boxes) (levels p fixings)
levels_nested p h fixings n k m l j q = subst (λ z. Within (node_boxes p z j) (node_boxes p (take m fixings) j).low × Within (node_boxes p z j) (node_boxes p (take m fixings) j).high)
    (take_take k m fixings l) (under_within p h k (take m fixings) (take_fixable p m fixings (fixable p fixings n)) j q)

-- ---- what a path reaches
pub reaches : (p : Problem) (fixings : List Fixing) (path : List (ℕ × ℕ)) → IsProblem p → IsPathAt p fixings path → Kept (linear_program p) (tableau_after p path)
reaches p fixings path h r = path_kept (linear_program p) (levels p fixings) 0 (length fixings) (start (linear_program p)) path (levels_ordered p h fixings) r
    (record { of = start_of (linear_program p); feasible = start_feasible (linear_program p) })

pub are_pivots : (p : Problem) (fixings : List Fixing) (path : List (ℕ × ℕ)) → IsPathAt p fixings path → ArePivots (start (linear_program p)) path
are_pivots p fixings path r = path_pivots (linear_program p) (levels p fixings) 0 (length fixings) (start (linear_program p)) path r (start_of (linear_program p))

-- ---- multipliers of the cost row
pub has_signs : (P : LinearProgram) (T : Tableau) → IsOf P T → IsDualFeasible P T → HasSigns P T
has_signs P T o f j i lj li e = go (P.equation i) refl
  where
    turn : (a : Number) → whole 0 <ₙ a → neg a <ₙ whole 0
    turn a = elim (common1_of a) [ common1 D h p n e ↦ rw (e) (simp (overs, whole-ratio 0 D h) (omega arith)) ]

    below : IsPositive (suc P.columns) (λ t. neg (raised P T j t)) → T.cell P.rows j ≤ₙ whole 0
    below h = elim (le_total (T.cell P.rows j) (whole 0)) as (λ _. T.cell P.rows j ≤ₙ whole 0) [
      | inl l ↦ l
      | inr l ↦ absurd (first_not_below (suc P.columns) (λ t. neg (raised P T j t)) h (subst (λ z. neg z <ₙ whole 0) (sym (raised_zero P T o j lj)) (turn (T.cell P.rows j) l)))
    ]

    go : (q : Bool) → P.equation i ≡ q → SignOf q (T.cell P.rows j)
    go true g = tt
    go false g = below (f j i lj li e g)

pub cost_signed : (P : LinearProgram) (T : Tableau) → IsOf P T → IsDualFeasible P T → IsSigned P (cost_multiplier P T)
cost_signed P T o f = status_lawful P T o (has_signs P T o f)

pub cost_lawful : (p : Problem) (T : Tableau) → IsOf (linear_program p) T → IsDualFeasible (linear_program p) T → AreLawful p (cost_pairs p T)
cost_lawful p T o f = pairs_lawful p (cost_multiplier (linear_program p) T) (cost_signed (linear_program p) T o f)

pub cost_bound : (p : Problem) (B : Boxes) (T : Tableau) → IsOf (linear_program p) T → bound_of (linear_program p) B (multiplier (cost_pairs p T)) ≡ cost_of (linear_program p) (status_value (linear_program p) B T)
cost_bound p B T o = bound_same (linear_program p) B (multiplier (cost_pairs p T)) (cost_multiplier (linear_program p) T) (λ i l. pairs_are (length p.rows) (cost_multiplier (linear_program p) T) i l)
    ∙ status_bound (linear_program p) B T (status_value (linear_program p) B T) o (raised_is_status (linear_program p) B T (status_value (linear_program p) B T) o (stands (linear_program p) B T o))

-- the bound at a node of the cost row's multipliers after a path is at least the plain bound
pub plain_under : (p : Problem) (fixings : List Fixing) (path : List (ℕ × ℕ)) → IsProblem p → IsNode p fixings → IsPathAt p fixings path → plain_bound p ≤ₙ node_bound p fixings (cost_pairs p (tableau_after p path))
plain_under p fixings path h n r = subst (λ z. plain_bound p ≤ₙ z)
    (ap (λ z. bound_of (linear_program p) (node_boxes p z) (cost_multiplier (linear_program p) (tableau_after p path))) (take_whole fixings)
    ∙ sym (bound_same (linear_program p) (node_boxes p fixings) (multiplier (cost_pairs p (tableau_after p path))) (cost_multiplier (linear_program p) (tableau_after p path)) (λ i l. pairs_are (length p.rows) (cost_multiplier (linear_program p) (tableau_after p path)) i l)))
    (path_bound (linear_program p) (levels p fixings) 0 (length fixings) (start (linear_program p)) path (plain_bound p) (levels_ordered p h fixings) (levels_nested p h fixings n) (omega arith) r (start_of (linear_program p))
    (subst (λ z. plain_bound p ≤ₙ z)
    (ap (λ z. bound_of (linear_program p) (node_boxes p z) (multiplier [])) (sym (none fixings))
    ∙ bound_same (linear_program p) (levels p fixings 0) (multiplier []) (cost_multiplier (linear_program p) (start (linear_program p))) (λ i l. sym (start_multiplier (linear_program p) i l)))
    (le_refl' (plain_bound p))))
  where
    none : (xs : List Fixing) → take 0 xs ≡ []
    none [] = refl
    none (x ∷ xs) = refl

-- ---- a ruled path is lawful
pub rules_lawful : (P : LinearProgram) (level : ℕ → Boxes) (from top : ℕ) (T : Tableau) (ps : List (ℕ × ℕ)) → ((k : ℕ) → IsOrdered P.columns (level k)) → RulesPath P level from top T ps → Kept P T → IsLawfulPath P level from top T ps
rules_lawful P level from top T [] b h s = cost_signed P T s.of s.feasible
rules_lawful P level from top T (p ∷ ps) b h s = (
  cost_signed P T s.of s.feasible,
  (
    h.0,
    h.1,
    h.2,
    record { side = h.3.side; near = h.3.near; off = h.3.leaving.off },
    pivot_bound P (level h.0) T p.0 p.1 s.of (b h.0) h.3,
    rules_lawful P level h.0 top (pivot T p.0 p.1) ps b h.4
        (record { of = ruled_of P (level h.0) T p.0 p.1 s.of h.3; feasible = pivot_feasible P (level h.0) T p.0 p.1 s.of (b h.0) h.3 s.feasible }),
  ),
)

-- ---- a path at a node is one at each node below, and goes on by a run
lower_levels : (p : Problem) (fixings : List Fixing) (m from top : ℕ) (T : Tableau) (ps : List (ℕ × ℕ)) → top ≤ m → m ≤ length fixings → RulesPath (linear_program p) (levels p (take m fixings)) from top T ps →
    RulesPath (linear_program p) (levels p fixings) from (length fixings) T ps
lower_levels p fixings m from top T [] l q h = tt
lower_levels p fixings m from top T (x ∷ ps) l q h = let i : h.0 ≤ top = h.2 in (
  h.0,
  h.1,
  omega arith,
  subst (λ z. IsRuled (linear_program p) (node_boxes p z) T x.0 x.1) (take_take h.0 m fixings (omega arith)) h.3,
  lower_levels p fixings m h.0 top (pivot T x.0 x.1) ps l q h.4,
)

length_take : {X : Type 0} (m : ℕ) (xs : List X) → m ≤ length xs → length (take m xs) ≡ m
length_take zero [] l = refl
length_take zero (x ∷ xs) l = refl
length_take (suc m) [] l = absurd (omega arith)
length_take (suc m) (x ∷ xs) l = ap suc (length_take m xs (omega arith))

pub path_below : (p : Problem) (m : ℕ) (fixings : List Fixing) (path : List (ℕ × ℕ)) → m ≤ length fixings → IsPathAt p (take m fixings) path → IsPathAt p fixings path
path_below p m fixings path l h = lower_levels p fixings m 0 (length (take m fixings)) (start (linear_program p)) path (omega (arith, length_take m fixings l)) l h

goes_on : (P : LinearProgram) (level : ℕ → Boxes) (from top : ℕ) (T : Tableau) (ps qs : List (ℕ × ℕ)) → from ≤ top → RulesPath P level from top T ps → IsRun P (level top) (after T ps) qs → RulesPath P level from top T (ps ++ qs)
goes_on P level from top T [] [] l h r = tt
goes_on P level from top T [] (q ∷ qs) l h r = (top, l, omega arith, r.0, goes_on P level top top (pivot T q.0 q.1) [] qs (omega arith) tt r.1)
goes_on P level from top T (x ∷ ps) qs l h r = (h.0, h.1, h.2, h.3, goes_on P level h.0 top (pivot T x.0 x.1) ps qs h.2 h.4 r)

pub path_on : (p : Problem) (fixings : List Fixing) (path more : List (ℕ × ℕ)) → IsPathAt p fixings path → IsRun (linear_program p) (node_boxes p fixings) (tableau_after p path) more → IsPathAt p fixings (path ++ more)
path_on p fixings path more h r = goes_on (linear_program p) (levels p fixings) 0 (length fixings) (start (linear_program p)) path more (omega arith) h
    (subst (λ z. IsRun (linear_program p) (node_boxes p z) (tableau_after p path) more) (sym (take_whole fixings)) r)

-- ---- never
pub row_lawful : (p : Problem) (B : Boxes) (T : Tableau) (r : ℕ) (side near : Number) → IsOf (linear_program p) T → IsDualFeasible (linear_program p) T → IsOrdered (length p.boxes) B → IsBlocked (linear_program p) B T r side near →
    AreLawful p (row_pairs p T r side)
row_lawful p B T r side near o f b h = pairs_lawful p (row_multiplier (linear_program p) T r side)
    (never_lawful (linear_program p) B T (status_value (linear_program p) B T) r side near o (stands (linear_program p) B T o) f h.leaving.row (none_enters (linear_program p) B T r side near o h) b)

pub row_above : (p : Problem) (B : Boxes) (T : Tableau) (r : ℕ) (side near : Number) → IsOf (linear_program p) T → IsDualFeasible (linear_program p) T → IsOrdered (length p.boxes) B → IsBlocked (linear_program p) B T r side near →
    whole 0 <ₙ bound_of (linear_program (costless p)) B (multiplier (row_pairs p T r side))
row_above p B T r side near o f b h = subst (λ z. whole 0 <ₙ z)
    (sym (bound_same (linear_program (costless p)) B (multiplier (row_pairs p T r side)) (row_multiplier (linear_program p) T r side) (λ i l. pairs_are (length p.rows) (row_multiplier (linear_program p) T r side) i l)))
    (never_above (linear_program p) B T (status_value (linear_program p) B T) r side near o (stands (linear_program p) B T o) f h.leaving.row (none_enters (linear_program p) B T r side near o h) b)

-- ---- least
same_sums : (P : LinearProgram) (x y : Assignment) → ((j : ℕ) → j < P.columns → x j ≡ y j) → Meets P x → Meets P y
same_sums P x y h m i l = subst (λ z. compared (P.equation i) z (P.bound i)) (sum_to-same P.columns (λ j. P.factor i j *ₙ x j) (λ j. P.factor i j *ₙ y j) (λ j q. ap (λ z. P.factor i j *ₙ z) (h j q))) (m i l)

same_cost : (P : LinearProgram) (x y : Assignment) → ((j : ℕ) → j < P.columns → x j ≡ y j) → cost_of P x ≡ cost_of P y
same_cost P x y h = ap (λ z. P.constant +ₙ z) (sum_to-same P.columns (λ j. P.cost j *ₙ x j) (λ j. P.cost j *ₙ y j) (λ j q. ap (λ z. P.cost j *ₙ z) (h j q)))

pub point_cost : (p : Problem) (B : Boxes) (T : Tableau) → IsProblem p → value p.cost (at (status_point (linear_program p) B T)) ≡ cost_of (linear_program p) (status_value (linear_program p) B T)
point_cost p B T h = dense_cost p h (at (status_point (linear_program p) B T)) ∙ same_cost (linear_program p) _ _ (λ j l. values_are (length p.boxes) (status_value (linear_program p) B T) j l)

pub point_bound : (p : Problem) (fixings : List Fixing) (T : Tableau) → IsProblem p → IsOf (linear_program p) T →
    value p.cost (at (status_point (linear_program p) (node_boxes p fixings) T)) ≡ node_bound p fixings (cost_pairs p T)
point_bound p fixings T h o = point_cost p (node_boxes p fixings) T h ∙ sym (cost_bound p (node_boxes p fixings) T o)

pub point_least : (p : Problem) (fixings : List Fixing) (T : Tableau) → IsProblem p → IsOf (linear_program p) T → IsDualFeasible (linear_program p) T → AllInside (linear_program p) (node_boxes p fixings) T →
    IsLeastRelaxed p fixings (status_point (linear_program p) (node_boxes p fixings) T)
point_least p fixings T h o f a = record {
  is_point = record {
    long = values_long (length p.boxes) w;
    inside = λ j l. subst (Within (node_boxes p fixings j)) (sym (values_are (length p.boxes) w j l)) (ranges.0 j l);
    rows = (meets_is p h (at (status_point P B T))).1 (same_sums P w (at (status_point P B T)) (λ j l. sym (values_are (length p.boxes) w j l)) (status_meets P B T w o (raised_is_status P B T w o (stands P B T o)) ranges));
  };
  least = λ u r. subst (λ z. z ≤ₙ value p.cost (at u)) (sym (point_bound p fixings T h o)) (node_duality p fixings (cost_pairs p T) u h (cost_lawful p T o f) r);
}
  where
    P : LinearProgram
    P = linear_program p

    B : Boxes
    B = node_boxes p fixings

    w : Assignment
    w = status_value (linear_program p) (node_boxes p fixings) T

    ranges : IsFeasible (linear_program p) (node_boxes p fixings) (status_value (linear_program p) (node_boxes p fixings) T)
    ranges = feasible (linear_program p) (node_boxes p fixings) (status_value (linear_program p) (node_boxes p fixings) T) (range_of_all (linear_program p) (node_boxes p fixings) T o (node_ordered p h fixings) a)
