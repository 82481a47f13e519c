-- A table that pivots by the rule over a node's boxes: it stays alike to the tableau after its path.
use Rattle.std.proofs.Common.{◌≡◌, ℕ, ◌+◌, ◌<◌, ◌≤◌, ◌==◌, refl, sym, ◌∙◌, ap, subst, arith, if◌then◌else◌, List, [], ◌∷◌, ◌++◌, length, take, ◌⊎◌, inl, inr}
use Rattle.std.proofs.Math.Path.{fun_ext}
use Rattle.std.proofs.lemmas.List.{length-append, append-nil, append_assoc}
use Rattle.hys_number.specs.Number.{Number}
use Rattle.hys_number.specs.Ops.{◌+ₙ◌, ◌*ₙ◌, whole}
use Rattle.hys_number.proofs.Sums.{sum_to-same}
use Rattle.hys_lin.specs.Problem.{IsProblem}
use Rattle.hys_lin.specs.Ranges.{box_at}
use Rattle.hys_lin.specs.declared.form.Interval.{Interval}
use Rattle.hys_lin.specs.declared.problem.Problem.{Problem}
use Rattle.hys_relax.specs.Node.{node_boxes}
use Rattle.hys_relax.specs.LinearProgram.{LinearProgram, linear_program}
use Rattle.hys_relax.specs.declared.fixing.Fixing.{Fixing}
use Rattle.hys_simplex.specs.Tableau.{Tableau, IsOf, start, line, coef, mix, pivot}
use Rattle.hys_simplex.specs.Rule.{IsRuled}
use Rattle.hys_simplex.specs.Path.{IsPathAt, IsRun, tableau_after, status_count}
use Rattle.hys_simplex.specs.Alike.{IsAlike}
use Rattle.hys_simplex.specs.Laws.{AreOrdered, IsReached}
use Rattle.hys_simplex.proofs.Alike.{alike_sym, alike_trans, line_alike, coef_alike, solves_alike, pivot_alike}
use Rattle.hys_simplex.proofs.AlikeRules.{feasible_alike, ruled_alike}
use Rattle.hys_simplex.proofs.NodePaths.{levels_ordered, path_on}
use Rattle.hys_simplex.proofs.Runs.{run_grows, after_append}
use Rattle.hys_simplex.proofs.Shown.{path_reaches, ends, no_status_twice}
use Rattle.hys_tab.specs.Table.{Table, tableau_of}
use Rattle.hys_dual.specs.Relaxing.{IsWarmAt, GoesOn}

-- ---- what is alike to a tableau of the problem is one
mix_alike : (P : LinearProgram) (T T' : Tableau) → IsAlike T T' → (i : ℕ) (f : ℕ → Number) → i ≤ T.rows → mix P T i f ≡ mix P T' i f
mix_alike P T T' h i f l = ap (λ z. z +ₙ (if i == P.rows then f P.rows else whole 0))
    (sum_to-same P.rows (λ k. coef T i (P.columns + k) *ₙ f k) (λ k. coef T' i (P.columns + k) *ₙ f k) (λ k m. ap (λ z. z *ₙ f k) (coef_alike T T' h i (P.columns + k) l)))

of_alike : (P : LinearProgram) (T T' : Tableau) → IsAlike T T' → IsOf P T → IsOf P T'
of_alike P T T' h o = record {
  wide = sym h.wide ∙ o.wide;
  tall = sym h.tall ∙ o.tall;
  mixes = record {
    lines = λ w i l. let m : i ≤ T.rows = omega (arith, o.tall, l) in sym (line_alike T T' h w i m) ∙ o.mixes.lines w i l ∙ mix_alike P T T' h i (line (start P) w) m;
    constants = λ i l. let m : i ≤ T.rows = omega (arith, o.tall, l) in ap (T'.cell i) (sym h.wide) ∙ sym (h.cells i T.columns m (omega arith)) ∙ o.mixes.constants i l ∙ mix_alike P T T' h i (λ k. (start P).cell k P.columns) m;
  };
  placed = record {
    apart = λ i j li lj e. o.placed.apart i j li lj (h.basics i (omega (arith, o.tall, li)) ∙ e ∙ sym (h.outsides j (omega (arith, o.wide, lj))));
    once = λ i j li lj e. o.placed.once i j li lj (h.outsides i (omega (arith, o.wide, li)) ∙ e ∙ sym (h.outsides j (omega (arith, o.wide, lj))));
    basic_once = λ i j li lj e. o.placed.basic_once i j li lj (h.basics i (omega (arith, o.tall, li)) ∙ e ∙ sym (h.basics j (omega (arith, o.tall, lj))));
    somewhere = λ u l. elim (o.placed.somewhere u l) as (λ _. ((i : ℕ) × (i < P.rows) × (T'.basic i ≡ u)) ⊎ ((j : ℕ) × (j < P.columns) × (T'.outside j ≡ u))) [
      | inl q ↦ inl (q.0, q.1, sym (h.basics q.0 (omega (arith, o.tall, q.1))) ∙ q.2)
      | inr q ↦ inr (q.0, q.1, sym (h.outsides q.0 (omega (arith, o.wide, q.1))) ∙ q.2)
    ];
    goal = sym (h.basics P.rows (omega (arith, o.tall))) ∙ o.placed.goal;
    basic_in = λ i l. subst (λ z. z < P.columns + P.rows) (h.basics i (omega (arith, o.tall, l))) (o.placed.basic_in i l);
    outside_in = λ j l. subst (λ z. z < P.columns + P.rows) (h.outsides j (omega (arith, o.wide, l))) (o.placed.outside_in j l);
  };
  keeps = λ w. (λ s. solves_alike T T' h w ((o.keeps w).0 s), λ s. (o.keeps w).1 (solves_alike T' T (alike_sym T T' h) w s));
}

pub reached_alike : (P : LinearProgram) (T T' : Tableau) → IsAlike T T' → IsReached P T → IsReached P T'
reached_alike P T T' h s = record { of = of_alike P T T' h s.of; feasible = feasible_alike P T T' h s.of.wide s.feasible }

-- ---- a table after a ruled path
pub after_reached : (p : Problem) (fixings : List Fixing) (path : List (ℕ × ℕ)) → IsProblem p → IsPathAt p fixings path → IsReached (linear_program p) (tableau_after p path)
after_reached p fixings path h r = (path_reaches p fixings path h r).0

pub warm_reached : (p : Problem) (fixings : List Fixing) (t : Table) (path : List (ℕ × ℕ)) → IsProblem p → IsWarmAt p fixings t path → IsReached (linear_program p) (tableau_of t)
warm_reached p fixings t path h w = reached_alike (linear_program p) (tableau_after p path) (tableau_of t) (alike_sym (tableau_of t) (tableau_after p path) w.reached) (after_reached p fixings path h w.ruled)

pub same_boxes : (p : Problem) (fixings : List Fixing) (bs : List Interval) → ((j : ℕ) → box_at bs j ≡ node_boxes p fixings j) → box_at bs ≡ node_boxes p fixings
same_boxes p fixings bs h = fun_ext (λ j. h j)

take_whole : {X : Type 0} (xs : List X) → take (length xs) xs ≡ xs
take_whole [] = refl
take_whole (x ∷ xs) = ap (λ z. x ∷ z) (take_whole xs)

pub node_ordered : (p : Problem) (fixings : List Fixing) → IsProblem p → AreOrdered (length p.boxes) (node_boxes p fixings)
node_ordered p fixings h = subst (λ fs. AreOrdered (length p.boxes) (node_boxes p fs)) (take_whole fixings) (levels_ordered p h fixings (length fixings))

pub boxes_ordered : (p : Problem) (fixings : List Fixing) (bs : List Interval) → IsProblem p → ((j : ℕ) → box_at bs j ≡ node_boxes p fixings j) → AreOrdered (length p.boxes) (box_at bs)
boxes_ordered p fixings bs h e = subst (AreOrdered (length p.boxes)) (sym (same_boxes p fixings bs e)) (node_ordered p fixings h)

-- ---- pivots that are added
pub none_added : (p : Problem) (fixings : List Fixing) (path : List (ℕ × ℕ)) → GoesOn p fixings path path
none_added p fixings path = record { added = []; path = sym (append-nil path); ruled = tt; once = λ i j l m. absurd (omega (arith, l, m)) }

-- the rule's pivot of the table is that of the tableau after the path
pub ruled_after : (p : Problem) (fixings : List Fixing) (bs : List Interval) (t : Table) (path : List (ℕ × ℕ)) (r c : ℕ) → IsProblem p → ((j : ℕ) → box_at bs j ≡ node_boxes p fixings j) → IsWarmAt p fixings t path →
    IsRuled (linear_program p) (box_at bs) (tableau_of t) r c → IsRuled (linear_program p) (node_boxes p fixings) (tableau_after p path) r c
ruled_after p fixings bs t path r c h e w q = let s : IsReached (linear_program p) (tableau_of t) = warm_reached p fixings t path h w in
    ruled_alike (linear_program p) (node_boxes p fixings) (tableau_of t) (tableau_after p path) w.reached s.of.wide s.of.tall r c (subst (λ B. IsRuled (linear_program p) B (tableau_of t) r c) (same_boxes p fixings bs e) q)

pub one_added : (p : Problem) (fixings : List Fixing) (old path : List (ℕ × ℕ)) (r c : ℕ) → IsProblem p → IsPathAt p fixings old → GoesOn p fixings old path →
    IsRuled (linear_program p) (node_boxes p fixings) (tableau_after p path) r c → GoesOn p fixings old (path ++ (r, c) ∷ [])
one_added p fixings old path r c h w g q =
    let run : IsRun (linear_program p) (node_boxes p fixings) (tableau_after p old) (g.added ++ (r, c) ∷ []) = run_grows (linear_program p) (node_boxes p fixings) (tableau_after p old) g.added r c g.ruled
    (subst (λ T. IsRuled (linear_program p) (node_boxes p fixings) T r c) (ap (tableau_after p) g.path ∙ after_append (start (linear_program p)) old g.added) q) in
    record {
      added = g.added ++ (r, c) ∷ [];
      path = ap (λ z. z ++ (r, c) ∷ []) g.path ∙ append_assoc old g.added ((r, c) ∷ []);
      ruled = run;
      once = λ i j l m. no_status_twice (linear_program p) (node_boxes p fixings) (tableau_after p old) (g.added ++ (r, c) ∷ []) i j (node_ordered p fixings h) (after_reached p fixings old h w) run l m;
    }

-- the table after the pivot is that after the longer path
pub pivot_warm : (p : Problem) (fixings : List Fixing) (t t' : Table) (path : List (ℕ × ℕ)) (r c : ℕ) → IsProblem p → IsWarmAt p fixings t path → IsRuled (linear_program p) (node_boxes p fixings) (tableau_after p path) r c →
    IsAlike (tableau_of t') (pivot (tableau_of t) r c) → IsWarmAt p fixings t' (path ++ (r, c) ∷ [])
pivot_warm p fixings t t' path r c h w q a = let s : IsReached (linear_program p) (tableau_of t) = warm_reached p fixings t path h w in record {
  ruled = path_on p fixings path ((r, c) ∷ []) w.ruled (q, tt);
  reached = subst (IsAlike (tableau_of t')) (sym (after_append (start (linear_program p)) path ((r, c) ∷ [])))
      (alike_trans (tableau_of t') (pivot (tableau_of t) r c) (pivot (tableau_after p path) r c) a
      (pivot_alike (tableau_of t) (tableau_after p path) r c w.reached (rw s.of.tall q.leaving.row) (rw s.of.wide q.entering.column)));
}

-- ---- the end of the loop
pub few_added : (p : Problem) (fixings : List Fixing) (old path : List (ℕ × ℕ)) → IsProblem p → IsPathAt p fixings old → GoesOn p fixings old path → length path < status_count (linear_program p) + length old
few_added p fixings old path h r g =
    let s : IsReached (linear_program p) (tableau_after p old) = after_reached p fixings old h r in
    let l : length g.added < status_count (linear_program p) = ends (linear_program p) (node_boxes p fixings) (tableau_after p old) g.added (node_ordered p fixings h) s g.ruled in
    omega (arith, l, ap length g.path ∙ length-append old g.added)
