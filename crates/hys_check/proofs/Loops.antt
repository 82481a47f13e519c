-- One turn of a loop over tests that have one answer.
use Rattle.std.proofs.Common.{◌≡◌, ◌↔◌, ℕ, suc, ◌+◌, ◌<◌, ◌≤◌, refl, sym, ◌∙◌, ap, ap₂, subst, arith, add-one, Bool, true, false, ◌&&◌, ◌||◌, nat_eq, nat_lt, nat_le, cond, take, List, [], ◌∷◌, ◌++◌, length, drop, get_or, drop-cons, None, Some, Option, All}
use Rattle.std.specs.List.{list_any}
use Rattle.std.proofs.lemmas.List.{drop_all}
use Rattle.hys_number.specs.Number.{Number}
use Rattle.hys_number.specs.Ops.{whole}
use Rattle.hys_number.proofs.Bools.{lt_true, lt_false, eq_true, eq_false, and_both}
use Rattle.hys_lin.specs.Over.{AreTermsOver}
use Rattle.hys_lin.specs.Sums.{at, value, Holds, EachColumn}
use Rattle.hys_lin.specs.declared.form.Interval.{Interval}
use Rattle.hys_lin.specs.declared.form.Row.{Row}
use Rattle.hys_lin.specs.declared.lost.Lost.{Lost}
use Rattle.hys_lin.specs.declared.problem.Problem.{Problem}
use Rattle.hys_relax.specs.Node.{is_fixed}
use Rattle.hys_relax.specs.LinearProgram.{row_at}
use Rattle.hys_relax.specs.Bound.{AreLawful, node_bound}
use Rattle.hys_relax.specs.BoundSum.{bound_lost}
use Rattle.hys_relax.specs.declared.multipliers.Multipliers.{Multipliers}
use Rattle.hys_relax.specs.declared.fixing.Fixing.{Fixing}
use Rattle.hys_tree.specs.Fits.{row_lost, cost_lost}
use Rattle.hys_tree.specs.Shows.{Goal, at_least, goal_of}
use Rattle.hys_tree.specs.declared.answer.Best.{Best}
use Rattle.hys_tree.specs.declared.answer.Claim.{Claim}
use Rattle.hys_tree.specs.declared.tree.TreePlace.{TreePlace}
use Rattle.hys_check.specs.Testing.{Test, test, first_failing, lost_tests, is_at_most, is_equal}
use Rattle.hys_check.specs.TreeTests.{are_rows, are_signed, shape_tests, sum_tests, least_test, cost_tests, tree_tests}
use Rattle.hys_check.specs.Verdict.{verdict_of}
use Rattle.hys_check.specs.ClaimTests.{point_test, point_by, is_inside, box_tests, is_bit, bit_tests, is_met, row_tests, stated_tests, columns_tests, solved_tests, best_tests, claim_tests}
use Rattle.hys_check.specs.declared.verdict.At.TheVariants as place
use Rattle.hys_check.specs.declared.verdict.At.TheVariants.{Node}
use Rattle.hys_check.specs.declared.verdict.CheckWhy.TheVariants.{Shape, Sign, Below, Point, Range}
use Rattle.hys_check.specs.declared.verdict.Verdict.{Verdict}
use Rattle.hys_check.specs.declared.verdict.Verdict.TheVariants.{Yes, No}
use Rattle.hys_check.proofs.Verdicts.{Pass, after_pass, at_failure, pass_first, passes_then, fails_then, failed_first, pass_unlost, fail_lost}
use Rattle.hys_check.proofs.Comparing.{equal, same_test, less}
use Rattle.hys_check.proofs.Leaves.{lawful_of}
use Rattle.hys_check.proofs.Points.{met}

pub here : {X : Type 0} (xs : List X) (i : ℕ) (x d : X) → i < length xs → x ≡ get_or xs i d → drop i xs ≡ x ∷ drop (i + 1) xs
here xs i x d h e = rw (add-one, drop-cons xs i d h, ← e) refl

-- ---- rows that are there
pub rows_next : (w : Bool) (p : Problem) (ps rest : List (ℕ × Number)) (pair : ℕ × Number) → w ≡ are_rows p ps → ps ≡ pair ∷ rest → pair.0 < length p.rows → w ≡ are_rows p rest
rows_next w p ps rest pair h e l = h ∙ ap (are_rows p) e ∙ ap (λ b. b && are_rows p rest) (lt_true pair.0 (length p.rows) l)

pub rows_stop : (p : Problem) (w : Bool) (ps rest : List (ℕ × Number)) (pair : ℕ × Number) → w ≡ are_rows p ps → ps ≡ pair ∷ rest → length p.rows ≤ pair.0 → false ≡ w
rows_stop p w ps rest pair h e l = sym (h ∙ ap (are_rows p) e ∙ ap (λ b. b && are_rows p rest) (lt_false pair.0 (length p.rows) l))

pub rows_end : (p : Problem) (w : Bool) (ps : List (ℕ × Number)) (i : ℕ) → w ≡ are_rows p (drop i ps) → length ps ≤ i → true ≡ w
rows_end p w ps i h l = sym (h ∙ ap (are_rows p) (drop_all i ps l))

-- ---- signs
pub there_next : (p : Problem) (ps rest : List (ℕ × Number)) (pair : ℕ × Number) → are_rows p ps ≡ true → ps ≡ pair ∷ rest → (pair.0 < length p.rows) × (are_rows p rest ≡ true)
there_next p ps rest pair h e =
    let w = and_both (nat_lt pair.0 (length p.rows)) (are_rows p rest) (sym (ap (are_rows p) e) ∙ h) in
    (less pair.0 (length p.rows) w.0, w.1)

pub signs_next : (w : Bool) (p : Problem) (ps rest : List (ℕ × Number)) (pair : ℕ × Number) (t : Bool) → w ≡ are_signed p ps → ps ≡ pair ∷ rest → t ≡ ((row_at p pair.0).eq || is_at_most (whole 0) pair.1) → t ≡ true → w ≡ are_signed p rest
signs_next w p ps rest pair t h e q r = h ∙ ap (are_signed p) e ∙ ap (λ b. b && are_signed p rest) (sym q ∙ r)

pub signs_stop : (w : Bool) (p : Problem) (ps rest : List (ℕ × Number)) (pair : ℕ × Number) (t : Bool) → w ≡ are_signed p ps → ps ≡ pair ∷ rest → t ≡ ((row_at p pair.0).eq || is_at_most (whole 0) pair.1) → t ≡ false → false ≡ w
signs_stop w p ps rest pair t h e q r = sym (h ∙ ap (are_signed p) e ∙ ap (λ b. b && are_signed p rest) (sym q ∙ r))

pub signs_end : (p : Problem) (w : Bool) (ps : List (ℕ × Number)) (i : ℕ) → w ≡ are_signed p (drop i ps) → length ps ≤ i → true ≡ w
signs_end p w ps i h l = sym (h ∙ ap (are_signed p) (drop_all i ps l))

-- ---- boxes
pub boxes_next : (v : Verdict) (bs bs' : List Interval) (xs xs' : List Number) (b : Interval) (x : Number) (t : Bool) → v ≡ first_failing (box_tests bs xs) → bs ≡ b ∷ bs' → xs ≡ x ∷ xs' → t ≡ is_inside b x → t ≡ true → v ≡ first_failing (box_tests bs' xs')
boxes_next v bs bs' xs xs' b x t h e f q r = h ∙ ap₂ (λ y z. first_failing (box_tests y z)) e f ∙ after_pass (is_inside b x) place.Claim Point (box_tests bs' xs') (sym q ∙ r)

pub boxes_stop : (v : Verdict) (bs bs' : List Interval) (xs xs' : List Number) (b : Interval) (x : Number) (t : Bool) → v ≡ first_failing (box_tests bs xs) → bs ≡ b ∷ bs' → xs ≡ x ∷ xs' → t ≡ is_inside b x → t ≡ false → v ≡ No place.Claim Point
boxes_stop v bs bs' xs xs' b x t h e f q r = h ∙ ap₂ (λ y z. first_failing (box_tests y z)) e f ∙ at_failure (is_inside b x) place.Claim Point (box_tests bs' xs') (sym q ∙ r)

pub boxes_end : (v : Verdict) (bs : List Interval) (xs : List Number) (i : ℕ) → v ≡ first_failing (box_tests (drop i bs) xs) → length bs ≤ i → v ≡ Yes
boxes_end v bs xs i h l = h ∙ ap (λ y. first_failing (box_tests y xs)) (drop_all i bs l)

-- ---- bits
pub bits_next : (v : Verdict) (u : List Number) (cs rest : List ℕ) (c : ℕ) (x : Number) (t : Bool) → v ≡ first_failing (bit_tests u cs) → cs ≡ c ∷ rest → x ≡ at u c → t ≡ is_bit x → t ≡ true → v ≡ first_failing (bit_tests u rest)
bits_next v u cs rest c x t h e f q r = h ∙ ap (λ y. first_failing (bit_tests u y)) e ∙ after_pass (is_bit (at u c)) place.Claim Point (bit_tests u rest) (sym (q ∙ ap is_bit f) ∙ r)

pub bits_stop : (v : Verdict) (u : List Number) (cs rest : List ℕ) (c : ℕ) (x : Number) (t : Bool) → v ≡ first_failing (bit_tests u cs) → cs ≡ c ∷ rest → x ≡ at u c → t ≡ is_bit x → t ≡ false → v ≡ No place.Claim Point
bits_stop v u cs rest c x t h e f q r = h ∙ ap (λ y. first_failing (bit_tests u y)) e ∙ at_failure (is_bit (at u c)) place.Claim Point (bit_tests u rest) (sym (q ∙ ap is_bit f) ∙ r)

pub bits_end : (v : Verdict) (u : List Number) (cs : List ℕ) (i : ℕ) → v ≡ first_failing (bit_tests u (drop i cs)) → length cs ≤ i → v ≡ Yes
bits_end v u cs i h l = h ∙ ap (λ y. first_failing (bit_tests u y)) (drop_all i cs l)

-- ---- rows of the point
is_met_by : (u : List Number) (r : Row) (t : Bool) → (t ≡ true) ↔ Holds (at u) r → is_met u r ≡ t
is_met_by u r t h = same_test (is_met u r) t (λ e. h.1 ((met u r).0 e)) (λ e. (met u r).1 (h.0 e))

pub met_next : (v : Verdict) (u : List Number) (rs rest : List Row) (r : Row) (t : Bool) → v ≡ first_failing (row_tests u rs) → rs ≡ r ∷ rest → None ≡ row_lost u r → (t ≡ true) ↔ Holds (at u) r → t ≡ true → v ≡ first_failing (row_tests u rest)
met_next v u rs rest r t h e f k q =
    h ∙ ap (λ y. first_failing (row_tests u y)) e ∙ passes_then (lost_tests place.Claim (row_lost u r)) (point_test (is_met u r) ∷ row_tests u rest) (pass_unlost place.Claim (row_lost u r) (sym f))
    ∙ after_pass (is_met u r) place.Claim Point (row_tests u rest) (is_met_by u r t k ∙ q)

pub met_stop : (v : Verdict) (u : List Number) (rs rest : List Row) (r : Row) (t : Bool) → v ≡ first_failing (row_tests u rs) → rs ≡ r ∷ rest → None ≡ row_lost u r → (t ≡ true) ↔ Holds (at u) r → t ≡ false → v ≡ No place.Claim Point
met_stop v u rs rest r t h e f k q =
    h ∙ ap (λ y. first_failing (row_tests u y)) e ∙ passes_then (lost_tests place.Claim (row_lost u r)) (point_test (is_met u r) ∷ row_tests u rest) (pass_unlost place.Claim (row_lost u r) (sym f))
    ∙ at_failure (is_met u r) place.Claim Point (row_tests u rest) (is_met_by u r t k ∙ q)

pub met_lost : (v : Verdict) (u : List Number) (rs rest : List Row) (r : Row) (l : Lost) → v ≡ first_failing (row_tests u rs) → rs ≡ r ∷ rest → Some l ≡ row_lost u r → v ≡ No place.Claim (Range l)
met_lost v u rs rest r l h e f =
    h ∙ ap (λ y. first_failing (row_tests u y)) e ∙ fails_then (lost_tests place.Claim (row_lost u r)) (point_test (is_met u r) ∷ row_tests u rest) place.Claim (Range l) (fail_lost place.Claim (row_lost u r) l (sym f))

pub met_end : (v : Verdict) (u : List Number) (rs : List Row) (i : ℕ) → v ≡ first_failing (row_tests u (drop i rs)) → length rs ≤ i → v ≡ Yes
met_end v u rs i h l = h ∙ ap (λ y. first_failing (row_tests u y)) (drop_all i rs l)

-- ---- the cost
pub judged_by : (t : Bool) → first_failing (point_test t ∷ []) ≡ point_by t
judged_by true = refl
judged_by false = refl

pub stated : (p : Problem) (b : Best) (v : Verdict) (t : Bool) (cost : Number) → v ≡ point_by t → (t ≡ true) ↔ (cost ≡ b.cost) → cost ≡ value p.cost (at b.point.values) → None ≡ cost_lost p b.point.values → v ≡ first_failing (stated_tests p b)
stated p b v t cost e h f l =
    let q : is_equal (value p.cost (at b.point.values)) b.cost ≡ t =
    same_test (is_equal (value p.cost (at b.point.values)) b.cost) t (λ r. h.1 (f ∙ (equal (value p.cost (at b.point.values)) b.cost).0 r)) (λ r. (equal (value p.cost (at b.point.values)) b.cost).1 (sym f ∙ h.0 r)) in
    e ∙ sym (passes_then (lost_tests place.Claim (cost_lost p b.point.values)) (point_test (is_equal (value p.cost (at b.point.values)) b.cost) ∷ []) (pass_unlost place.Claim (cost_lost p b.point.values) (sym l))
    ∙ judged_by (is_equal (value p.cost (at b.point.values)) b.cost) ∙ ap point_by q)

pub stated_lost : (p : Problem) (b : Best) (l : Lost) → Some l ≡ cost_lost p b.point.values → No place.Claim (Range l) ≡ first_failing (stated_tests p b)
stated_lost p b l f = sym (fails_then (lost_tests place.Claim (cost_lost p b.point.values)) (point_test (is_equal (value p.cost (at b.point.values)) b.cost) ∷ []) place.Claim (Range l) (fail_lost place.Claim (cost_lost p b.point.values) l (sym f)))

-- ---- columns that are named
pub branch_next : (w : Bool) (c : ℕ) (bs rest : List ℕ) (b : ℕ) → w ≡ list_any (nat_eq c) bs → bs ≡ b ∷ rest → (b ≡ c → ⊥) → w ≡ list_any (nat_eq c) rest
branch_next w c bs rest b h e d = h ∙ ap (list_any (nat_eq c)) e ∙ ap (λ t. t || list_any (nat_eq c) rest) (eq_false c b (λ q. d (sym q)))

pub branch_found : (w : Bool) (c : ℕ) (bs rest : List ℕ) (b : ℕ) → w ≡ list_any (nat_eq c) bs → bs ≡ b ∷ rest → b ≡ c → true ≡ w
branch_found w c bs rest b h e q = sym (h ∙ ap (list_any (nat_eq c)) e ∙ ap (λ t. t || list_any (nat_eq c) rest) (eq_true c b (sym q)))

pub branch_end : (w : Bool) (c : ℕ) (bs : List ℕ) (i : ℕ) → w ≡ list_any (nat_eq c) (drop i bs) → length bs ≤ i → false ≡ w
branch_end w c bs i h l = sym (h ∙ ap (list_any (nat_eq c)) (drop_all i bs l))

pub fixed_next : (w : Bool) (c : ℕ) (fs rest : List Fixing) (f : Fixing) → w ≡ is_fixed fs c → fs ≡ f ∷ rest → (f.column ≡ c → ⊥) → w ≡ is_fixed rest c
fixed_next w c fs rest f h e d = h ∙ ap (λ gs. is_fixed gs c) e ∙ ap (λ t. t || is_fixed rest c) (eq_false f.column c d)

pub fixed_found : (w : Bool) (c : ℕ) (fs rest : List Fixing) (f : Fixing) → w ≡ is_fixed fs c → fs ≡ f ∷ rest → f.column ≡ c → true ≡ w
fixed_found w c fs rest f h e q = sym (h ∙ ap (λ gs. is_fixed gs c) e ∙ ap (λ t. t || is_fixed rest c) (eq_true f.column c q))

pub fixed_end : (w : Bool) (c : ℕ) (fs : List Fixing) (i : ℕ) → w ≡ is_fixed (drop i fs) c → length fs ≤ i → false ≡ w
fixed_end w c fs i h l = sym (h ∙ ap (λ gs. is_fixed gs c) (drop_all i fs l))

-- ---- the parts of a point, one behind the other
pub columns_both : (xs ys : List Test) (t u : Bool) → first_failing xs ≡ point_by t → first_failing ys ≡ point_by u → t ≡ true → first_failing (xs ++ ys) ≡ point_by u
columns_both xs ys t u h k e = passes_then xs ys (h ∙ ap point_by e) ∙ k

pub columns_first : (xs ys : List Test) (t : Bool) → first_failing xs ≡ point_by t → t ≡ false → first_failing (xs ++ ys) ≡ point_by t
columns_first xs ys t h e = fails_then xs ys place.Claim Point (h ∙ ap point_by e) ∙ sym (ap point_by e)

pub rows_over : (p : Problem) (xs : List Row) (n : ℕ) → xs ≡ p.rows → n ≡ length p.boxes → All (λ (r : Row). AreTermsOver (length p.boxes) r.terms) p.rows → All (λ (r : Row). EachColumn (λ c. c < n) r.terms) xs
rows_over p xs n e q h = λ k d l. subst (λ m. EachColumn (λ c. c < m) (get_or xs k d).terms) (sym q)
    (subst (λ (ys : List Row). EachColumn (λ c. c < length p.boxes) (get_or ys k d).terms) (sym e) (h k d (subst (λ (ys : List Row). k < length ys) e l)).below)

module _ (p : Problem) (b : Best) (long : length b.point.values ≡ length p.boxes) where
  solved_from : (w : Verdict) → w ≡ first_failing (columns_tests p b.point.values ++ (row_tests b.point.values p.rows ++ stated_tests p b)) → w ≡ first_failing (solved_tests p b)
  solved_from w h = h ∙ sym (after_pass (nat_eq (length b.point.values) (length p.boxes)) place.Claim Point (columns_tests p b.point.values ++ (row_tests b.point.values p.rows ++ stated_tests p b)) (eq_true (length b.point.values) (length p.boxes) long))

  pub solved_columns : (w : Verdict) (t : Bool) → w ≡ point_by false → first_failing (columns_tests p b.point.values) ≡ point_by t → t ≡ false → w ≡ first_failing (solved_tests p b)
  solved_columns w t e h f = solved_from w (e ∙ sym (fails_then (columns_tests p b.point.values) (row_tests b.point.values p.rows ++ stated_tests p b) place.Claim Point (h ∙ ap point_by f)))

  pub solved_rows : (w : Verdict) (t : Bool) → w ≡ first_failing (row_tests b.point.values p.rows) → (w ≡ Yes → ⊥) → first_failing (columns_tests p b.point.values) ≡ point_by t → t ≡ true → w ≡ first_failing (solved_tests p b)
  solved_rows w t e d h f = solved_from w (failed_first w (row_tests b.point.values p.rows) (stated_tests p b) e d ∙ sym (passes_then (columns_tests p b.point.values) (row_tests b.point.values p.rows ++ stated_tests p b) (h ∙ ap point_by f)))

  pub solved_stated : (w x : Verdict) (t : Bool) → w ≡ first_failing (stated_tests p b) → x ≡ first_failing (row_tests b.point.values p.rows) → x ≡ Yes → first_failing (columns_tests p b.point.values) ≡ point_by t → t ≡ true → w ≡ first_failing (solved_tests p b)
  solved_stated w x t e r y h f = solved_from w (e ∙ sym (passes_then (row_tests b.point.values p.rows) (stated_tests p b) (sym r ∙ y)) ∙ sym (passes_then (columns_tests p b.point.values) (row_tests b.point.values p.rows ++ stated_tests p b) (h ∙ ap point_by f)))

pub best_last : (p : Problem) (bound : Number) (b : Best) (w x : Verdict) (t : Bool) → w ≡ point_by t → t ≡ is_at_most bound b.cost → x ≡ first_failing (solved_tests p b) → x ≡ Yes → w ≡ first_failing (best_tests p bound (Some b))
best_last p bound b w x t e h s y = e ∙ ap point_by h ∙ sym (judged_by (is_at_most bound b.cost)) ∙ sym (passes_then (solved_tests p b) (point_test (is_at_most bound b.cost) ∷ []) (sym s ∙ y))

pub best_first : (p : Problem) (bound : Number) (b : Best) (x : Verdict) → x ≡ first_failing (solved_tests p b) → (x ≡ Yes → ⊥) → x ≡ first_failing (best_tests p bound (Some b))
best_first p bound b x s d = failed_first x (solved_tests p b) (point_test (is_at_most bound b.cost) ∷ []) s d

-- ---- leaves
pub leaf_lawful : (p : Problem) (pairs : List (ℕ × Number)) (d : Bool) (t u : Bool) → t ≡ (d && are_rows p pairs) → t ≡ true → u ≡ are_signed p pairs → u ≡ true → AreLawful p pairs
leaf_lawful p pairs d t u e f g h = lawful_of p pairs (and_both d (are_rows p pairs) (sym e ∙ f)).1 (sym g ∙ h)

-- ---- the tree, and then the claim
pub verdict_claim : (p : Problem) (places : List TreePlace) (c : Claim) (g : Goal) (x w : Verdict) → g ≡ goal_of c → x ≡ first_failing (tree_tests p g 0 ([] ∷ []) places) → x ≡ Yes → w ≡ first_failing (claim_tests p c) → w ≡ verdict_of p places c
verdict_claim p places c g x w e t y h = h ∙ sym (passes_then (tree_tests p (goal_of c) 0 ([] ∷ []) places) (claim_tests p c) (subst (λ z. first_failing (tree_tests p z 0 ([] ∷ []) places) ≡ Yes) e (sym t ∙ y)))

pub verdict_tree : (p : Problem) (places : List TreePlace) (c : Claim) (g : Goal) (x : Verdict) → g ≡ goal_of c → x ≡ first_failing (tree_tests p g 0 ([] ∷ []) places) → (x ≡ Yes → ⊥) → x ≡ verdict_of p places c
verdict_tree p places c g x e t d = failed_first x (tree_tests p (goal_of c) 0 ([] ∷ []) places) (claim_tests p c) (t ∙ ap (λ z. first_failing (tree_tests p z 0 ([] ∷ []) places)) e) d

module _ (p : Problem) (z : Number) (n : ℕ) (path fixings : List Fixing) (m : Multipliers) (k : ℕ) (pairs : List (ℕ × Number)) (t u : Bool) (e : pairs ≡ m.pairs) (f : fixings ≡ take k path)
    (h : t ≡ (nat_le k (length path) && are_rows p pairs)) (ht : t ≡ true) (s : u ≡ are_signed p pairs) (hu : u ≡ true) where
  shaped : Pass (shape_tests p n path m k)
  shaped = let w = and_both (nat_le k (length path)) (are_rows p pairs) (sym h ∙ ht) in
      pass_first (nat_le k (length path)) (Node n) Shape (test (are_rows p m.pairs) (Node n) Shape ∷ []) w.0 (pass_first (are_rows p m.pairs) (Node n) Shape [] (ap (are_rows p) (sym e) ∙ w.1) refl)

  is_signed : are_signed p m.pairs ≡ true
  is_signed = ap (are_signed p) (sym e) ∙ sym s ∙ hu

  lost_here : bound_lost p (take k path) m.pairs ≡ bound_lost p fixings pairs
  lost_here = ap₂ (bound_lost p) (sym f) (sym e)

  summed : first_failing (shape_tests p n path m k ++ sum_tests p n (take k path) m) ≡ first_failing (lost_tests (Node n) (bound_lost p (take k path) m.pairs))
  summed = passes_then (shape_tests p n path m k) (sum_tests p n (take k path) m) shaped ∙ after_pass (are_signed p m.pairs) (Node n) Sign (lost_tests (Node n) (bound_lost p (take k path) m.pairs)) is_signed

  pub bound_range : (l : Lost) → bound_lost p fixings pairs ≡ Some l → No (Node n) (Range l) ≡ first_failing (cost_tests p (at_least z) n path m k)
  bound_range l q = sym (fails_then (shape_tests p n path m k ++ sum_tests p n (take k path) m) (least_test n (node_bound p (take k path) m.pairs) z ∷ []) (Node n) (Range l)
      (summed ∙ fail_lost (Node n) (bound_lost p (take k path) m.pairs) l (lost_here ∙ q)))

  pub bound_judged : (b : Number) (x y : Bool) → (b ≡ node_bound p fixings pairs) × (bound_lost p fixings pairs ≡ None) → x ≡ is_at_most z b → x ≡ y → cond y Yes (No (Node n) (Below b z)) ≡ first_failing (cost_tests p (at_least z) n path m k)
  bound_judged b x y w q r =
      let g : b ≡ node_bound p (take k path) m.pairs = w.0 ∙ ap₂ (node_bound p) f e in
      ap (λ c. cond c Yes (No (Node n) (Below b z))) (sym r ∙ q) ∙ ap (λ c. cond (is_at_most z c) Yes (No (Node n) (Below c z))) g
      ∙ sym (passes_then (shape_tests p n path m k ++ sum_tests p n (take k path) m) (least_test n (node_bound p (take k path) m.pairs) z ∷ []) (summed ∙ pass_unlost (Node n) (bound_lost p (take k path) m.pairs) (lost_here ∙ w.1)))
