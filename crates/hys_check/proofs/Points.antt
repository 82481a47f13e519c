-- What the tests of a claim say.
use Rattle.std.proofs.Common.{◌≡◌, ◌↔◌, ℕ, zero, suc, ◌<◌, refl, sym, ◌∙◌, ap, subst, arith, Bool, true, false, cond, ◌||◌, List, [], ◌∷◌, ◌++◌, length, All, None, Option, Some}
use Rattle.std.specs.Prelude.{nat_eq}
use Rattle.std.specs.List.{AllByRecursion, list_any}
use Rattle.hys_number.specs.Number.{Number}
use Rattle.hys_number.specs.Ops.{◌≤ₙ◌}
use Rattle.hys_number.proofs.Bools.{eq_true}
use Rattle.hys_lin.specs.Bits.{IsBit}
use Rattle.hys_lin.specs.Ranges.{box_at}
use Rattle.hys_lin.specs.Sums.{at, sum_of, value, Within, Holds, HoldAll}
use Rattle.hys_lin.specs.declared.form.Interval.{Interval}
use Rattle.hys_lin.specs.declared.form.Row.{Row}
use Rattle.hys_lin.specs.declared.problem.Problem.{Problem}
use Rattle.hys_relax.specs.Node.{StackedSolution, is_branch}
use Rattle.hys_relax.proofs.Dense.{same_column, own_column}
use Rattle.hys_tree.specs.Shows.{IsSolvedBy, BestHolds, ClaimHolds}
use Rattle.hys_tree.specs.Fits.{row_lost, cost_lost, PointFits, BestFits, ClaimFits}
use Rattle.hys_tree.specs.declared.answer.Best.{Best}
use Rattle.hys_tree.specs.declared.answer.Claim.{Claim}
use Rattle.hys_tree.specs.declared.answer.Claim.TheVariants.{Least, NoneExists, AtLeast}
use Rattle.hys_check.specs.Testing.{Test, test, first_failing, lost_tests, is_at_most, is_equal}
use Rattle.hys_check.specs.ClaimTests.{point_test, is_inside, box_tests, is_bit, bit_tests, is_met, row_tests, stated_tests, columns_tests, solved_tests, best_tests, claim_tests}
use Rattle.hys_check.specs.declared.verdict.At.TheVariants as place
use Rattle.hys_check.specs.declared.verdict.CheckWhy.TheVariants.{Point}
use Rattle.hys_check.proofs.Verdicts.{Pass, both_pass, pass_both, one_passes, first_passes, pass_first, none_lost, pass_unlost}
use Rattle.hys_check.proofs.Comparing.{at_most, equal, inside, a_bit, comparison, same_whole}

-- ---- columns
boxed : (boxes : List Interval) (xs : List Number) → length xs ≡ length boxes → Pass (box_tests boxes xs) → (c : ℕ) → c < length boxes → Within (box_at boxes c) (at xs c)
boxed [] xs e h c l = absurd (omega arith)
boxed (b ∷ bs) [] e h c l = absurd (omega arith)
boxed (b ∷ bs) (x ∷ xs) e h zero l = (inside b x).0 (first_passes (is_inside b x) place.Claim Point (box_tests bs xs) h).0
boxed (b ∷ bs) (x ∷ xs) e h (suc c) l = boxed bs xs (omega (arith, e)) (first_passes (is_inside b x) place.Claim Point (box_tests bs xs) h).1 c (omega arith)

pass_boxed : (boxes : List Interval) (xs : List Number) → ((c : ℕ) → c < length boxes → Within (box_at boxes c) (at xs c)) → Pass (box_tests boxes xs)
pass_boxed [] xs h = refl
pass_boxed (b ∷ bs) [] h = refl
pass_boxed (b ∷ bs) (x ∷ xs) h = pass_first (is_inside b x) place.Claim Point (box_tests bs xs) ((inside b x).1 (h zero (omega arith))) (pass_boxed bs xs (λ c l. h (suc c) (omega arith)))

bits : (v : List Number) (cs : List ℕ) → Pass (bit_tests v cs) → (c : ℕ) → list_any (nat_eq c) cs ≡ true → IsBit (at v c)
bits v [] h c e = absurd (let q : false ≡ true = e in cc)
bits v (b ∷ cs) h c e =
    let w : (is_bit (at v b) ≡ true) × Pass (bit_tests v cs) = first_passes (is_bit (at v b)) place.Claim Point (bit_tests v cs) h in
    go w.0 (bits v cs w.1 c) (nat_eq c b) refl e
  where
    go : is_bit (at v b) ≡ true → (list_any (nat_eq c) cs ≡ true → IsBit (at v c)) → (t : Bool) → nat_eq c b ≡ t → (t || list_any (nat_eq c) cs) ≡ true → IsBit (at v c)
    go w rest true q f = subst (λ z. IsBit (at v z)) (sym (same_column c b q)) ((a_bit (at v b)).0 w)
    go w rest false q f = rest f

pass_bits : (v : List Number) (cs : List ℕ) → ((c : ℕ) → list_any (nat_eq c) cs ≡ true → IsBit (at v c)) → Pass (bit_tests v cs)
pass_bits v [] h = refl
pass_bits v (b ∷ cs) h = pass_first (is_bit (at v b)) place.Claim Point (bit_tests v cs) ((a_bit (at v b)).1 (h b own)) (pass_bits v cs (λ c e. h c (later c e)))
  where
    own : (nat_eq b b || list_any (nat_eq b) cs) ≡ true
    own = ap (λ t. t || list_any (nat_eq b) cs) (own_column b)

    later : (c : ℕ) → list_any (nat_eq c) cs ≡ true → (nat_eq c b || list_any (nat_eq c) cs) ≡ true
    later c e = go (nat_eq c b)
      where
        go : (t : Bool) → (t || list_any (nat_eq c) cs) ≡ true
        go true = refl
        go false = e

-- ---- rows
pub met : (v : List Number) (r : Row) → (is_met v r ≡ true) ↔ Holds (at v) r
unfolding Holds
met v r = comparison r.eq (sum_of r.terms (at v)) r.bound

abbrev RowsFit : List Number → List Row → Type 0
RowsFit v rows = AllByRecursion (λ r. row_lost v r ≡ None) rows

rows_hold : (v : List Number) (rows : List Row) → Pass (row_tests v rows) → HoldAll (at v) rows × RowsFit v rows
rows_hold v [] h = (tt, tt)
rows_hold v (r ∷ rs) h =
    let w = both_pass (lost_tests place.Claim (row_lost v r)) (point_test (is_met v r) ∷ row_tests v rs) h in
    let s = first_passes (is_met v r) place.Claim Point (row_tests v rs) w.1 in
    let t = rows_hold v rs s.1 in
    (((met v r).0 s.0, t.0), (none_lost place.Claim (row_lost v r) w.0, t.1))

pass_rows : (v : List Number) (rows : List Row) → HoldAll (at v) rows → RowsFit v rows → Pass (row_tests v rows)
pass_rows v [] h f = refl
pass_rows v (r ∷ rs) h f = pass_both (lost_tests place.Claim (row_lost v r)) (point_test (is_met v r) ∷ row_tests v rs) (pass_unlost place.Claim (row_lost v r) f.0)
    (pass_first (is_met v r) place.Claim Point (row_tests v rs) ((met v r).1 h.0) (pass_rows v rs h.1 f.1))

-- ---- the whole point
pub solved : (p : Problem) (b : Best) → Pass (solved_tests p b) → IsSolvedBy p b × PointFits p b.point.values
solved p b h =
    let v = b.point.values in
    let l = first_passes (nat_eq (length v) (length p.boxes)) place.Claim Point (columns_tests p v ++ (row_tests v p.rows ++ stated_tests p b)) h in
    let c = both_pass (columns_tests p v) (row_tests v p.rows ++ stated_tests p b) l.1 in
    let d = both_pass (box_tests p.boxes v) (bit_tests v p.branch) c.0 in
    let r = both_pass (row_tests v p.rows) (stated_tests p b) c.1 in
    let s = both_pass (lost_tests place.Claim (cost_lost p v)) (point_test (is_equal (value p.cost (at v)) b.cost) ∷ []) r.1 in
    let e : length v ≡ length p.boxes = same_whole (length v) (length p.boxes) l.0 in
    let m = rows_hold v p.rows r.0 in (
      record {
        solution = record { long = e; inside = boxed p.boxes v e d.0; bits = bits v p.branch d.1; rows = m.0 };
        cost = (equal (value p.cost (at v)) b.cost).0 (one_passes (is_equal (value p.cost (at v)) b.cost) place.Claim Point s.1);
      },
      record { rows = m.1; cost = none_lost place.Claim (cost_lost p v) s.0 },
    )

pub pass_solved : (p : Problem) (b : Best) → IsSolvedBy p b → PointFits p b.point.values → Pass (solved_tests p b)
pass_solved p b h f =
    let v = b.point.values in
    pass_first (nat_eq (length v) (length p.boxes)) place.Claim Point (columns_tests p v ++ (row_tests v p.rows ++ stated_tests p b)) (eq_true (length v) (length p.boxes) h.solution.long)
    (pass_both (columns_tests p v) (row_tests v p.rows ++ stated_tests p b)
    (pass_both (box_tests p.boxes v) (bit_tests v p.branch) (pass_boxed p.boxes v h.solution.inside) (pass_bits v p.branch h.solution.bits))
    (pass_both (row_tests v p.rows) (stated_tests p b) (pass_rows v p.rows h.solution.rows f.rows)
    (pass_both (lost_tests place.Claim (cost_lost p v)) (point_test (is_equal (value p.cost (at v)) b.cost) ∷ []) (pass_unlost place.Claim (cost_lost p v) f.cost)
    (pass_first (is_equal (value p.cost (at v)) b.cost) place.Claim Point [] ((equal (value p.cost (at v)) b.cost).1 h.cost) refl))))

-- ---- claims
pub claim_holds : (p : Problem) (c : Claim) → Pass (claim_tests p c) → ClaimHolds p c × ClaimFits p c
claim_holds p (Least b) h = solved p b h
claim_holds p NoneExists h = (tt, tt)
claim_holds p (AtLeast bound best why) h = go best h
  where
    go : (best : Option Best) → Pass (best_tests p bound best) → BestHolds p bound best × BestFits p best
    go None h = (tt, tt)
    go (Some b) h =
        let w = both_pass (solved_tests p b) (point_test (is_at_most bound b.cost) ∷ []) h in
        let s = solved p b w.0 in
        (record { solved = s.0; above = (at_most bound b.cost).0 (one_passes (is_at_most bound b.cost) place.Claim Point w.1) }, s.1)

pub claim_passes : (p : Problem) (c : Claim) → ClaimHolds p c → ClaimFits p c → Pass (claim_tests p c)
claim_passes p (Least b) h f = pass_solved p b h f
claim_passes p NoneExists h f = refl
claim_passes p (AtLeast bound best why) h f = go best h f
  where
    go : (best : Option Best) → BestHolds p bound best → BestFits p best → Pass (best_tests p bound best)
    go None h f = refl
    go (Some b) h f = pass_both (solved_tests p b) (point_test (is_at_most bound b.cost) ∷ []) (pass_solved p b h.solved f)
        (pass_first (is_at_most bound b.cost) place.Claim Point [] ((at_most bound b.cost).1 h.above) refl)
