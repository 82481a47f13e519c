-- What the tests of a place say.
use Rattle.std.proofs.Common.{◌≡◌, ◌↔◌, ◌⊎◌, inl, inr, ℕ, ◌<◌, ◌≤◌, refl, sym, ◌∙◌, Bool, true, false, not, ◌&&◌, ◌||◌, nat_lt, nat_le, List, [], ◌∷◌, ◌++◌, length, take, None}
use Rattle.hys_number.specs.Number.{Number}
use Rattle.hys_number.specs.Ops.{◌≤ₙ◌, ◌<ₙ◌, whole}
use Rattle.hys_number.proofs.Bools.{lt_true, and_both}
use Rattle.hys_lin.specs.declared.problem.Problem.{Problem}
use Rattle.hys_relax.specs.Node.{is_branch, is_fixed}
use Rattle.hys_relax.specs.LinearProgram.{row_at}
use Rattle.hys_relax.specs.Bound.{AreLawful, SignHolds, costless, node_bound}
use Rattle.hys_relax.specs.BoundSum.{BoundFits, bound_lost}
use Rattle.hys_relax.specs.declared.fixing.Fixing.{Fixing}
use Rattle.hys_relax.specs.declared.multipliers.Multipliers.{Multipliers}
use Rattle.hys_tree.specs.Shows.{Goal, at_least, none, CostShows, NeverShows, InnerHolds}
use Rattle.hys_check.specs.Testing.{Test, test, first_failing, lost_tests, is_at_most, is_below}
use Rattle.hys_check.specs.TreeTests.{are_rows, are_signed, shape_tests, sum_tests, least_test, above_test, cost_tests, never_tests, is_open}
use Rattle.hys_check.specs.declared.verdict.At.TheVariants.{Node}
use Rattle.hys_check.specs.declared.verdict.CheckWhy.TheVariants.{Shape, Sign, Below}
use Rattle.hys_check.proofs.Verdicts.{Pass, no_isnt_yes, both_pass, pass_both, one_passes, first_passes, pass_first, none_lost, pass_unlost}
use Rattle.hys_check.proofs.Comparing.{at_most, below, both, either, either_left, either_right, not_false, not_true, less, at_most_whole, is_at_most_whole}

-- ---- multipliers
sign_holds : (q : Bool) (y : Number) → q || is_at_most (whole 0) y ≡ true → SignHolds q y
sign_holds true y e = tt
sign_holds false y e = (at_most (whole 0) y).0 e

sign_test : (q : Bool) (y : Number) → SignHolds q y → q || is_at_most (whole 0) y ≡ true
sign_test true y h = refl
sign_test false y h = (at_most (whole 0) y).1 h

pub lawful_of : (p : Problem) (pairs : List (ℕ × Number)) → are_rows p pairs ≡ true → are_signed p pairs ≡ true → AreLawful p pairs
lawful_of p [] e f = tt
lawful_of p (pair ∷ pairs) e f =
    let r = and_both (nat_lt pair.0 (length p.rows)) (are_rows p pairs) e in
    let s = and_both ((row_at p pair.0).eq || is_at_most (whole 0) pair.1) (are_signed p pairs) f in
    ((less pair.0 (length p.rows) r.0, sign_holds (row_at p pair.0).eq pair.1 s.0), lawful_of p pairs r.1 s.1)

pub rows_of_lawful : (p : Problem) (pairs : List (ℕ × Number)) → AreLawful p pairs → are_rows p pairs ≡ true
rows_of_lawful p [] h = refl
rows_of_lawful p (pair ∷ pairs) h = both (nat_lt pair.0 (length p.rows)) (are_rows p pairs) (lt_true pair.0 (length p.rows) h.0.0) (rows_of_lawful p pairs h.1)

pub signs_of_lawful : (p : Problem) (pairs : List (ℕ × Number)) → AreLawful p pairs → are_signed p pairs ≡ true
signs_of_lawful p [] h = refl
signs_of_lawful p (pair ∷ pairs) h =
    both ((row_at p pair.0).eq || is_at_most (whole 0) pair.1) (are_signed p pairs) (sign_test (row_at p pair.0).eq pair.1 h.0.1) (signs_of_lawful p pairs h.1)

-- what the tests before a leaf's last one say
record IsSummed (p : Problem) (path : List Fixing) (m : Multipliers) (k : ℕ) : Type 0 where
  depth : k ≤ length path
  lawful : AreLawful p m.pairs
  fits : BoundFits p (take k path) m.pairs

summed_of : (p q : Problem) (n : ℕ) (path : List Fixing) (m : Multipliers) (k : ℕ) → are_rows p m.pairs ≡ are_rows q m.pairs → Pass (shape_tests p n path m k ++ sum_tests q n (take k path) m) → IsSummed q path m k
summed_of p q n path m k e h =
    let w = both_pass (shape_tests p n path m k) (sum_tests q n (take k path) m) h in
    let s = first_passes (nat_le k (length path)) (Node n) Shape (test (are_rows p m.pairs) (Node n) Shape ∷ []) w.0 in
    let t = first_passes (are_signed q m.pairs) (Node n) Sign (lost_tests (Node n) (bound_lost q (take k path) m.pairs)) w.1 in
    record {
      depth = at_most_whole k (length path) s.0;
      lawful = lawful_of q m.pairs (sym e ∙ one_passes (are_rows p m.pairs) (Node n) Shape s.1) t.0;
      fits = none_lost (Node n) (bound_lost q (take k path) m.pairs) t.1;
    }

pass_summed : (p q : Problem) (n : ℕ) (path : List Fixing) (m : Multipliers) (k : ℕ) → are_rows p m.pairs ≡ are_rows q m.pairs → IsSummed q path m k → Pass (shape_tests p n path m k ++ sum_tests q n (take k path) m)
pass_summed p q n path m k e h = pass_both (shape_tests p n path m k) (sum_tests q n (take k path) m)
    (pass_first (nat_le k (length path)) (Node n) Shape (test (are_rows p m.pairs) (Node n) Shape ∷ []) (is_at_most_whole k (length path) h.depth)
    (pass_first (are_rows p m.pairs) (Node n) Shape [] (e ∙ rows_of_lawful q m.pairs h.lawful) refl))
    (pass_first (are_signed q m.pairs) (Node n) Sign (lost_tests (Node n) (bound_lost q (take k path) m.pairs)) (signs_of_lawful q m.pairs h.lawful)
    (pass_unlost (Node n) (bound_lost q (take k path) m.pairs) h.fits))

-- ---- leaves
pub cost_shown : (p : Problem) (g : Goal) (n : ℕ) (path : List Fixing) (m : Multipliers) (k : ℕ) → Pass (cost_tests p g n path m k) → CostShows p g path m k × BoundFits p (take k path) m.pairs
cost_shown p none n path m k h = absurd (no_isnt_yes (Node n) Shape h)
cost_shown p (at_least z) n path m k h =
    let b = node_bound p (take k path) m.pairs in
    let w = both_pass (shape_tests p n path m k ++ sum_tests p n (take k path) m) (least_test n b z ∷ []) h in
    let s : IsSummed p path m k = summed_of p p n path m k refl w.0 in
    (record { depth = s.depth; lawful = s.lawful; keeps = (at_most z b).0 (one_passes (is_at_most z b) (Node n) (Below b z) w.1) }, s.fits)

pub cost_passes : (p : Problem) (g : Goal) (n : ℕ) (path : List Fixing) (m : Multipliers) (k : ℕ) → CostShows p g path m k → BoundFits p (take k path) m.pairs → Pass (cost_tests p g n path m k)
cost_passes p none n path m k h f = absurd h.keeps
cost_passes p (at_least z) n path m k h f =
    let b = node_bound p (take k path) m.pairs in
    pass_both (shape_tests p n path m k ++ sum_tests p n (take k path) m) (least_test n b z ∷ [])
    (pass_summed p p n path m k refl (record { depth = h.depth; lawful = h.lawful; fits = f }))
    (pass_first (is_at_most z b) (Node n) (Below b z) [] ((at_most z b).1 h.keeps) refl)

costless_rows : (p : Problem) (pairs : List (ℕ × Number)) → are_rows p pairs ≡ are_rows (costless p) pairs
costless_rows p [] = refl
costless_rows p (pair ∷ pairs) = rw (costless_rows p pairs) refl

lawful_costless : (p : Problem) (pairs : List (ℕ × Number)) → AreLawful (costless p) pairs → AreLawful p pairs
lawful_costless p [] h = tt
lawful_costless p (pair ∷ pairs) h = (h.0, lawful_costless p pairs h.1)

lawful_free : (p : Problem) (pairs : List (ℕ × Number)) → AreLawful p pairs → AreLawful (costless p) pairs
lawful_free p [] h = tt
lawful_free p (pair ∷ pairs) h = (h.0, lawful_free p pairs h.1)

pub never_shown : (p : Problem) (n : ℕ) (path : List Fixing) (m : Multipliers) (k : ℕ) → Pass (never_tests p n path m k) → NeverShows p path m k × BoundFits (costless p) (take k path) m.pairs
never_shown p n path m k h =
    let b = node_bound (costless p) (take k path) m.pairs in
    let w = both_pass (shape_tests p n path m k ++ sum_tests (costless p) n (take k path) m) (above_test n b ∷ []) h in
    let s : IsSummed (costless p) path m k = summed_of p (costless p) n path m k (costless_rows p m.pairs) w.0 in
    (record { depth = s.depth; lawful = lawful_costless p m.pairs s.lawful; above = (below (whole 0) b).0 (one_passes (is_below (whole 0) b) (Node n) (Below b (whole 0)) w.1) }, s.fits)

pub never_passes : (p : Problem) (n : ℕ) (path : List Fixing) (m : Multipliers) (k : ℕ) → NeverShows p path m k → BoundFits (costless p) (take k path) m.pairs → Pass (never_tests p n path m k)
never_passes p n path m k h f =
    let b = node_bound (costless p) (take k path) m.pairs in
    pass_both (shape_tests p n path m k ++ sum_tests (costless p) n (take k path) m) (above_test n b ∷ [])
    (pass_summed p (costless p) n path m k (costless_rows p m.pairs) (record { depth = h.depth; lawful = lawful_free p m.pairs h.lawful; fits = f }))
    (pass_first (is_below (whole 0) b) (Node n) (Below b (whole 0)) [] ((below (whole 0) b).1 h.above) refl)

-- ---- inner places
pub inner_shown : (p : Problem) (n : ℕ) (path : List Fixing) (c : ℕ) → Pass (test (is_open p path c) (Node n) Shape ∷ []) → InnerHolds p path c
inner_shown p n path c h =
    let w = and_both (is_branch p c) (not (is_fixed path c)) (one_passes (is_open p path c) (Node n) Shape h) in
    record { branch = w.0; free = not_false (is_fixed path c) w.1 }

pub inner_passes : (p : Problem) (n : ℕ) (path : List Fixing) (c : ℕ) → InnerHolds p path c → Pass (test (is_open p path c) (Node n) Shape ∷ [])
inner_passes p n path c h = pass_first (is_open p path c) (Node n) Shape [] (both (is_branch p c) (not (is_fixed path c)) h.branch (not_true (is_fixed path c) h.free)) refl
