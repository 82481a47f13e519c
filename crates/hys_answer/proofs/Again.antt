-- The value of an answer whose numbers fit, and whose multipliers rise, stands for that answer.
use Rattle.std.proofs.Common.{◌≡◌, ℕ, suc, ◌+◌, ◌^◌, ◌<◌, ◌≤◌, List, [], ◌∷◌, ◌++◌, true, false, not, cond, Option, Some, None, map, codes, nat_le, refl, sym, ◌∙◌, ap, subst, arith, tests}
use Rattle.std.specs.Prelude.{is_some}
use Rattle.std.specs.List.{AllByRecursion, filter}
use Rattle.std.specs.Ordering.{MatchOrdering}
use Rattle.std.specs.declared.cmp.Ordering.{Ordering}
use Rattle.std.specs.declared.cmp.Ordering.TheVariants.{Less, Equal, Greater}
use Rattle.hys_number.specs.Number.{Number}
use Rattle.hys_number.specs.Ops.{◌<ₙ◌, whole}
use Rattle.hys_number.proofs.Bools.{lt_true}
use Rattle.hys_frac.specs.Compare.{number_cmp, number_ranks}
use Rattle.hys_frac.proofs.RoundTrip.{read_back}
use Rattle.hys_lin.specs.Sums.{EachColumn, AreTerms}
use Rattle.hys_lin.specs.declared.form.Point.{Point}
use Rattle.hys_lin.proofs.Lists.{each_more}
use Rattle.hys_json.specs.Checks.{Check, shape, number, first_fault, under}
use Rattle.hys_json.specs.Values.{each_from, fits_by, fraction_by, fraction_in, fraction_checks, or_zero, whole_by, whole_in, whole_checks}
use Rattle.hys_json.proofs.Judging.{none_after_none, deeper_none}
use Rattle.hys_json.proofs.Passing.{none_of_each, none_of_list}
use Rattle.hys_json.proofs.Readings.{listed}
use Rattle.hys_file.specs.Reading.{pair_checks, first, second, is_equal, is_zero}
use Rattle.hys_relax.specs.Bound.{weights}
use Rattle.hys_relax.specs.declared.multipliers.Multipliers.{Multipliers}
use Rattle.hys_tree.specs.Multiplied.{IsMultiplied, AreMultiplied}
use Rattle.hys_tree.specs.declared.tree.TreePlace.{TreePlace}
use Rattle.hys_tree.specs.declared.tree.TreePlace.TheVariants.{Inner, Cost, Never}
use Rattle.hys_json.specs.Shown.{fraction_data}
use Rattle.hys_answer.specs.Shown.{whole_data, pair_data, pairs_data, place_data, point_data, cell_data, path_data}
use Rattle.hys_answer.specs.Fitting.{IsWhole, NumberFits, PairFits, CellFits, PlaceFits}
use Rattle.hys_answer.specs.Reading.{has_form, number_asked, after_number, point_in, point_checks, cell_in, cell_checks, cell_asked, after_cell, path_in, path_checks, pair_in, pair_asked, after_pair, is_counted, multipliers_in, multipliers_checks, inner_checks, cost_checks, never_checks, place_in, place_checks, place_asked, after_place}

-- ---- numbers
pub number_again : (a : Number) → NumberFits a → fraction_in (fraction_data a) ≡ a
number_again a f = ap fraction_by (read_back a f)

pub number_passes : (a : Number) → NumberFits a → first_fault (fraction_checks (fraction_data a)) ≡ None
number_passes a f = ap (λ r. first_fault (shape true ∷ number (fits_by r) ∷ [])) (read_back a f)

whole_by_again : (n : ℕ) → IsWhole n → whole_by (whole_data n) ≡ Some n
whole_by_again n h = ap (λ b. cond b (Some n) None) (lt_true n (2 ^ 32) h)

pub whole_again : (n : ℕ) → IsWhole n → whole_in (whole_data n) ≡ n
whole_again n h = ap or_zero (whole_by_again n h)

pub whole_passes : (n : ℕ) → IsWhole n → first_fault (whole_checks (whole_data n)) ≡ None
whole_passes n h = ap (λ (o : Option ℕ). first_fault (shape (is_some o) ∷ [])) (whole_by_again n h)

at_most : (m n : ℕ) → m ≤ n → nat_le m n ≡ true
at_most m n h = grind (arith, tests)

not_zero : (a : Number) → ¬ (a ≡ whole 0) → is_zero a ≡ false
not_zero a h = go (number_cmp a (whole 0)) (number_ranks a (whole 0))
  where
    go : (r : Ordering) → MatchOrdering r (a <ₙ whole 0) (a ≡ whole 0) (whole 0 <ₙ a) → is_equal r ≡ false
    go Less k = refl
    go Equal k = absurd (h k)
    go Greater k = refl

-- ---- points
values_again : (v : List Number) → AllByRecursion NumberFits v → map fraction_in (map fraction_data v) ≡ v
values_again [] f = refl
values_again (a ∷ v) f = λ i. number_again a f.0 i ∷ values_again v f.1 i

pub point_again : (p : Point) → AllByRecursion NumberFits p.values → point_in (point_data p.values) ≡ p
point_again p f =
    let made : List Number → Point = λ v. record { values = v } in
    ap made (ap (map fraction_in) (listed (map fraction_data p.values)) ∙ values_again p.values f)

each_value : (k : ℕ) (v : List Number) → AllByRecursion NumberFits v → first_fault (each_from number_asked after_number k (record {}) (map fraction_data v)) ≡ None
each_value k [] f = refl
each_value k (a ∷ v) f = none_of_each number_asked after_number k (record {}) (fraction_data a) (map fraction_data v) (number_passes a f.0) (each_value (suc k) v f.1)

pub point_passes : (v : List Number) → AllByRecursion NumberFits v → first_fault (point_checks (point_data v)) ≡ None
point_passes v f =
    none_of_list number_asked after_number (record {}) (point_data v) refl
    (subst (λ ds. first_fault (each_from number_asked after_number 0 (record {}) ds) ≡ None) (sym (listed (map fraction_data v))) (each_value 0 v f))

-- ---- paths
pub cell_again : (c : ℕ × ℕ) → CellFits c → cell_in (cell_data c) ≡ c
cell_again c f = λ i. (whole_again c.0 f.0 i, whole_again c.1 f.1 i)

pub cell_passes : (c : ℕ × ℕ) → CellFits c → first_fault (cell_checks (cell_data c)) ≡ None
unfolding pair_checks
cell_passes c f =
    let row : List Check = under first (whole_checks (whole_data c.0)) in
    let column : List Check = under second (whole_checks (whole_data c.1)) in
    none_after_none (pair_checks (cell_data c)) (row ++ column) refl
    (none_after_none row column (deeper_none first (whole_checks (whole_data c.0)) (whole_passes c.0 f.0)) (deeper_none second (whole_checks (whole_data c.1)) (whole_passes c.1 f.1)))

cells_again : (cs : List (ℕ × ℕ)) → AllByRecursion CellFits cs → map cell_in (map cell_data cs) ≡ cs
cells_again [] f = refl
cells_again (c ∷ cs) f = λ i. cell_again c f.0 i ∷ cells_again cs f.1 i

pub path_again : (cs : List (ℕ × ℕ)) → AllByRecursion CellFits cs → path_in (path_data cs) ≡ cs
path_again cs f = ap (map cell_in) (listed (map cell_data cs)) ∙ cells_again cs f

each_cell : (k : ℕ) (cs : List (ℕ × ℕ)) → AllByRecursion CellFits cs → first_fault (each_from cell_asked after_cell k (record {}) (map cell_data cs)) ≡ None
each_cell k [] f = refl
each_cell k (c ∷ cs) f = none_of_each cell_asked after_cell k (record {}) (cell_data c) (map cell_data cs) (cell_passes c f.0) (each_cell (suc k) cs f.1)

pub path_passes : (cs : List (ℕ × ℕ)) → AllByRecursion CellFits cs → first_fault (path_checks (path_data cs)) ≡ None
path_passes cs f =
    none_of_list cell_asked after_cell (record {}) (path_data cs) refl
    (subst (λ ds. first_fault (each_from cell_asked after_cell 0 (record {}) ds) ≡ None) (sym (listed (map cell_data cs))) (each_cell 0 cs f))

-- ---- multipliers
pair_again : (p : ℕ × Number) → PairFits p → pair_in (pair_data p) ≡ p
pair_again p f = λ i. (whole_again p.0 f.0 i, number_again p.1 f.1 i)

pairs_again : (ps : List (ℕ × Number)) → AllByRecursion PairFits ps → map pair_in (map pair_data ps) ≡ ps
pairs_again [] f = refl
pairs_again (p ∷ ps) f = λ i. pair_again p f.0 i ∷ pairs_again ps f.1 i

-- none is 0, so each counts
all_count : (ps : List (ℕ × Number)) → AreTerms (weights ps) → filter is_counted ps ≡ ps
all_count [] h = refl
all_count (p ∷ ps) h = ap (λ b. cond (not b) (p ∷ filter is_counted ps) (filter is_counted ps)) (not_zero p.1 h.0) ∙ ap (λ qs. p ∷ qs) (all_count ps h.2)

multipliers_again : (m : Multipliers) → AreTerms (weights m.pairs) → AllByRecursion PairFits m.pairs → multipliers_in (pairs_data m.pairs) ≡ m
multipliers_again m h f =
    let made : List (ℕ × Number) → Multipliers = λ ps. record { pairs = ps } in
    ap made (ap (λ ds. filter is_counted (map pair_in ds)) (listed (map pair_data m.pairs)) ∙ ap (filter is_counted) (pairs_again m.pairs f) ∙ all_count m.pairs h)

pair_passes : (least : ℕ) (p : ℕ × Number) → least ≤ p.0 → PairFits p → first_fault (pair_asked (record { least = least }) (pair_data p)) ≡ None
unfolding pair_checks
pair_passes least p l f =
    let row : List Check = under first (whole_checks (whole_data p.0)) in
    let factor : List Check = under second (fraction_checks (fraction_data p.1)) in
    let place : List Check = shape (nat_le least (whole_in (whole_data p.0))) ∷ [] in
    none_after_none (pair_checks (pair_data p)) (row ++ (factor ++ place)) refl
    (none_after_none row (factor ++ place) (deeper_none first (whole_checks (whole_data p.0)) (whole_passes p.0 f.0))
    (none_after_none factor place (deeper_none second (fraction_checks (fraction_data p.1)) (number_passes p.1 f.1))
    (ap (λ (n : ℕ). first_fault (shape (nat_le least n) ∷ [])) (whole_again p.0 f.0) ∙ ap (λ b. first_fault (shape b ∷ [])) (at_most least p.0 l))))

each_pair : (k least : ℕ) (ps : List (ℕ × Number)) → EachColumn (λ c. least ≤ c) (weights ps) → AreTerms (weights ps) → AllByRecursion PairFits ps →
    first_fault (each_from pair_asked after_pair k (record { least = least }) (map pair_data ps)) ≡ None
each_pair k least [] l h f = refl
each_pair k least (p ∷ ps) l h f =
    none_of_each pair_asked after_pair k (record { least = least }) (pair_data p) (map pair_data ps) (pair_passes least p l.0 f.0)
    (subst (λ (n : ℕ). first_fault (each_from pair_asked after_pair (suc k) (record { least = n + 1 }) (map pair_data ps)) ≡ None) (sym (whole_again p.0 f.0.0))
    (each_pair (suc k) (p.0 + 1) ps (each_more (λ c. p.0 < c) (λ c. p.0 + 1 ≤ c) (weights ps) (λ c q. omega arith) h.1) h.2 f.1))

from_zero : (ps : List (ℕ × Number)) → EachColumn (λ c. 0 ≤ c) (weights ps)
from_zero [] = tt
from_zero (p ∷ ps) = (omega arith, from_zero ps)

multipliers_pass : (ps : List (ℕ × Number)) → AreTerms (weights ps) → AllByRecursion PairFits ps → first_fault (multipliers_checks (pairs_data ps)) ≡ None
multipliers_pass ps h f =
    none_of_list pair_asked after_pair (record { least = 0 }) (pairs_data ps) refl
    (subst (λ ds. first_fault (each_from pair_asked after_pair 0 (record { least = 0 }) ds) ≡ None) (sym (listed (map pair_data ps))) (each_pair 0 0 ps (from_zero ps) h f))

-- ---- places
place_again : (t : TreePlace) → IsMultiplied t → PlaceFits t → place_in (place_data t) ≡ t
unfolding has_form
place_again (Inner c) h f = ap Inner (whole_again c f)
place_again (Cost m k) h f = λ i. Cost (multipliers_again m h f.0 i) (whole_again k f.1 i)
place_again (Never m k) h f = λ i. Never (multipliers_again m h f.0 i) (whole_again k f.1 i)

place_passes : (t : TreePlace) → IsMultiplied t → PlaceFits t → first_fault (place_checks (place_data t)) ≡ None
unfolding has_form place_checks inner_checks cost_checks never_checks
place_passes (Inner c) h f = deeper_none (codes "column") (whole_checks (whole_data c)) (whole_passes c f)
place_passes (Cost m k) h f =
    none_after_none (under (codes "cost") (multipliers_checks (pairs_data m.pairs))) (under (codes "depth") (whole_checks (whole_data k)))
    (deeper_none (codes "cost") (multipliers_checks (pairs_data m.pairs)) (multipliers_pass m.pairs h f.0)) (deeper_none (codes "depth") (whole_checks (whole_data k)) (whole_passes k f.1))
place_passes (Never m k) h f =
    none_after_none (under (codes "depth") (whole_checks (whole_data k))) (under (codes "never") (multipliers_checks (pairs_data m.pairs)))
    (deeper_none (codes "depth") (whole_checks (whole_data k)) (whole_passes k f.1)) (deeper_none (codes "never") (multipliers_checks (pairs_data m.pairs)) (multipliers_pass m.pairs h f.0))

pub places_again : (ts : List TreePlace) → AreMultiplied ts → AllByRecursion PlaceFits ts → map place_in (map place_data ts) ≡ ts
places_again [] h f = refl
places_again (t ∷ ts) h f = λ i. place_again t h.0 f.0 i ∷ places_again ts h.1 f.1 i

pub each_place : (k : ℕ) (ts : List TreePlace) → AreMultiplied ts → AllByRecursion PlaceFits ts → first_fault (each_from place_asked after_place k (record {}) (map place_data ts)) ≡ None
each_place k [] h f = refl
each_place k (t ∷ ts) h f = none_of_each place_asked after_place k (record {}) (place_data t) (map place_data ts) (place_passes t h.0 f.0) (each_place (suc k) ts h.1 f.1)
