-- The value of an answer stands for it: the claim, and the whole.
use Rattle.std.proofs.Common.{◌≡◌, ℕ, List, [], ◌∷◌, ◌++◌, true, Option, Some, None, Result, Ok, Err, IfOk, map, codes, refl, sym, ◌∙◌, ap, subst}
use Rattle.std.specs.List.{AllByRecursion}
use Rattle.serde_json.specs.Data.{Data, Members, string, object}
use Rattle.serde_json.specs.View.{view}
use Rattle.serde_json.specs.declared.value.Value.{Value as JsonValue}
use Rattle.hys_json.specs.Checks.{Check, shape, first_fault, under}
use Rattle.hys_json.specs.Values.{each_from, word_checks, fraction_checks, whole_checks, closed_checks}
use Rattle.hys_json.proofs.Judging.{none_after_none, deeper_none}
use Rattle.hys_json.proofs.Passing.{none_of_list}
use Rattle.hys_json.proofs.Readings.{listed}
use Rattle.hys_number.specs.Number.{Number}
use Rattle.hys_relax.specs.declared.range.RangeAt.{RangeAt}
use Rattle.hys_relax.specs.declared.range.TablePlace.{TablePlace}
use Rattle.hys_relax.specs.declared.range.TablePlace.TheVariants.{Cell, Value, Sum}
use Rattle.hys_tree.specs.Multiplied.{AreMultiplied}
use Rattle.hys_tree.specs.declared.answer.Answer.{Answer}
use Rattle.hys_tree.specs.declared.answer.Best.{Best}
use Rattle.hys_tree.specs.declared.answer.Claim.{Claim}
use Rattle.hys_tree.specs.declared.answer.Claim.TheVariants.{Least, NoneExists, AtLeast}
use Rattle.hys_tree.specs.declared.answer.Why.{Why}
use Rattle.hys_tree.specs.declared.answer.Why.TheVariants.{Spent, Range}
use Rattle.hys_tree.specs.declared.tree.TreePlace.{TreePlace}
use Rattle.hys_json.specs.Shown.{fraction_data}
use Rattle.hys_answer.specs.Shown.{whole_data, list_data, place_data, point_data, best_data, cell_data, path_data, at_data, why_data, claim_data, answer_data}
use Rattle.hys_answer.specs.Fitting.{IsWhole, PlaceFits, BestFits, AnyBestFits, AtFits, WhyFits, ClaimFits, AnswerFits}
use Rattle.hys_answer.specs.Reading.{has_form, kind_checks, cell_checks, table_cell, table_cell_checks, table_value_checks, at_in, at_checks, point_checks, path_checks, spent_keys, spent_checks, range_keys, range_checks, why_in, why_parts, why_checks, best_keys, least_keys, none_keys, solution_in, solution_checks, best_in, best_checks, bound_keys, bound_checks, claim_in, claim_parts, claim_checks, place_in, place_asked, after_place, tree_in, tree_checks, answer_keys, version_checks, front_checks, back_checks, answer_checks, answer_in}
use Rattle.hys_answer.specs.Texts.{unexpanded, StandsFor}
use Rattle.hys_answer.proofs.Again.{number_again, number_passes, whole_again, whole_passes, point_again, point_passes, cell_again, cell_passes, path_again, path_passes, places_again, each_place}

-- ---- the place of a number
at_again : (t : TablePlace) → AtFits t → at_in (at_data t) ≡ t
unfolding has_form
at_again (Cell r c) f = ap table_cell (cell_again (r, c) f)
at_again (Value r) f = ap Value (whole_again r f)
at_again Sum f = refl

at_passes : (t : TablePlace) → AtFits t → first_fault (at_checks (at_data t)) ≡ None
unfolding has_form at_checks table_cell_checks table_value_checks
at_passes (Cell r c) f = deeper_none (codes "cell") (cell_checks (cell_data (r, c))) (cell_passes (r, c) f)
at_passes (Value r) f = deeper_none (codes "value") (whole_checks (whole_data r)) (whole_passes r f)
at_passes Sum f = refl

-- ---- why
why_again : (w : Why) → WhyFits w → why_in (why_data w) ≡ w
why_again (Spent n) f = ap Spent (whole_again n f)
why_again (Range node at) f = λ i. Range (whole_again node f.0 i) (record { path = path_again at.path f.2 i; at = at_again at.at f.1 i })

-- ---- a kind that is known
kind_passes : (ms : Members) → first_fault (kind_checks true (object ms)) ≡ None
unfolding kind_checks
kind_passes ms = deeper_none (codes "kind") (shape true ∷ []) refl

spent_closed : (n : ℕ) → first_fault (closed_checks spent_keys (why_data (Spent n))) ≡ None
unfolding closed_checks
spent_closed n = refl

spent_passes : (n : ℕ) → IsWhole n → first_fault (spent_checks (why_data (Spent n))) ≡ None
unfolding spent_checks
spent_passes n f =
    none_after_none (closed_checks spent_keys (why_data (Spent n))) (under (codes "nodes") (whole_checks (whole_data n))) (spent_closed n)
    (deeper_none (codes "nodes") (whole_checks (whole_data n)) (whole_passes n f))

range_closed : (node : ℕ) (at : RangeAt) → first_fault (closed_checks range_keys (why_data (Range node at))) ≡ None
unfolding closed_checks
range_closed node at = refl

range_passes : (node : ℕ) (at : RangeAt) → WhyFits (Range node at) → first_fault (range_checks (why_data (Range node at))) ≡ None
unfolding range_checks
range_passes node at f =
    let place : List Check = under (codes "at") (at_checks (at_data at.at)) in
    let leaf : List Check = under (codes "node") (whole_checks (whole_data node)) in
    let path : List Check = under (codes "path") (path_checks (path_data at.path)) in
    none_after_none (closed_checks range_keys (why_data (Range node at))) (place ++ (leaf ++ path)) (range_closed node at)
    (none_after_none place (leaf ++ path) (deeper_none (codes "at") (at_checks (at_data at.at)) (at_passes at.at f.1))
    (none_after_none leaf path (deeper_none (codes "node") (whole_checks (whole_data node)) (whole_passes node f.0))
    (deeper_none (codes "path") (path_checks (path_data at.path)) (path_passes at.path f.2))))

why_passes : (w : Why) → WhyFits w → first_fault (why_checks (why_data w)) ≡ None
unfolding why_checks why_parts
why_passes (Spent n) f = none_after_none (kind_checks true (why_data (Spent n))) (spent_checks (why_data (Spent n))) (kind_passes _) (spent_passes n f)
why_passes (Range node at) f = none_after_none (kind_checks true (why_data (Range node at))) (range_checks (why_data (Range node at))) (kind_passes _) (range_passes node at f)

-- ---- bests
solution_again : (b : Best) → BestFits b → solution_in (best_data (Some b)) ≡ b
solution_again b f = λ i. record { point = point_again b.point f.1 i; cost = number_again b.cost f.0 i }

best_again : (b : Option Best) → AnyBestFits b → best_in (best_data b) ≡ b
best_again None f = refl
best_again (Some b) f = ap Some (solution_again b f)

best_closed : (b : Best) → first_fault (closed_checks best_keys (best_data (Some b))) ≡ None
unfolding closed_checks
best_closed b = refl

least_closed : (b : Best) → first_fault (closed_checks least_keys (claim_data (Least b))) ≡ None
unfolding closed_checks
least_closed b = refl

parts_pass : (b : Best) → BestFits b → first_fault (under (codes "cost") (fraction_checks (fraction_data b.cost)) ++ under (codes "point") (point_checks (point_data b.point.values))) ≡ None
parts_pass b f =
    none_after_none (under (codes "cost") (fraction_checks (fraction_data b.cost))) (under (codes "point") (point_checks (point_data b.point.values)))
    (deeper_none (codes "cost") (fraction_checks (fraction_data b.cost)) (number_passes b.cost f.0)) (deeper_none (codes "point") (point_checks (point_data b.point.values)) (point_passes b.point.values f.1))

best_passes : (b : Option Best) → AnyBestFits b → first_fault (best_checks (best_data b)) ≡ None
unfolding best_checks solution_checks
best_passes None f = refl
best_passes (Some b) f =
    none_after_none (closed_checks best_keys (best_data (Some b))) (under (codes "cost") (fraction_checks (fraction_data b.cost)) ++ under (codes "point") (point_checks (point_data b.point.values))) (best_closed b) (parts_pass b f)

least_passes : (b : Best) → BestFits b → first_fault (solution_checks least_keys (claim_data (Least b))) ≡ None
unfolding solution_checks
least_passes b f =
    none_after_none (closed_checks least_keys (claim_data (Least b))) (under (codes "cost") (fraction_checks (fraction_data b.cost)) ++ under (codes "point") (point_checks (point_data b.point.values))) (least_closed b) (parts_pass b f)

-- ---- claims
claim_again : (c : Claim) → ClaimFits c → claim_in (claim_data c) ≡ c
claim_again (Least b) f = λ i. Least (record { point = point_again b.point f.1 i; cost = number_again b.cost f.0 i })
claim_again NoneExists f = refl
claim_again (AtLeast bound best why) f = λ i. AtLeast (number_again bound f.0 i) (best_again best f.1 i) (why_again why f.2 i)

none_closed : first_fault (closed_checks none_keys (claim_data NoneExists)) ≡ None
unfolding closed_checks
none_closed = refl

bound_closed : (bound : Number) (best : Option Best) (why : Why) → first_fault (closed_checks bound_keys (claim_data (AtLeast bound best why))) ≡ None
unfolding closed_checks
bound_closed bound best why = refl

bound_passes : (bound : Number) (best : Option Best) (why : Why) → ClaimFits (AtLeast bound best why) → first_fault (bound_checks (claim_data (AtLeast bound best why))) ≡ None
unfolding bound_checks
bound_passes bound best why f =
    let found : List Check = under (codes "best") (best_checks (best_data best)) in
    let least : List Check = under (codes "bound") (fraction_checks (fraction_data bound)) in
    let ended : List Check = under (codes "why") (why_checks (why_data why)) in
    none_after_none (closed_checks bound_keys (claim_data (AtLeast bound best why))) (found ++ (least ++ ended)) (bound_closed bound best why)
    (none_after_none found (least ++ ended) (deeper_none (codes "best") (best_checks (best_data best)) (best_passes best f.1))
    (none_after_none least ended (deeper_none (codes "bound") (fraction_checks (fraction_data bound)) (number_passes bound f.0))
    (deeper_none (codes "why") (why_checks (why_data why)) (why_passes why f.2))))

claim_passes : (c : Claim) → ClaimFits c → first_fault (claim_checks (claim_data c)) ≡ None
unfolding claim_checks claim_parts
claim_passes (Least b) f = none_after_none (kind_checks true (claim_data (Least b))) (solution_checks least_keys (claim_data (Least b))) (kind_passes _) (least_passes b f)
claim_passes NoneExists f = none_after_none (kind_checks true (claim_data NoneExists)) (closed_checks none_keys (claim_data NoneExists)) (kind_passes _) none_closed
claim_passes (AtLeast bound best why) f =
    none_after_none (kind_checks true (claim_data (AtLeast bound best why))) (bound_checks (claim_data (AtLeast bound best why))) (kind_passes _) (bound_passes bound best why f)

-- ---- the whole
tree_again : (ts : List TreePlace) → AreMultiplied ts → AllByRecursion PlaceFits ts → (tree_in (list_data (map place_data ts))).places ≡ ts
tree_again ts h f = ap (map place_in) (listed (map place_data ts)) ∙ places_again ts h f

tree_passes : (ts : List TreePlace) → AreMultiplied ts → AllByRecursion PlaceFits ts → first_fault (tree_checks (list_data (map place_data ts))) ≡ None
tree_passes ts h f =
    none_of_list place_asked after_place (record {}) (list_data (map place_data ts)) refl
    (subst (λ ds. first_fault (each_from place_asked after_place 0 (record {}) ds) ≡ None) (sym (listed (map place_data ts))) (each_place 0 ts h f))

answer_again : (a : Answer) → AreMultiplied a.tree.places → AnswerFits a.claim a.tree.places → answer_in (answer_data a.claim a.tree.places) ≡ unexpanded a
answer_again a h f = λ i. record { claim = claim_again a.claim f.0 i; tree = record { places = tree_again a.tree.places h f.1 i }; expanded = 0 }

answer_closed : (c : Claim) (ts : List TreePlace) → first_fault (closed_checks answer_keys (answer_data c ts)) ≡ None
unfolding closed_checks
answer_closed c ts = refl

front_passes : (c : Claim) (ts : List TreePlace) → ClaimFits c → first_fault (front_checks (answer_data c ts)) ≡ None
unfolding front_checks
front_passes c ts f =
    let claim : List Check = under (codes "claim") (claim_checks (claim_data c)) in
    let format : List Check = under (codes "format") (word_checks (codes "hysdel-answer") (string (codes "hysdel-answer"))) in
    none_after_none (closed_checks answer_keys (answer_data c ts)) (claim ++ format) (answer_closed c ts)
    (none_after_none claim format (deeper_none (codes "claim") (claim_checks (claim_data c)) (claim_passes c f))
    (deeper_none (codes "format") (word_checks (codes "hysdel-answer") (string (codes "hysdel-answer"))) refl))

back_passes : (c : Claim) (ts : List TreePlace) → AreMultiplied ts → AllByRecursion PlaceFits ts → first_fault (back_checks (answer_data c ts)) ≡ None
unfolding back_checks
back_passes c ts h f =
    none_after_none (under (codes "tree") (tree_checks (list_data (map place_data ts)))) (under (codes "version") (version_checks (whole_data 1)))
    (deeper_none (codes "tree") (tree_checks (list_data (map place_data ts))) (tree_passes ts h f)) (deeper_none (codes "version") (version_checks (whole_data 1)) refl)

answer_passes : (a : Answer) → AreMultiplied a.tree.places → AnswerFits a.claim a.tree.places → first_fault (answer_checks (answer_data a.claim a.tree.places)) ≡ None
unfolding answer_checks
answer_passes a h f =
    none_after_none (front_checks (answer_data a.claim a.tree.places)) (back_checks (answer_data a.claim a.tree.places))
    (front_passes a.claim a.tree.places f.0) (back_passes a.claim a.tree.places h f.1)

pub stands_for : (a : Answer) (d : Data) → d ≡ answer_data a.claim a.tree.places → AnswerFits a.claim a.tree.places → StandsFor d a
stands_for a d e f h = (
  subst (λ x. first_fault (answer_checks x) ≡ None) (sym e) (answer_passes a h f),
  ap answer_in e ∙ answer_again a h f,
)

pub all_stand : {E : Type 0} (a : Answer) (r : Result JsonValue E) → IfOk r (λ v. view v ≡ answer_data a.claim a.tree.places) → IfOk r (λ v. AnswerFits a.claim a.tree.places) →
    IfOk r (λ v. StandsFor (view v) a)
all_stand a (Ok v) e f = stands_for a (view v) e f
all_stand a (Err x) e f = tt
