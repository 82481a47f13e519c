-- In the tree of a value in which nothing is wrong rows rise, and no multiplier is 0.
use Rattle.std.proofs.Common.{◌≡◌, ℕ, suc, ◌+◌, ◌<◌, ◌≤◌, List, [], ◌∷◌, ◌++◌, Bool, true, false, not, cond, None, Result, Ok, Err, IfOk, map, length, get_or, drop, codes, nat_le, refl, sym, ◌∙◌, ap, subst, arith, tests}
use Rattle.std.proofs.lemmas.List.{drop_more}
use Rattle.std.specs.List.{filter}
use Rattle.std.specs.Ordering.{MatchOrdering}
use Rattle.std.specs.declared.cmp.Ordering.{Ordering}
use Rattle.std.specs.declared.cmp.Ordering.TheVariants.{Less, Equal, Greater}
use Rattle.serde_json.specs.Data.{Data}
use Rattle.hys_number.specs.Number.{Number}
use Rattle.hys_number.specs.Ops.{◌<ₙ◌, whole}
use Rattle.hys_number.proofs.Order.{lt_irrefl}
use Rattle.hys_frac.specs.Compare.{number_cmp, number_ranks}
use Rattle.hys_lin.specs.Sums.{EachColumn, AreTerms}
use Rattle.hys_lin.proofs.Lists.{each_more}
use Rattle.hys_json.specs.declared.fault.ValueFault.{ValueFault}
use Rattle.hys_json.specs.Checks.{Check, shape, first_fault, under, Judged}
use Rattle.hys_json.specs.Values.{each_from, items_in, member_in, fraction_checks, whole_in, whole_checks}
use Rattle.hys_json.proofs.Passing.{passes_only, both_pass, passes_within, each_passes, items_pass}
use Rattle.hys_file.specs.Reading.{item_in, pair_checks, first, second, is_equal, is_zero}
use Rattle.hys_relax.specs.Bound.{weights}
use Rattle.hys_tree.specs.Multiplied.{IsMultiplied, AreMultiplied}
use Rattle.hys_tree.specs.declared.answer.Answer.{Answer}
use Rattle.hys_answer.specs.Reading.{pair_in, pair_asked, after_pair, is_counted, multipliers_in, multipliers_checks, has_form, inner_keys, cost_keys, never_keys, inner_in, cost_in, never_in, inner_checks, cost_checks, never_checks, place_in, place_checks, place_asked, after_place, tree_in, tree_checks, front_checks, back_checks, version_checks, answer_checks, answer_in}
use Rattle.hys_answer.specs.Texts.{IsAnswerText}

is_at_most : (m n : ℕ) → nat_le m n ≡ true → m ≤ n
is_at_most m n h = grind (arith, tests)

isnt_zero : (a : Number) → not (is_zero a) ≡ true → ¬ (a ≡ whole 0)
isnt_zero a h = go (number_cmp a (whole 0)) (number_ranks a (whole 0)) h
  where
    go : (r : Ordering) → MatchOrdering r (a <ₙ whole 0) (a ≡ whole 0) (whole 0 <ₙ a) → not (is_equal r) ≡ true → ¬ (a ≡ whole 0)
    go Less k e = λ q. lt_irrefl (whole 0) (subst (λ x. x <ₙ whole 0) q k)
    go Equal k e = absurd (cc)
    go Greater k e = λ q. lt_irrefl (whole 0) (subst (λ x. whole 0 <ₙ x) q k)

-- ---- multipliers
row_starts : (least : ℕ) (d : Data) → first_fault (pair_asked (record { least = least }) d) ≡ None → least ≤ whole_in (item_in 0 d)
row_starts least d h =
    let place : List Check = shape (nat_le least (whole_in (item_in 0 d))) ∷ [] in
    let one = both_pass (pair_checks d) (under first (whole_checks (item_in 0 d)) ++ (under second (fraction_checks (item_in 1 d)) ++ place)) h in
    let two = both_pass (under first (whole_checks (item_in 0 d))) (under second (fraction_checks (item_in 1 d)) ++ place) one.1 in
    let three = both_pass (under second (fraction_checks (item_in 1 d))) place two.1 in
    is_at_most least (whole_in (item_in 0 d)) (passes_only (nat_le least (whole_in (item_in 0 d))) three.1)

pub record AreNext (least : ℕ) (ps : List (ℕ × Number)) : Type 0 where
  pub starts : EachColumn (λ c. least ≤ c) (weights ps)
  pub rise : AreTerms (weights ps)

-- one more pair, which counts or not
pub more_pairs : (least : ℕ) (p : ℕ × Number) (ps : List (ℕ × Number)) (b : Bool) → is_counted p ≡ b → least ≤ p.0 → AreNext (p.0 + 1) ps →
    AreNext least (cond b (p ∷ ps) ps)
more_pairs least p ps true e l h = record {
  starts = (l, each_more (λ c. p.0 + 1 ≤ c) (λ c. least ≤ c) (weights ps) (λ c k. omega arith) h.starts);
  rise = (isnt_zero p.1 e, each_more (λ c. p.0 + 1 ≤ c) (λ c. p.0 < c) (weights ps) (λ c k. omega arith) h.starts, h.rise);
}
more_pairs least p ps false e l h = record {
  starts = each_more (λ c. p.0 + 1 ≤ c) (λ c. least ≤ c) (weights ps) (λ c k. omega arith) h.starts;
  rise = h.rise;
}

pairs_next : (k least : ℕ) (ds : List Data) → first_fault (each_from pair_asked after_pair k (record { least = least }) ds) ≡ None →
    AreNext least (filter is_counted (map pair_in ds))
pairs_next k least [] h = record { starts = tt; rise = tt }
pairs_next k least (d ∷ ds) h =
    let p = each_passes pair_asked after_pair k (record { least = least }) d ds h in
    let rest : AreNext (whole_in (item_in 0 d) + 1) (filter is_counted (map pair_in ds)) = pairs_next (suc k) (whole_in (item_in 0 d) + 1) ds p.1 in
    more_pairs least (pair_in d) (filter is_counted (map pair_in ds)) (is_counted (pair_in d)) refl (row_starts least d p.0) rest

-- one more pair of a list that is gone through: if what is left rises then all do
pub pairs_next_counted : (ps : List (ℕ × Number)) (i least : ℕ) (p : ℕ × Number) → i < length ps → p ≡ get_or ps i p → least ≤ p.0 → is_counted p ≡ true →
    (AreNext least (drop i ps) → AreNext 0 ps) → AreNext (p.0 + 1) (drop (i + 1) ps) → AreNext 0 ps
pairs_next_counted ps i least p l e k q before rest =
    let here : drop i ps ≡ p ∷ drop (i + 1) ps = drop_more ps i p l ∙ ap (λ x. x ∷ drop (i + 1) ps) (sym e) in
    before (subst (AreNext least) (sym here) (more_pairs least p (drop (i + 1) ps) true q k rest))

multipliers_rise : (d : Data) → first_fault (multipliers_checks d) ≡ None → AreTerms (weights (multipliers_in d).pairs)
multipliers_rise d h = (pairs_next 0 0 (items_in d) (items_pass pair_asked after_pair (record { least = 0 }) d h)).rise

-- ---- places
cost_multiplied : (d : Data) → first_fault (cost_checks d) ≡ None → IsMultiplied (cost_in d)
unfolding cost_checks
cost_multiplied d h =
    let one = both_pass (under (codes "cost") (multipliers_checks (member_in (codes "cost") d))) (under (codes "depth") (whole_checks (member_in (codes "depth") d))) h in
    multipliers_rise (member_in (codes "cost") d) (passes_within (codes "cost") (multipliers_checks (member_in (codes "cost") d)) one.0)

never_multiplied : (d : Data) → first_fault (never_checks d) ≡ None → IsMultiplied (never_in d)
unfolding never_checks
never_multiplied d h =
    let one = both_pass (under (codes "depth") (whole_checks (member_in (codes "depth") d))) (under (codes "never") (multipliers_checks (member_in (codes "never") d))) h in
    multipliers_rise (member_in (codes "never") d) (passes_within (codes "never") (multipliers_checks (member_in (codes "never") d)) one.1)

place_multiplied : (d : Data) → first_fault (place_checks d) ≡ None → IsMultiplied (place_in d)
unfolding place_checks
place_multiplied d h = go (has_form inner_keys d) (has_form cost_keys d) (has_form never_keys d) h
  where
    go : (a b c : Bool) → first_fault (cond a (inner_checks d) (cond b (cost_checks d) (cond c (never_checks d) (shape false ∷ [])))) ≡ None →
        IsMultiplied (cond a (inner_in d) (cond b (cost_in d) (never_in d)))
    go true b c h = tt
    go false true c h = cost_multiplied d h
    go false false true h = never_multiplied d h
    go false false false h = absurd (cc)

places_multiplied : (k : ℕ) (ds : List Data) → first_fault (each_from place_asked after_place k (record {}) ds) ≡ None → AreMultiplied (map place_in ds)
places_multiplied k [] h = tt
places_multiplied k (d ∷ ds) h =
    let p = each_passes place_asked after_place k (record {}) d ds h in
    (place_multiplied d p.0, places_multiplied (suc k) ds p.1)

tree_multiplied : (d : Data) → first_fault (tree_checks d) ≡ None → AreMultiplied (tree_in d).places
tree_multiplied d h = places_multiplied 0 (items_in d) (items_pass place_asked after_place (record {}) d h)

-- ---- the whole
pub answer_multiplied : (d : Data) → first_fault (answer_checks d) ≡ None → AreMultiplied (answer_in d).tree.places
unfolding answer_checks back_checks
answer_multiplied d h =
    let tree : List Check = under (codes "tree") (tree_checks (member_in (codes "tree") d)) in
    let version : List Check = under (codes "version") (version_checks (member_in (codes "version") d)) in
    let one = both_pass (front_checks d) (tree ++ version) h in
    let two = both_pass tree version one.1 in
    tree_multiplied (member_in (codes "tree") d) (passes_within (codes "tree") (tree_checks (member_in (codes "tree") d)) two.0)

pub read_multiplied : (d : Data) (r : Result Answer ValueFault) → Judged (answer_checks d) (λ a. a ≡ answer_in d) r → IfOk r (λ a. AreMultiplied a.tree.places)
read_multiplied d (Ok a) h = subst (λ (b : Answer). AreMultiplied b.tree.places) (sym h.1) (answer_multiplied d h.0)
read_multiplied d (Err f) h = tt

pub text_multiplied : (text : List ℕ) (a : Answer) → IsAnswerText text a → AreMultiplied a.tree.places
text_multiplied text a t = subst (λ (b : Answer). AreMultiplied b.tree.places) (sym t.answer) (answer_multiplied t.read t.right)
