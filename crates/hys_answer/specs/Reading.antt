-- What the text of an answer says: what is looked for in its JSON value, in order, and the answer that the value stands for.
use Rattle.std.specs.Prelude.{◌≡◌, ℕ, ◌+◌, List, [], ◌∷◌, ◌++◌, Option, Some, None, Bool, true, false, not, ◌&&◌, ◌||◌, map, length, cond, codes, is_some, nat_eq, nat_le}
use Rattle.std.specs.List.{filter}
use Rattle.serde_json.specs.Data.{Data}
use Rattle.serde_json.specs.Find.{as_str, as_null}
use Rattle.hys_number.specs.Number.{Number}
use Rattle.hys_lin.specs.declared.form.Point.{Point}
use Rattle.hys_json.specs.Checks.{Check, shape, first_fault, under}
use Rattle.hys_json.specs.Values.{word_checks, is_word_by, fraction_in, fraction_checks, whole_by, whole_in, whole_checks, items_in, list_checks, is_object, has, member_in, keys_in, closed_checks}
use Rattle.hys_file.specs.Reading.{item_in, pair_checks, first, second, is_zero, is_number_by}
use Rattle.hys_relax.specs.declared.multipliers.Multipliers.{Multipliers}
use Rattle.hys_relax.specs.declared.range.RangeAt.{RangeAt}
use Rattle.hys_relax.specs.declared.range.TablePlace.{TablePlace}
use Rattle.hys_relax.specs.declared.range.TablePlace.TheVariants.{Cell, Value, Sum}
use Rattle.hys_tree.specs.declared.answer.Answer.{Answer}
use Rattle.hys_tree.specs.declared.answer.Best.{Best}
use Rattle.hys_tree.specs.declared.answer.Claim.{Claim}
use Rattle.hys_tree.specs.declared.answer.Claim.TheVariants.{Least, NoneExists, AtLeast}
use Rattle.hys_tree.specs.declared.answer.Why.{Why}
use Rattle.hys_tree.specs.declared.answer.Why.TheVariants.{Spent, Range}
use Rattle.hys_tree.specs.declared.tree.Tree.{Tree}
use Rattle.hys_tree.specs.declared.tree.TreePlace.{TreePlace}
use Rattle.hys_tree.specs.declared.tree.TreePlace.TheVariants.{Inner, Cost, Never}
use Rattle.hys_answer.specs.declared.lists.EachNumber.{EachNumber}
use Rattle.hys_answer.specs.declared.lists.EachCell.{EachCell}
use Rattle.hys_answer.specs.declared.places.PairsBefore.{PairsBefore}
use Rattle.hys_answer.specs.declared.places.EachPlace.{EachPlace}

-- ---- the form of an object
abbrev pub has_all : List (List ℕ) → Data → Bool
has_all [] d = true
has_all (key ∷ keys) d = cond (has key d) (has_all keys d) false

-- an object whose keys are these: it has each of them, and as many as they are
unfoldable pub has_form : List (List ℕ) → Data → Bool
has_form keys d = is_object d && nat_eq (length (keys_in d)) (length keys) && has_all keys d

-- what stands under `kind` is this word
abbrev pub is_kind : List ℕ → Data → Bool
is_kind word d = is_word_by word (as_str (member_in (codes "kind") d))

-- an object, and whether its kind is one of those that there are
unfoldable pub kind_checks : Bool → Data → List Check
kind_checks known d = shape (is_object d) ∷ under (codes "kind") (shape known ∷ [])

-- ---- points and paths
abbrev pub number_asked : EachNumber → Data → List Check
number_asked b d = fraction_checks d

abbrev pub after_number : EachNumber → Data → EachNumber
after_number b d = b

abbrev pub point_in : Data → Point
point_in d = record { values = map fraction_in (items_in d) }

abbrev pub point_checks : Data → List Check
point_checks d = list_checks number_asked after_number (record {}) d

-- a row and a column
abbrev pub cell_in : Data → ℕ × ℕ
cell_in d = (whole_in (item_in 0 d), whole_in (item_in 1 d))

abbrev pub cell_checks : Data → List Check
cell_checks d =
    pair_checks d
    ++ (under first (whole_checks (item_in 0 d))
    ++ under second (whole_checks (item_in 1 d)))

abbrev pub cell_asked : EachCell → Data → List Check
cell_asked b d = cell_checks d

abbrev pub after_cell : EachCell → Data → EachCell
after_cell b d = b

abbrev pub path_in : Data → List (ℕ × ℕ)
path_in d = map cell_in (items_in d)

abbrev pub path_checks : Data → List Check
path_checks d = list_checks cell_asked after_cell (record {}) d

-- ---- multipliers: a row and its multiplier, rows rising
abbrev pub pair_in : Data → ℕ × Number
pair_in d = (whole_in (item_in 0 d), fraction_in (item_in 1 d))

-- the row is at least what those before leave
abbrev pub pair_asked : PairsBefore → Data → List Check
pair_asked b d =
    pair_checks d
    ++ (under first (whole_checks (item_in 0 d))
    ++ (under second (fraction_checks (item_in 1 d))
    ++ shape (nat_le b.least (whole_in (item_in 0 d))) ∷ []))

abbrev pub after_pair : PairsBefore → Data → PairsBefore
after_pair b d = record { least = whole_in (item_in 0 d) + 1 }

-- a multiplier 0 counts for nothing
abbrev pub is_counted : ℕ × Number → Bool
is_counted p = not (is_zero p.1)

abbrev pub multipliers_in : Data → Multipliers
multipliers_in d = record { pairs = filter is_counted (map pair_in (items_in d)) }

abbrev pub multipliers_checks : Data → List Check
multipliers_checks d = list_checks pair_asked after_pair (record { least = 0 }) d

-- ---- places of the tree, of which the keys choose the form
abbrev pub inner_keys : List (List ℕ)
inner_keys = codes "column" ∷ []

abbrev pub cost_keys : List (List ℕ)
cost_keys = codes "cost" ∷ codes "depth" ∷ []

abbrev pub never_keys : List (List ℕ)
never_keys = codes "depth" ∷ codes "never" ∷ []

abbrev pub depth_in : Data → ℕ
depth_in d = whole_in (member_in (codes "depth") d)

abbrev pub inner_in : Data → TreePlace
inner_in d = Inner (whole_in (member_in (codes "column") d))

abbrev pub cost_in : Data → TreePlace
cost_in d = Cost (multipliers_in (member_in (codes "cost") d)) (depth_in d)

abbrev pub never_in : Data → TreePlace
never_in d = Never (multipliers_in (member_in (codes "never") d)) (depth_in d)

abbrev pub place_in : Data → TreePlace
place_in d = cond (has_form inner_keys d) (inner_in d) (cond (has_form cost_keys d) (cost_in d) (never_in d))

unfoldable pub inner_checks : Data → List Check
inner_checks d = under (codes "column") (whole_checks (member_in (codes "column") d))

unfoldable pub cost_checks : Data → List Check
cost_checks d =
    under (codes "cost") (multipliers_checks (member_in (codes "cost") d))
    ++ under (codes "depth") (whole_checks (member_in (codes "depth") d))

unfoldable pub never_checks : Data → List Check
never_checks d =
    under (codes "depth") (whole_checks (member_in (codes "depth") d))
    ++ under (codes "never") (multipliers_checks (member_in (codes "never") d))

unfoldable pub place_checks : Data → List Check
place_checks d =
    cond (has_form inner_keys d) (inner_checks d)
    (cond (has_form cost_keys d) (cost_checks d)
    (cond (has_form never_keys d) (never_checks d) (shape false ∷ [])))

abbrev pub place_asked : EachPlace → Data → List Check
place_asked b d = place_checks d

abbrev pub after_place : EachPlace → Data → EachPlace
after_place b d = b

abbrev pub tree_in : Data → Tree
tree_in d = record { places = map place_in (items_in d) }

abbrev pub tree_checks : Data → List Check
tree_checks d = list_checks place_asked after_place (record {}) d

-- ---- the place of a number in a table
abbrev pub cell_keys : List (List ℕ)
cell_keys = codes "cell" ∷ []

abbrev pub value_keys : List (List ℕ)
value_keys = codes "value" ∷ []

abbrev pub table_cell : ℕ × ℕ → TablePlace
table_cell p = Cell p.0 p.1

abbrev pub table_cell_in : Data → TablePlace
table_cell_in d = table_cell (cell_in (member_in (codes "cell") d))

abbrev pub table_value_in : Data → TablePlace
table_value_in d = Value (whole_in (member_in (codes "value") d))

abbrev pub at_in : Data → TablePlace
at_in d = cond (has_form cell_keys d) (table_cell_in d) (cond (has_form value_keys d) (table_value_in d) Sum)

unfoldable pub table_cell_checks : Data → List Check
table_cell_checks d = under (codes "cell") (cell_checks (member_in (codes "cell") d))

unfoldable pub table_value_checks : Data → List Check
table_value_checks d = under (codes "value") (whole_checks (member_in (codes "value") d))

unfoldable pub at_checks : Data → List Check
at_checks d =
    cond (has_form cell_keys d) (table_cell_checks d)
    (cond (has_form value_keys d) (table_value_checks d)
    (word_checks (codes "sum") d))

-- ---- why a search ended
abbrev pub spent_in : Data → Why
spent_in d = Spent (whole_in (member_in (codes "nodes") d))

abbrev pub range_at : Data → RangeAt
range_at d = record { path = path_in (member_in (codes "path") d); at = at_in (member_in (codes "at") d) }

abbrev pub range_in : Data → Why
range_in d = Range (whole_in (member_in (codes "node") d)) (range_at d)

abbrev pub why_in : Data → Why
why_in d = cond (is_kind (codes "spent") d) (spent_in d) (range_in d)

abbrev pub spent_keys : List (List ℕ)
spent_keys = codes "kind" ∷ codes "nodes" ∷ []

unfoldable pub spent_checks : Data → List Check
spent_checks d = closed_checks spent_keys d ++ under (codes "nodes") (whole_checks (member_in (codes "nodes") d))

abbrev pub range_keys : List (List ℕ)
range_keys = codes "at" ∷ codes "kind" ∷ codes "node" ∷ codes "path" ∷ []

unfoldable pub range_checks : Data → List Check
range_checks d =
    closed_checks range_keys d
    ++ (under (codes "at") (at_checks (member_in (codes "at") d))
    ++ (under (codes "node") (whole_checks (member_in (codes "node") d))
    ++ under (codes "path") (path_checks (member_in (codes "path") d))))

-- the kind is judged before the other keys, and chooses them
unfoldable pub why_parts : Data → List Check
why_parts d = cond (is_kind (codes "spent") d) (spent_checks d) (range_checks d)

abbrev pub is_why : Data → Bool
is_why d = is_kind (codes "spent") d || is_kind (codes "range") d

unfoldable pub why_checks : Data → List Check
why_checks d = kind_checks (is_why d) d ++ why_parts d

-- ---- the claim
abbrev pub best_keys : List (List ℕ)
best_keys = codes "cost" ∷ codes "point" ∷ []

-- a solution and its cost, whatever else the object has
abbrev pub solution_in : Data → Best
solution_in d = record {
  point = point_in (member_in (codes "point") d);
  cost = fraction_in (member_in (codes "cost") d);
}

unfoldable pub solution_checks : List (List ℕ) → Data → List Check
solution_checks keys d =
    closed_checks keys d
    ++ (under (codes "cost") (fraction_checks (member_in (codes "cost") d))
    ++ under (codes "point") (point_checks (member_in (codes "point") d)))

-- a best, or null where there is none
abbrev pub is_null : Data → Bool
is_null d = is_some (as_null d)

abbrev pub best_in : Data → Option Best
best_in d = cond (is_null d) None (Some (solution_in d))

unfoldable pub best_checks : Data → List Check
best_checks d = cond (is_null d) [] (solution_checks best_keys d)

abbrev pub least_keys : List (List ℕ)
least_keys = codes "cost" ∷ codes "kind" ∷ codes "point" ∷ []

abbrev pub none_keys : List (List ℕ)
none_keys = codes "kind" ∷ []

abbrev pub bound_keys : List (List ℕ)
bound_keys = codes "best" ∷ codes "bound" ∷ codes "kind" ∷ codes "why" ∷ []

abbrev pub bound_in : Data → Claim
bound_in d =
    AtLeast (fraction_in (member_in (codes "bound") d)) (best_in (member_in (codes "best") d)) (why_in (member_in (codes "why") d))

unfoldable pub bound_checks : Data → List Check
bound_checks d =
    closed_checks bound_keys d
    ++ (under (codes "best") (best_checks (member_in (codes "best") d))
    ++ (under (codes "bound") (fraction_checks (member_in (codes "bound") d))
    ++ under (codes "why") (why_checks (member_in (codes "why") d))))

abbrev pub claim_in : Data → Claim
claim_in d =
    cond (is_kind (codes "least") d) (Least (solution_in d))
    (cond (is_kind (codes "none") d) NoneExists (bound_in d))

abbrev pub is_claim : Data → Bool
is_claim d = is_kind (codes "least") d || is_kind (codes "none") d || is_kind (codes "at_least") d

unfoldable pub claim_parts : Data → List Check
claim_parts d =
    cond (is_kind (codes "least") d) (solution_checks least_keys d)
    (cond (is_kind (codes "none") d) (closed_checks none_keys d) (bound_checks d))

unfoldable pub claim_checks : Data → List Check
claim_checks d = kind_checks (is_claim d) d ++ claim_parts d

-- ---- the whole
abbrev pub answer_keys : List (List ℕ)
answer_keys = codes "claim" ∷ codes "format" ∷ codes "tree" ∷ codes "version" ∷ []

abbrev pub version_checks : Data → List Check
version_checks d = shape (is_number_by 1 (whole_by d)) ∷ []

-- the claim of an answer
abbrev pub claim_of : Data → Claim
claim_of d = claim_in (member_in (codes "claim") d)

unfoldable pub front_checks : Data → List Check
front_checks d =
    closed_checks answer_keys d
    ++ (under (codes "claim") (claim_checks (member_in (codes "claim") d))
    ++ under (codes "format") (word_checks (codes "hysdel-answer") (member_in (codes "format") d)))

unfoldable pub back_checks : Data → List Check
back_checks d =
    under (codes "tree") (tree_checks (member_in (codes "tree") d))
    ++ under (codes "version") (version_checks (member_in (codes "version") d))

unfoldable pub answer_checks : Data → List Check
answer_checks d = front_checks d ++ back_checks d

-- the value has each key of an answer
abbrev pub HasAnswerKeys : Data → Type 0
HasAnswerKeys d = first_fault (closed_checks answer_keys d) ≡ None

-- the answer of a value, which doesn't say how many nodes were expanded
abbrev pub answer_in : Data → Answer
answer_in d = record {
  claim = claim_in (member_in (codes "claim") d);
  tree = tree_in (member_in (codes "tree") d);
  expanded = 0;
}

-- ---- the limit
abbrev pub most_places : ℕ
most_places = 1000001
