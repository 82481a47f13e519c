-- The JSON value and the text of a claim with its tree. Members stand in the byte order of their keys.
use Rattle.std.specs.Prelude.{ℕ, List, [], ◌∷◌, ◌++◌, map, codes, Option, Some, None}
use Rattle.serde_json.specs.Data.{Data, null, string, array, object, number, unsigned, no_items, item, no_members, member}
use Rattle.serde_json.specs.Written.{compact_text}
use Rattle.serde_json.specs.View.{items_of}
use Rattle.hys_number.specs.Number.{Number}
use Rattle.hys_json.specs.Shown.{fraction_data, pair_data as pair}
use Rattle.hys_relax.specs.declared.range.TablePlace.{TablePlace}
use Rattle.hys_relax.specs.declared.range.TablePlace.TheVariants.{Cell, Value, Sum}
use Rattle.hys_tree.specs.declared.answer.Best.{Best}
use Rattle.hys_tree.specs.declared.answer.Claim.{Claim}
use Rattle.hys_tree.specs.declared.answer.Claim.TheVariants.{Least, NoneExists, AtLeast}
use Rattle.hys_tree.specs.declared.answer.Why.{Why}
use Rattle.hys_tree.specs.declared.answer.Why.TheVariants.{Spent, Range}
use Rattle.hys_tree.specs.declared.tree.TreePlace.{TreePlace}
use Rattle.hys_tree.specs.declared.tree.TreePlace.TheVariants.{Inner, Cost, Never}

abbrev pub whole_data : ℕ → Data
whole_data n = number (unsigned n)

abbrev pub list_data : List Data → Data
list_data ds = array (items_of ds)

-- ---- the tree
-- a row and its multiplier
abbrev pub pair_data : ℕ × Number → Data
pair_data p = pair p.0 p.1

abbrev pub pairs_data : List (ℕ × Number) → Data
pairs_data ps = list_data (map pair_data ps)

abbrev pub place_data : TreePlace → Data
place_data (Inner c) = object (member (codes "column") (whole_data c) no_members)
place_data (Cost m k) = object
    (member (codes "cost") (pairs_data m.pairs)
    (member (codes "depth") (whole_data k) no_members))
place_data (Never m k) = object
    (member (codes "depth") (whole_data k)
    (member (codes "never") (pairs_data m.pairs) no_members))

abbrev pub places_data : List TreePlace → Data
places_data places = list_data (map place_data places)

-- ---- the claim
abbrev pub point_data : List Number → Data
point_data v = list_data (map fraction_data v)

-- a best, null where there is none
abbrev pub best_data : Option Best → Data
best_data None = null
best_data (Some b) = object
    (member (codes "cost") (fraction_data b.cost)
    (member (codes "point") (point_data b.point.values) no_members))

-- a row and a column
abbrev pub cell_data : ℕ × ℕ → Data
cell_data c = array (item (whole_data c.0) (item (whole_data c.1) no_items))

abbrev pub path_data : List (ℕ × ℕ) → Data
path_data path = list_data (map cell_data path)

abbrev pub at_data : TablePlace → Data
at_data (Cell r c) = object (member (codes "cell") (cell_data (r, c)) no_members)
at_data (Value r) = object (member (codes "value") (whole_data r) no_members)
at_data Sum = string (codes "sum")

abbrev pub why_data : Why → Data
why_data (Spent n) = object
    (member (codes "kind") (string (codes "spent"))
    (member (codes "nodes") (whole_data n) no_members))
why_data (Range node at) = object
    (member (codes "at") (at_data at.at)
    (member (codes "kind") (string (codes "range"))
    (member (codes "node") (whole_data node)
    (member (codes "path") (path_data at.path) no_members))))

abbrev pub claim_data : Claim → Data
claim_data (Least b) = object
    (member (codes "cost") (fraction_data b.cost)
    (member (codes "kind") (string (codes "least"))
    (member (codes "point") (point_data b.point.values) no_members)))
claim_data NoneExists = object (member (codes "kind") (string (codes "none")) no_members)
claim_data (AtLeast bound best why) = object
    (member (codes "best") (best_data best)
    (member (codes "bound") (fraction_data bound)
    (member (codes "kind") (string (codes "at_least"))
    (member (codes "why") (why_data why) no_members))))

-- ---- the whole
abbrev pub answer_data : Claim → List TreePlace → Data
answer_data c places = object
    (member (codes "claim") (claim_data c)
    (member (codes "format") (string (codes "hysdel-answer"))
    (member (codes "tree") (places_data places)
    (member (codes "version") (whole_data 1) no_members))))

-- one line of compact JSON
unfoldable pub answer_text : Claim → List TreePlace → List ℕ
answer_text c places = compact_text (answer_data c places) ++ 10 ∷ []
