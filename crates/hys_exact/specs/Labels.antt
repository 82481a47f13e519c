-- The labels of a system's rows: each says which item the row comes from.
use Rattle.std.specs.Prelude.{ℕ, List, [], ◌∷◌, ◌++◌, codes, Option, Some, None, map}
use Rattle.std.specs.Fmt.{decimal}
use Rattle.std.proofs.Common.{get_or}
use Rattle.hys_lin.specs.declared.form.Row.{Row}
use Rattle.hys_ast.specs.declared.place.Place.{Place}
use Rattle.hys_prog.specs.declared.program.Name.{Name}
use Rattle.hys_prog.specs.declared.program.ProgItem.{ProgItem}
use Rattle.hys_exact.specs.Parts.{Part}

abbrev pub text_of : Name → List ℕ
text_of x = x.text

-- a demand has no name: `must`, and where it stands
abbrev pub demand_label : Place → List ℕ
demand_label p = codes "must " ++ (decimal p.line ++ (codes ":" ++ decimal p.col))

abbrev pub label_by : List Name → Place → Option ℕ → List ℕ
label_by names p (Some n) = get_or (map text_of names) n []
label_by names p None = demand_label p

abbrev pub label_of : List Name → ProgItem → List ℕ
label_of names t = label_by names t.place t.name

-- each row of an item's part has the item's label
abbrev pub labels_of : List Name → List ProgItem → List Part → List (List ℕ)
labels_of names [] qs = []
labels_of names (t ∷ ts) [] = []
labels_of names (t ∷ ts) (q ∷ qs) = map (λ (r : Row). label_of names t) q.rows ++ labels_of names ts qs
