-- The JSON value and the text of a system. Members stand in the byte order of their keys.
use Rattle.std.specs.Prelude.{ℕ, List, [], ◌∷◌, ◌++◌, map, nat_lt, codes}
use Rattle.serde_json.specs.Data.{Data, string, array, object, number, unsigned, no_items, item, no_members, member}
use Rattle.serde_json.specs.Written.{comma_if, compact_text}
use Rattle.serde_json.specs.View.{items_of}
use Rattle.hys_json.specs.Shown.{fraction_data, pair_data}
use Rattle.hys_lin.specs.declared.form.Term.{Term}
use Rattle.hys_lin.specs.declared.form.Affine.{Affine}
use Rattle.hys_lin.specs.declared.form.Row.{Row}
use Rattle.hys_sys.specs.declared.system.ColumnRole.{ColumnRole}
use Rattle.hys_sys.specs.declared.system.ColumnRole.TheVariants.{State, Input, D, Z}
use Rattle.hys_sys.specs.declared.system.Kind2.{Kind2}
use Rattle.hys_sys.specs.declared.system.Kind2.TheVariants.{Real, Bool}
use Rattle.hys_sys.specs.declared.system.Column.{Column}
use Rattle.hys_sys.specs.declared.system.Output.{Output}
use Rattle.hys_sys.specs.declared.system.System.{System}

abbrev pub kind_word : Kind2 → List ℕ
kind_word Real = codes "real"
kind_word Bool = codes "bool"

abbrev pub role_word : ColumnRole → List ℕ
role_word State = codes "state"
role_word Input = codes "input"
role_word D = codes "d"
role_word Z = codes "z"

abbrev pub column_data : Column → Data
column_data c = object
    (member (codes "box") (array (item (fraction_data c.bounds.low) (item (fraction_data c.bounds.high) no_items)))
    (member (codes "kind") (string (kind_word c.kind))
    (member (codes "name") (string c.name)
    (member (codes "role") (string (role_word c.role)) no_members))))

-- a term is its column and its factor
abbrev pub term_data : Term → Data
term_data t = pair_data t.column t.factor

abbrev pub terms_data : List Term → Data
terms_data ts = array (items_of (map term_data ts))

abbrev pub next_data : Affine → Data
next_data f = object
    (member (codes "constant") (fraction_data f.constant)
    (member (codes "terms") (terms_data f.terms) no_members))

abbrev pub output_data : Output → Data
output_data o = object
    (member (codes "constant") (fraction_data o.form.constant)
    (member (codes "kind") (string (kind_word o.kind))
    (member (codes "name") (string o.name)
    (member (codes "terms") (terms_data o.form.terms) no_members))))

-- a row, with the label of its item
abbrev pub row_data : List ℕ → Row → Data
row_data label r = object
    (member (codes "bound") (fraction_data r.bound)
    (member (codes "item") (string label)
    (member (codes "terms") (terms_data r.terms) no_members)))

-- the rows with their labels; a row without one has the empty text
abbrev pub rows_data : List (List ℕ) → List Row → List Data
rows_data labels [] = []
rows_data [] (r ∷ rs) = row_data [] r ∷ rows_data [] rs
rows_data (l ∷ ls) (r ∷ rs) = row_data l r ∷ rows_data ls rs

-- ---- texts of parts
-- of a row, behind the comma where it isn't the first
abbrev pub row_text : ℕ → List ℕ → Row → List ℕ
row_text at label r = comma_if (nat_lt 0 at) ++ compact_text (row_data label r)

-- of the list of rows
abbrev pub rows_text : List (List ℕ) → List Row → List ℕ
rows_text labels rs = compact_text (array (items_of (rows_data labels rs)))

abbrev pub matrix_data : System → Data
matrix_data s = object
    (member (codes "columns") (array (items_of (map column_data s.columns)))
    (member (codes "format") (string (codes "hysdel-mld"))
    (member (codes "next") (array (items_of (map next_data s.next)))
    (member (codes "outputs") (array (items_of (map output_data s.outputs)))
    (member (codes "rows") (array (items_of (rows_data s.labels s.rows)))
    (member (codes "system") (string s.name)
    (member (codes "version") (number (unsigned 2))
    (member (codes "weight") (number (unsigned s.weight)) no_members))))))))

-- one line of compact JSON
unfoldable pub matrix_text : System → List ℕ
matrix_text s = compact_text (matrix_data s) ++ 10 ∷ []
