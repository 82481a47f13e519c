-- What a matrix text says: what is looked for in its JSON value, in order, and the system that the value stands for.
use Rattle.std.specs.Prelude.{◌≡◌, ℕ, ◌+◌, ◌*◌, List, [], ◌∷◌, ◌++◌, Option, Some, None, Bool, true, false, not, ◌&&◌, ◌||◌, map, length, cond, codes, nat_eq, nat_lt, nat_le, Vec}
use Rattle.std.specs.declared.alloc.Global.{Global}
use Rattle.std.specs.Borrow.{Bor}
use Rattle.std.proofs.Common.{get_or}
use Rattle.std.specs.declared.cmp.Ordering.{Ordering}
use Rattle.std.specs.declared.cmp.Ordering.TheVariants.{Less, Equal, Greater}
use Rattle.serde_json.specs.Data.{Data, null}
use Rattle.serde_json.specs.View.{view}
use Rattle.serde_json.specs.declared.value.Value.{Value}
use Rattle.serde_json.specs.Find.{as_str}
use Rattle.hys_number.specs.Number.{Number}
use Rattle.hys_number.specs.Ops.{whole}
use Rattle.hys_frac.specs.Compare.{number_cmp}
use Rattle.hys_lin.specs.declared.form.Term.{Term}
use Rattle.hys_lin.specs.declared.form.Affine.{Affine}
use Rattle.hys_lin.specs.declared.form.Interval.{Interval}
use Rattle.hys_lin.specs.declared.form.Row.{Row}
use Rattle.hys_lin.specs.Over.{AreTermsOver}
use Rattle.hys_json.specs.Checks.{Check, shape, under, first_fault}
use Rattle.hys_json.specs.Values.{text_in, text_checks, word_checks, is_word_by, fraction_in, fraction_checks, whole_by, whole_in, whole_checks, items_in, is_list, list_checks, is_one_of, member_in, closed_checks}
use Rattle.hys_sys.specs.declared.system.ColumnRole.{ColumnRole}
use Rattle.hys_sys.specs.declared.system.ColumnRole.TheVariants.{State, Input, D, Z}
use Rattle.hys_sys.specs.declared.system.Kind2.{Kind2}
use Rattle.hys_sys.specs.declared.system.Kind2.TheVariants.{Real}
use Rattle.hys_sys.specs.declared.system.Kind2.TheVariants as kind
use Rattle.hys_sys.specs.declared.system.Column.{Column}
use Rattle.hys_sys.specs.declared.system.Output.{Output}
use Rattle.hys_sys.specs.declared.system.System.{System}
use Rattle.hys_sys.specs.System.{rank, states}
use Rattle.hys_file.specs.declared.system.Front.{Front}
use Rattle.hys_file.specs.declared.system.Back.{Back}
use Rattle.hys_file.specs.declared.form.TermsBefore.{TermsBefore}
use Rattle.hys_file.specs.declared.form.FormsBefore.{FormsBefore}
use Rattle.hys_file.specs.declared.column.ColumnsBefore.{ColumnsBefore}
use Rattle.hys_file.specs.declared.output.OutputsBefore.{OutputsBefore}
use Rattle.hys_file.specs.declared.row.RowsBefore.{RowsBefore}
use Rattle.hys_file.specs.declared.row.FirstRowsBefore.{FirstRowsBefore}

-- ---- pairs
abbrev pub item_in : ℕ → Data → Data
item_in n d = get_or (items_in d) n null

abbrev pub is_pair : Data → Bool
is_pair d = nat_eq (length (items_in d)) 2

unfoldable pub pair_checks : Data → List Check
pair_checks d = shape (is_list d && is_pair d) ∷ []

-- the values are those of the pair's items
abbrev pub ArePair : Data → Bor Value × Bor Value → Type 0
ArePair d p = (view p.0.now ≡ item_in 0 d) × (view p.1.now ≡ item_in 1 d)

abbrev pub first : List ℕ
first = codes "0"

abbrev pub second : List ℕ
second = codes "1"

-- ---- terms: a column and a factor
abbrev pub term_in : Data → Term
term_in d = record { column = whole_in (item_in 0 d); factor = fraction_in (item_in 1 d) }

abbrev pub is_equal : Ordering → Bool
is_equal Less = false
is_equal Equal = true
is_equal Greater = false

abbrev pub is_zero : Number → Bool
is_zero a = is_equal (number_cmp a (whole 0))

-- the column is below the number of columns, and at least what those before leave
abbrev pub term_checks : TermsBefore → Data → List Check
term_checks b d =
    pair_checks d
    ++ (under first (whole_checks (item_in 0 d))
    ++ (under second (fraction_checks (item_in 1 d))
    ++ (under first (shape (nat_le b.least (whole_in (item_in 0 d)) && nat_lt (whole_in (item_in 0 d)) b.columns) ∷ [])
    ++ under second (shape (not (is_zero (fraction_in (item_in 1 d)))) ∷ []))))

abbrev pub after_term : TermsBefore → Data → TermsBefore
after_term b d = record { columns = b.columns; least = whole_in (item_in 0 d) + 1 }

abbrev pub terms_in : Data → List Term
terms_in d = map term_in (items_in d)

abbrev pub terms_checks : ℕ → Data → List Check
terms_checks columns d = list_checks term_checks after_term (record { columns = columns; least = 0 }) d

-- ---- forms
abbrev pub form_keys : List (List ℕ)
form_keys = codes "constant" ∷ codes "terms" ∷ []

abbrev pub form_in : Data → Affine
form_in d = record { terms = terms_in (member_in (codes "terms") d); constant = fraction_in (member_in (codes "constant") d) }

abbrev pub form_checks : ℕ → Data → List Check
form_checks columns d =
    closed_checks form_keys d
    ++ (under (codes "constant") (fraction_checks (member_in (codes "constant") d))
    ++ under (codes "terms") (terms_checks columns (member_in (codes "terms") d)))

-- ---- boxes
abbrev pub box_in : Data → Interval
box_in d = record { low = fraction_in (item_in 0 d); high = fraction_in (item_in 1 d) }

abbrev pub isnt_greater : Ordering → Bool
isnt_greater Less = true
isnt_greater Equal = true
isnt_greater Greater = false

-- the low end isn't above the high end
abbrev pub box_checks : Data → List Check
box_checks d =
    pair_checks d
    ++ (under first (fraction_checks (item_in 0 d))
    ++ (under second (fraction_checks (item_in 1 d))
    ++ shape (isnt_greater (number_cmp (fraction_in (item_in 0 d)) (fraction_in (item_in 1 d)))) ∷ []))

-- ---- kinds and roles
abbrev pub has_word : List ℕ → Data → Bool
has_word word d = is_word_by word (as_str d)

abbrev pub kind_in : Data → Kind2
kind_in d = cond (has_word (codes "bool") d) kind.Bool Real

abbrev pub kind_checks : Data → List Check
kind_checks d = shape (has_word (codes "real") d || has_word (codes "bool") d) ∷ []

abbrev pub role_in : Data → ColumnRole
role_in d = cond (has_word (codes "state") d) State (cond (has_word (codes "input") d) Input (cond (has_word (codes "d") d) D Z))

abbrev pub role_checks : Data → List Check
role_checks d = shape (has_word (codes "state") d || (has_word (codes "input") d || (has_word (codes "d") d || has_word (codes "z") d))) ∷ []

-- ---- columns
abbrev pub column_keys : List (List ℕ)
column_keys = codes "box" ∷ codes "kind" ∷ codes "name" ∷ codes "role" ∷ []

abbrev pub name_in : Data → List ℕ
name_in d = text_in (member_in (codes "name") d)

abbrev pub column_in : Data → Column
column_in d = record {
  name = name_in d;
  role = role_in (member_in (codes "role") d);
  kind = kind_in (member_in (codes "kind") d);
  bounds = box_in (member_in (codes "box") d);
}

-- the names of the columns before, and the least place that the role of the next one may have
abbrev pub after_column : ColumnsBefore → Data → ColumnsBefore
after_column b d = record { names = b.names ++ name_in d ∷ []; rank = rank (role_in (member_in (codes "role") d)) }

-- a Boolean box is 0 to 1
abbrev pub is_kinds_box : Kind2 → Interval → Bool
is_kinds_box Real i = true
is_kinds_box kind.Bool i = is_equal (number_cmp i.low (whole 0)) && is_equal (number_cmp i.high (whole 1))

-- its parts by themselves
unfoldable pub column_parts : Data → List Check
column_parts d =
    closed_checks column_keys d
    ++ (under (codes "box") (box_checks (member_in (codes "box") d))
    ++ (under (codes "kind") (kind_checks (member_in (codes "kind") d))
    ++ (under (codes "name") (text_checks (member_in (codes "name") d))
    ++ under (codes "role") (role_checks (member_in (codes "role") d)))))

-- and then the box of its kind, the name that no column before has, and the place of its role
unfoldable pub column_rules : ColumnsBefore → Column → List Check
column_rules b c =
    under (codes "box") (shape (is_kinds_box c.kind c.bounds) ∷ [])
    ++ (under (codes "name") (shape (not (is_one_of b.names c.name)) ∷ [])
    ++ under (codes "role") (shape (nat_le b.rank (rank c.role)) ∷ []))

abbrev pub column_checks : ColumnsBefore → Data → List Check
column_checks b d = column_parts d ++ column_rules b (column_in d)

abbrev pub columns_in : Data → List Column
columns_in d = map column_in (items_in d)

abbrev pub columns_checks : Data → List Check
columns_checks d = list_checks column_checks after_column (record { names = []; rank = 0 }) d

-- ---- next values: one for each state
abbrev pub form_asked : FormsBefore → Data → List Check
form_asked b d = form_checks b.columns d

abbrev pub after_form : FormsBefore → Data → FormsBefore
after_form b d = b

abbrev pub next_in : Data → List Affine
next_in d = map form_in (items_in d)

abbrev pub next_checks : List Column → Data → List Check
next_checks columns d =
    list_checks form_asked after_form (record { columns = length columns }) d
    ++ shape (nat_eq (length (next_in d)) (states columns)) ∷ []

-- ---- outputs
abbrev pub output_keys : List (List ℕ)
output_keys = codes "constant" ∷ codes "kind" ∷ codes "name" ∷ codes "terms" ∷ []

abbrev pub output_in : Data → Output
output_in d = record { name = name_in d; kind = kind_in (member_in (codes "kind") d); form = form_in d }

abbrev pub after_output : OutputsBefore → Data → OutputsBefore
after_output b d = record { columns = b.columns; names = b.names ++ name_in d ∷ [] }

unfoldable pub output_parts : ℕ → Data → List Check
output_parts columns d =
    closed_checks output_keys d
    ++ (under (codes "constant") (fraction_checks (member_in (codes "constant") d))
    ++ (under (codes "kind") (kind_checks (member_in (codes "kind") d))
    ++ (under (codes "name") (text_checks (member_in (codes "name") d))
    ++ under (codes "terms") (terms_checks columns (member_in (codes "terms") d)))))

-- no column and no output before has the name
abbrev pub output_checks : OutputsBefore → Data → List Check
output_checks b d = output_parts b.columns d ++ under (codes "name") (shape (not (is_one_of b.names (name_in d))) ∷ [])

abbrev pub column_name : Column → List ℕ
column_name c = c.name

abbrev pub output_name : Output → List ℕ
output_name o = o.name

abbrev pub outputs_in : Data → List Output
outputs_in d = map output_in (items_in d)

abbrev pub outputs_checks : List Column → Data → List Check
outputs_checks columns d =
    list_checks output_checks after_output (record { columns = length columns; names = map column_name columns }) d

-- ---- rows: those of version 1 have no item, and their labels are empty
abbrev pub row_in : Data → Row
row_in d = record {
  terms = terms_in (member_in (codes "terms") d);
  bound = fraction_in (member_in (codes "bound") d);
  eq = false;
}

abbrev pub first_row_keys : List (List ℕ)
first_row_keys = codes "bound" ∷ codes "terms" ∷ []

abbrev pub row_keys : List (List ℕ)
row_keys = codes "bound" ∷ codes "item" ∷ codes "terms" ∷ []

abbrev pub first_row_checks : FirstRowsBefore → Data → List Check
first_row_checks b d =
    closed_checks first_row_keys d
    ++ (under (codes "bound") (fraction_checks (member_in (codes "bound") d))
    ++ under (codes "terms") (terms_checks b.columns (member_in (codes "terms") d)))

abbrev pub row_checks : RowsBefore → Data → List Check
row_checks b d =
    closed_checks row_keys d
    ++ (under (codes "bound") (fraction_checks (member_in (codes "bound") d))
    ++ (under (codes "item") (text_checks (member_in (codes "item") d))
    ++ under (codes "terms") (terms_checks b.columns (member_in (codes "terms") d))))

abbrev pub after_first_row : FirstRowsBefore → Data → FirstRowsBefore
after_first_row b d = b

abbrev pub after_row : RowsBefore → Data → RowsBefore
after_row b d = b

abbrev pub label_in : Data → List ℕ
label_in d = text_in (member_in (codes "item") d)

abbrev pub first_labelled : Data → Row × List ℕ
first_labelled d = (row_in d, [])

abbrev pub labelled : Data → Row × List ℕ
labelled d = (row_in d, label_in d)

abbrev pub rows_by : Bool → Data → List (Row × List ℕ)
rows_by true d = map first_labelled (items_in d)
rows_by false d = map labelled (items_in d)

abbrev pub rows_checks : Bool → ℕ → Data → List Check
rows_checks true columns d = list_checks first_row_checks after_first_row (record { columns = columns }) d
rows_checks false columns d = list_checks row_checks after_row (record { columns = columns }) d

-- the rows with their labels as they stand for what is read
abbrev pub AreRowsBy : Bool → Data → Vec (Row × List ℕ) Global → Type 0
AreRowsBy is_first d rs = rs.items ≡ rows_by is_first d

abbrev pub row_of : Row × List ℕ → Row
row_of p = p.0

abbrev pub label_of : Row × List ℕ → List ℕ
label_of p = p.1

-- ---- the whole text
abbrev pub matrix_keys : List (List ℕ)
matrix_keys =
    codes "columns" ∷ codes "format" ∷ codes "next" ∷ codes "outputs" ∷ codes "rows" ∷ codes "system"
    ∷ codes "version" ∷ codes "weight" ∷ []

-- rows are judged by version 1 where the version is the whole number 1, else by version 2
abbrev pub is_number_by : ℕ → Option ℕ → Bool
is_number_by n None = false
is_number_by n (Some m) = nat_eq m n

abbrev pub is_first_version : Data → Bool
is_first_version d = is_number_by 1 (whole_by (member_in (codes "version") d))

abbrev pub version_checks : Data → List Check
version_checks d = shape (is_number_by 1 (whole_by d) || is_number_by 2 (whole_by d)) ∷ []

abbrev pub columns_of : Data → List Column
columns_of d = columns_in (member_in (codes "columns") d)

unfoldable pub forms_checks : Data → List Check
forms_checks d =
    under (codes "next") (next_checks (columns_of d) (member_in (codes "next") d))
    ++ under (codes "outputs") (outputs_checks (columns_of d) (member_in (codes "outputs") d))

unfoldable pub front_checks : Data → List Check
front_checks d =
    closed_checks matrix_keys d
    ++ (under (codes "columns") (columns_checks (member_in (codes "columns") d))
    ++ (under (codes "format") (word_checks (codes "hysdel-mld") (member_in (codes "format") d))
    ++ forms_checks d))

unfoldable pub back_checks : Data → List Check
back_checks d =
    under (codes "rows") (rows_checks (is_first_version d) (length (columns_of d)) (member_in (codes "rows") d))
    ++ (under (codes "system") (text_checks (member_in (codes "system") d))
    ++ (under (codes "version") (version_checks (member_in (codes "version") d))
    ++ under (codes "weight") (whole_checks (member_in (codes "weight") d))))

abbrev pub matrix_checks : Data → List Check
matrix_checks d = front_checks d ++ back_checks d

-- the system of a value; rows of version 1 have empty labels
abbrev pub system_in : Data → System
system_in d = record {
  name = text_in (member_in (codes "system") d);
  columns = columns_of d;
  next = next_in (member_in (codes "next") d);
  outputs = outputs_in (member_in (codes "outputs") d);
  rows = map row_of (rows_by (is_first_version d) (member_in (codes "rows") d));
  labels = map label_of (rows_by (is_first_version d) (member_in (codes "rows") d));
  weight = whole_in (member_in (codes "weight") d);
}

-- ---- limits
abbrev pub most_weight : ℕ
most_weight = 5000

-- the limit that a system passes, by the order in which they are looked for
abbrev pub limit_of : System → Option (List ℕ)
limit_of s =
    cond (nat_lt most_weight s.weight) (Some (codes "weight"))
    (cond (nat_lt s.weight (length s.columns)) (Some (codes "columns"))
    (cond (nat_lt (5 * s.weight) (length s.rows)) (Some (codes "rows")) None))

-- ---- what single functions read
-- the parts before the rows are those of the value
pub record IsFront (d : Data) (f : Front) : Type 0 where
  pub columns : f.columns ≡ columns_of d
  pub next : f.next ≡ next_in (member_in (codes "next") d)
  pub outputs : f.outputs ≡ outputs_in (member_in (codes "outputs") d)

-- the forms of next values, and the outputs
abbrev pub AreForms : Data → List Affine × List Output → Type 0
AreForms d p = (p.0 ≡ next_in (member_in (codes "next") d)) × (p.1 ≡ outputs_in (member_in (codes "outputs") d))

-- and the parts from them on
pub record IsBack (d : Data) (b : Back) : Type 0 where
  pub rows : b.rows ≡ map row_of (rows_by (is_first_version d) (member_in (codes "rows") d))
  pub labels : b.labels ≡ map label_of (rows_by (is_first_version d) (member_in (codes "rows") d))
  pub name : b.name ≡ text_in (member_in (codes "system") d)
  pub weight : b.weight ≡ whole_in (member_in (codes "weight") d)

-- the value has each key of a matrix text
abbrev pub HasMatrixKeys : Data → Type 0
HasMatrixKeys d = first_fault (closed_checks matrix_keys d) ≡ None

-- ---- forms over so many columns
abbrev pub IsOutputOver : ℕ → Output → Type 0
IsOutputOver columns o = AreTermsOver columns o.form.terms

-- an inequality
abbrev pub IsRowOver : ℕ → Row → Type 0
IsRowOver columns r = (r.eq ≡ false) × AreTermsOver columns r.terms
