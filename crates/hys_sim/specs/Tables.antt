-- Tables of START and INPUTS: their records, what is looked for in them, and the numbers that they stand for.
use Rattle.std.specs.Prelude.{ℕ, suc, ◌*◌, List, [], ◌∷◌, ◌++◌, Option, Some, None, is_some, unwrap_or, Bool, false, not, ◌&&◌, cond, map, filter, drop, get_or, length, codes, nat_eq, nat_le}
use Rattle.std.specs.List.{list_any, position_or_len}
use Rattle.std.specs.Str.{bytes_eq, is_utf8}
use Rattle.csv.specs.Reading.{records, default_config, strip_bom}
use Rattle.hys_number.specs.Number.{Number}
use Rattle.hys_number.specs.Ops.{whole}
use Rattle.hys_ast.specs.declared.source.Kind.{Kind}
use Rattle.hys_ast.specs.declared.source.Kind.TheVariants.{Real}
use Rattle.hys_prog.specs.declared.program.Role.{Role}
use Rattle.hys_prog.specs.declared.program.Name.{Name}
use Rattle.hys_prog.specs.declared.program.Program.{Program}
use Rattle.hys_prog.specs.Steps.{is_state, is_input, is_parameter}
use Rattle.hys_sim.specs.declared.fault.Which.{Which}
use Rattle.hys_sim.specs.declared.fault.Which.TheVariants.{Start, Inputs}
use Rattle.hys_sim.specs.declared.fault.SimFault.{SimFault}
use Rattle.hys_sim.specs.declared.fault.SimFault.TheVariants.{Csv, Rows, Column, Value, Limit}
use Rattle.hys_sim.specs.Checks.{Check, check, first_fault}
use Rattle.hys_sim.specs.Fields.{stripped, field_reading, field_number, says, suits}

-- the records of a table, each a list of fields: those that `csv` reads by default, with no header row of its own and
-- of whatever lengths
abbrev pub table_records : List ℕ → List (List (List ℕ))
table_records text = records default_config (strip_bom text)

-- ---- names
-- the names with a role of the part, in order of declaration
abbrev pub names_of : (Role → Bool) → Program → List Name
names_of part p = filter (λ k. part k.role) p.names

-- the number of names that aren't parameters
abbrev pub variables : Program → ℕ
variables p = length (filter (λ k. not (is_parameter k.role)) p.names)

-- the kind of the first of the names that has the text
abbrev pub kind_under : List Name → List ℕ → Option Kind
kind_under [] text = None
kind_under (k ∷ ks) text = cond (bytes_eq k.text text) (Some k.kind) (kind_under ks text)

abbrev pub kind_of : List Name → List ℕ → Kind
kind_of names text = unwrap_or (kind_under names text) Real

-- the kinds of columns
abbrev pub kinds_under : List Name → List (List ℕ) → List Kind
kinds_under names columns = map (kind_of names) columns

abbrev pub is_among : List ℕ → List (List ℕ) → Bool
is_among text texts = list_any (bytes_eq text) texts

-- ---- the checks of the header
-- a field is text
abbrev pub text_check : Which → List ℕ → Check
text_check w f = check (is_utf8 f) (Csv w 0)

-- each field is
abbrev pub text_checks : Which → List (List ℕ) → List Check
text_checks w [] = []
text_checks w (f ∷ fs) = text_check w f ∷ text_checks w fs

-- each record, from the one with this number on, has as many fields as the header
abbrev pub length_checks : Which → ℕ → ℕ → List (List (List ℕ)) → List Check
length_checks w n r [] = []
length_checks w n r (fs ∷ rows) = check (nat_eq (length fs) n) (Csv w r) ∷ length_checks w n (suc r) rows

-- a field is one of the names, and none of those seen before it
abbrev pub column_check : Which → List Name → List (List ℕ) → List ℕ → Check
column_check w names seen f = check (is_some (kind_under names f) && not (is_among f seen)) (Column w f)

-- each field after the first is one of the names, and none of those seen between it and the first
abbrev pub column_checks : Which → List Name → List (List ℕ) → List (List ℕ) → List Check
column_checks w names seen [] = []
column_checks w names seen (f ∷ fs) = column_check w names seen f ∷ column_checks w names (seen ++ (f ∷ [])) fs

-- each name is one of the fields
abbrev pub missing_checks : Which → List Name → List (List ℕ) → List Check
missing_checks w [] fs = []
missing_checks w (k ∷ ks) fs = check (is_among k.text fs) (Column w k.text) ∷ missing_checks w ks fs

-- the first field is `step`, and those after it are the names, each once
abbrev pub header_checks : Which → List Name → List (List ℕ) → List Check
header_checks w names [] = check false (Csv w 0) ∷ []
header_checks w names (f ∷ fs) =
    check (bytes_eq f (codes "step")) (Column w f) ∷ (column_checks w names [] fs ++ missing_checks w names fs)

-- ---- the checks of the records after the header
-- from the place on, each field of the record is a number that fits, and 0 or 1 under a Boolean name
abbrev pub kind_checks : Which → ℕ → List (List ℕ) → ℕ → List Kind → List Check
kind_checks w r fs c [] = []
kind_checks w r fs c (k ∷ ks) =
    check (suits k (field_reading (get_or fs c []))) (Value w r (suc c)) ∷ kind_checks w r fs (suc c) ks

-- the record of step n says so, and then its numbers
abbrev pub record_checks : Which → List Kind → ℕ → List (List ℕ) → List Check
record_checks w ks n fs =
    check (says (whole n) (field_reading (get_or fs 0 []))) (Value w (suc n) 1) ∷ kind_checks w (suc n) fs 1 ks

-- the records from step n on
abbrev pub records_checks : Which → List Kind → ℕ → List (List (List ℕ)) → List Check
records_checks w ks n [] = []
records_checks w ks n (fs ∷ rows) = record_checks w ks n fs ++ records_checks w ks (suc n) rows

-- ---- the checks of a table
-- the header's fields, stripped
abbrev pub header_of : List (List (List ℕ)) → List (List ℕ)
header_of rows = map stripped (get_or rows 0 [])

-- those after the first
abbrev pub columns_of : List (List (List ℕ)) → List (List ℕ)
columns_of rows = drop 1 (header_of rows)

-- the records after the header
abbrev pub data_of : List (List (List ℕ)) → List (List (List ℕ))
data_of rows = drop 1 rows

-- there is a header of text, each record is as long as it, and it has the columns
abbrev pub head_checks : Which → List Name → List (List (List ℕ)) → List Check
head_checks w names [] = check false (Csv w 0) ∷ []
head_checks w names (h ∷ rows) =
    text_checks w (map stripped h) ++ (length_checks w (length h) 1 rows ++ header_checks w names (map stripped h))

-- The checks of a table with columns for these names, where the number of records is judged by its own.
abbrev pub table_checks_of : Which → List Name → (ℕ → List Check) → List (List (List ℕ)) → List Check
table_checks_of w names counts rows =
    head_checks w names rows ++
    (counts (length (data_of rows)) ++ records_checks w (kinds_under names (columns_of rows)) 0 (data_of rows))

-- START has one record
abbrev pub start_counts : ℕ → List Check
start_counts n = check (nat_le 1 n) (Rows Start 1) ∷ check (nat_le n 1) (Rows Start 2) ∷ []

-- the records of INPUTS times the names that aren't parameters are at most a million
abbrev pub inputs_counts : Program → ℕ → List Check
inputs_counts p n = check (nat_le (n * variables p) 1000000) Limit ∷ []

abbrev pub start_checks : Program → List ℕ → List Check
start_checks p text = table_checks_of Start (names_of is_state p) start_counts (table_records text)

abbrev pub inputs_checks : Program → List ℕ → List Check
inputs_checks p text = table_checks_of Inputs (names_of is_input p) (inputs_counts p) (table_records text)

-- START is judged whole before INPUTS
abbrev pub table_checks : Program → List ℕ → List ℕ → List Check
table_checks p start inputs = start_checks p start ++ inputs_checks p inputs

-- the fault of the two, if they have one
abbrev pub table_fault : Program → List ℕ → List ℕ → Option SimFault
table_fault p start inputs = first_fault (table_checks p start inputs)

-- ---- what a table stands for
-- the place of the column of a name, where the columns follow the field of the step
abbrev pub column_place : List (List ℕ) → List ℕ → ℕ
column_place columns text = suc (position_or_len (bytes_eq text) columns)

-- the numbers of a record at the places
abbrev pub values_at : List ℕ → List (List ℕ) → List Number
values_at places fs = map (λ n. field_number (get_or fs n [])) places

-- the places of the columns of the names, in order of declaration
abbrev pub places_under : List Name → List (List ℕ) → List ℕ
places_under names columns = map (λ k. column_place columns k.text) names

-- the numbers under the names of each record after the header
abbrev pub table_values : List Name → List (List (List ℕ)) → List (List Number)
table_values names rows = map (values_at (places_under names (columns_of rows))) (data_of rows)

-- ---- what the text of a table stands for
-- the fields of its header after the first
abbrev pub table_columns : List ℕ → List (List ℕ)
table_columns text = columns_of (table_records text)

-- its records after the header
abbrev pub table_data : List ℕ → List (List (List ℕ))
table_data text = data_of (table_records text)

-- the numbers of each of these at the places
abbrev pub data_at : List ℕ → List ℕ → List (List Number)
data_at places text = map (values_at places) (table_data text)

-- the places of the columns of the names with a role of the part
abbrev pub role_places : (Role → Bool) → Program → List ℕ → List ℕ
role_places part p text = places_under (names_of part p) (table_columns text)

-- the numbers of each record under these names
abbrev pub role_values : (Role → Bool) → Program → List ℕ → List (List Number)
role_values part p text = table_values (names_of part p) (table_records text)
