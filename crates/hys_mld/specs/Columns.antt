-- The columns of a system, sort by sort.
use Rattle.std.specs.Prelude.{ℕ, List, Bool}
use Rattle.hys_lin.specs.declared.form.Interval.{Interval}
use Rattle.hys_prog.specs.declared.program.Name.{Name}
use Rattle.hys_sys.specs.declared.system.ColumnRole.TheVariants.{State as StateRole, Input as InputRole}
use Rattle.hys_sys.specs.declared.system.Kind2.TheVariants as kind
use Rattle.hys_sys.specs.declared.system.Column.{Column}
use Rattle.hys_sys.specs.Exact.{fresh_name}
use Rattle.hys_exact.specs.Columns.{fresh_column, is_state_name, is_input_name, is_boolean_auxiliary, is_real_auxiliary, given_column, bool_column, real_column, of_each}
use Rattle.hys_mld.specs.declared.columns.Sort.{Sort}
use Rattle.hys_mld.specs.declared.columns.Sort.TheVariants.{State, Input, Boolean, Real}

-- whether a name is of the sort
abbrev pub is_of : Sort → Name → Bool
is_of State = is_state_name
is_of Input = is_input_name
is_of Boolean = is_boolean_auxiliary
is_of Real = is_real_auxiliary

-- the column of a name of the sort
abbrev pub sort_column : Sort → List Interval → ℕ → Name → Column
sort_column State boxes = given_column StateRole
sort_column Input boxes = given_column InputRole
sort_column Boolean boxes = bool_column
sort_column Real boxes = real_column boxes

-- the columns of the names of the sort, in order of declaration
abbrev pub sort_columns : Sort → List Interval → List Name → List Column
sort_columns sort boxes names = of_each (is_of sort) (sort_column sort boxes) 0 names

-- the fresh column with the number
abbrev pub fresh_with : ℕ → Column
fresh_with k = fresh_column (record { name = fresh_name k; kind = kind.Bool })
