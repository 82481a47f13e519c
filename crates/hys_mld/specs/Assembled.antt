-- A system that is put together from the lines of a program's items.
use Rattle.std.specs.Prelude.{◌≡◌, ℕ, List, map}
use Rattle.hys_lin.specs.declared.form.Affine.{Affine}
use Rattle.hys_lin.specs.declared.form.Interval.{Interval}
use Rattle.hys_lin.specs.declared.form.Row.{Row}
use Rattle.hys_prog.specs.declared.program.Program.{Program}
use Rattle.hys_prog.specs.Steps.{places, is_state}
use Rattle.hys_sys.specs.declared.system.System.{System}
use Rattle.hys_exact.specs.Built.{form_for, is_output_name, output_with}
use Rattle.hys_exact.specs.Columns.{columns_of, of_each}
use Rattle.hys_mld.specs.declared.items.Lines.{Lines}

-- The system has the program's name and weight, these rows and labels, and so many fresh columns; next values and
-- outputs have the forms of the items that define them.
pub record IsAssembled (p : Program) (boxes : List Interval) (fresh : ℕ) (rows : List Row) (labels : List (List ℕ)) (forms : List Affine) (S : System) : Type 0 where
  pub name : S.name ≡ p.system
  pub columns : S.columns ≡ columns_of p boxes fresh
  pub rows_are : S.rows ≡ rows
  pub labels_are : S.labels ≡ labels
  pub next : S.next ≡ map (form_for p.items forms) (places is_state p)
  pub outputs : S.outputs ≡ of_each is_output_name (output_with p.items forms) 0 p.names
  pub weight : S.weight ≡ p.weight

-- from the code's lines
abbrev pub IsAssembledFrom : Program → List Interval → ℕ → Lines → System → Type 0
IsAssembledFrom p boxes fresh l S = IsAssembled p boxes fresh l.rows.items l.labels.items l.forms.items S
