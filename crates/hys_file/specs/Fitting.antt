-- Systems whose numbers fit.
use Rattle.std.specs.Prelude.{IsTrue}
use Rattle.std.specs.List.{AllByRecursion}
use Rattle.hys_number.specs.Ops.{fits}
use Rattle.hys_lin.specs.declared.form.Term.{Term}
use Rattle.hys_lin.specs.declared.form.Affine.{Affine}
use Rattle.hys_lin.specs.declared.form.Row.{Row}
use Rattle.hys_sys.specs.declared.system.Column.{Column}
use Rattle.hys_sys.specs.declared.system.Output.{Output}
use Rattle.hys_sys.specs.declared.system.System.{System}

abbrev pub ColumnFits : Column → Type 0
ColumnFits c = IsTrue (fits c.bounds.low) × IsTrue (fits c.bounds.high)

abbrev pub TermFits : Term → Type 0
TermFits t = IsTrue (fits t.factor)

abbrev pub FormFits : Affine → Type 0
FormFits f = IsTrue (fits f.constant) × AllByRecursion TermFits f.terms

abbrev pub OutputFits : Output → Type 0
OutputFits o = FormFits o.form

abbrev pub RowFits : Row → Type 0
RowFits r = IsTrue (fits r.bound) × AllByRecursion TermFits r.terms

pub record NumbersFit (s : System) : Type 0 where
  pub columns : AllByRecursion ColumnFits s.columns
  pub next : AllByRecursion FormFits s.next
  pub outputs : AllByRecursion OutputFits s.outputs
  pub rows : AllByRecursion RowFits s.rows
