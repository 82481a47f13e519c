-- The system that is written of a program: what stands in it, item by item.
use Rattle.std.specs.Prelude.{ℕ, List, length}
use Rattle.hys_lin.specs.declared.form.Affine.{Affine}
use Rattle.hys_lin.specs.declared.form.Interval.{Interval}
use Rattle.hys_lin.specs.declared.form.Row.{Row}
use Rattle.hys_prog.specs.declared.program.Program.{Program}
use Rattle.hys_sys.specs.declared.system.System.{System}
use Rattle.hys_exact.specs.Columns.{front}
use Rattle.hys_mld.specs.Assembled.{IsAssembled}
use Rattle.hys_mld.specs.Fresh.{fresh_of, name_columns}
use Rattle.hys_mld.specs.Lines.{AreLines}

-- The rows and their labels are those of the program's items, one item after another; next values and outputs have the
-- forms of the items that define them; there are as many fresh columns as the items' formulas have.
pub record IsWritten (p : Program) (boxes : List Interval) (S : System) : Type 0 where
  pub rows : List Row
  pub labels : List (List ℕ)
  pub forms : List Affine
  pub lines : AreLines p.names boxes (name_columns p) (length (front p)) p.items rows labels forms
  pub assembled : IsAssembled p boxes (fresh_of p) rows labels forms S
