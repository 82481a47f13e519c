-- The rows of a program, item by item in source order.
use Rattle.std.specs.Prelude.{ℕ, ◌+◌, List, [], ◌∷◌, ◌++◌, length}
use Rattle.hys_lin.specs.declared.form.Interval.{Interval}
use Rattle.hys_lin.specs.declared.form.Row.{Row}
use Rattle.hys_lin.specs.Stated.{Stated, AreRows}
use Rattle.hys_prog.specs.declared.program.ProgItem.{ProgItem}
use Rattle.hys_prog.specs.declared.program.Program.{Program}
use Rattle.hys_exact.specs.Columns.{front}
use Rattle.hys_rows.specs.Items.{fresh_in}
use Rattle.hys_rows.specs.Parts.{stated_in}
use Rattle.hys_mld.specs.Fresh.{name_columns}

-- of items whose fresh columns begin at k, one after another
abbrev pub items_stated : List Interval → List ℕ → ℕ → List ProgItem → List Stated
items_stated boxes columns k [] = []
items_stated boxes columns k (t ∷ ts) =
    stated_in boxes columns k t ++ items_stated boxes columns (k + fresh_in columns t.body) ts

-- the rows are those of the program's items, where the names have these intervals
abbrev pub AreStated : Program → List Interval → List Row → Type 0
AreStated p boxes rows = AreRows rows (items_stated boxes (name_columns p) (length (front p)) p.items)
