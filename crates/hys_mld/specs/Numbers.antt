-- The numbers that the rows of a program are made of, item by item in source order.
use Rattle.std.specs.Prelude.{ℕ, suc, ◌+◌, List, [], ◌∷◌, ◌++◌, length}
use Rattle.hys_lin.specs.declared.form.Interval.{Interval}
use Rattle.hys_prog.specs.declared.program.ProgItem.{ProgItem}
use Rattle.hys_prog.specs.declared.program.Program.{Program}
use Rattle.hys_bound.specs.Ranges.{Placed, all_at}
use Rattle.hys_exact.specs.Columns.{front}
use Rattle.hys_rows.specs.Items.{fresh_in}
use Rattle.hys_rows.specs.Numbers.{numbers_of}
use Rattle.hys_mld.specs.Fresh.{name_columns}

-- of the items from place i on, whose fresh columns begin at k
abbrev pub items_numbers : List Interval → List ℕ → ℕ → ℕ → List ProgItem → List Placed
items_numbers boxes columns k i [] = []
items_numbers boxes columns k i (t ∷ ts) =
    all_at i (numbers_of boxes columns k t.body) ++ items_numbers boxes columns (k + fresh_in columns t.body) (suc i) ts

-- of all items, where the names have these intervals
abbrev pub row_numbers : Program → List Interval → List Placed
row_numbers p boxes = items_numbers boxes (name_columns p) (length (front p)) 0 p.items
