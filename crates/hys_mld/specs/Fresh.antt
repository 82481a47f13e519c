-- How many fresh columns a program's system has, and the columns of its names with these.
use Rattle.std.specs.Prelude.{ℕ, ◌+◌, List, [], ◌∷◌}
use Rattle.hys_prog.specs.declared.program.ProgItem.{ProgItem}
use Rattle.hys_prog.specs.declared.program.Program.{Program}
use Rattle.hys_rows.specs.Items.{fresh_in}
use Rattle.hys_mld.specs.Placing.{placing_of}

-- the fresh columns of all items
abbrev pub fresh_of_items : List ℕ → List ProgItem → ℕ
fresh_of_items columns [] = 0
fresh_of_items columns (t ∷ ts) = fresh_in columns t.body + fresh_of_items columns ts

-- Those of a program. Only the columns of Boolean names count, which stand before fresh ones, so that any number of
-- fresh columns may be taken for the placing.
abbrev pub fresh_of : Program → ℕ
fresh_of p = fresh_of_items (placing_of p 0) p.items

-- the columns of the program's names
abbrev pub name_columns : Program → List ℕ
name_columns p = placing_of p (fresh_of p)
