-- The value of a system nests no deeper than six.
use Rattle.std.proofs.Common.{ℕ, ◌≤◌, List, [], ◌∷◌, map, arith}
use Rattle.serde_json.specs.Data.{depth, items_depth}
use Rattle.serde_json.specs.View.{items_of}
use Rattle.hys_lin.specs.declared.form.Term.{Term}
use Rattle.hys_lin.specs.declared.form.Affine.{Affine}
use Rattle.hys_lin.specs.declared.form.Row.{Row}
use Rattle.hys_sys.specs.declared.system.Column.{Column}
use Rattle.hys_sys.specs.declared.system.Output.{Output}
use Rattle.hys_sys.specs.declared.system.System.{System}
use Rattle.hys_file.specs.Matrix.{column_data, term_data, next_data, output_data, rows_data, matrix_data}

columns : (cs : List Column) → items_depth (items_of (map column_data cs)) ≤ 2
columns [] = omega arith
columns (c ∷ cs) = omega (arith, columns cs)

terms : (ts : List Term) → items_depth (items_of (map term_data ts)) ≤ 1
terms [] = omega arith
terms (t ∷ ts) = omega (arith, terms ts)

nexts : (fs : List Affine) → items_depth (items_of (map next_data fs)) ≤ 3
nexts [] = omega arith
nexts (f ∷ fs) = omega (arith, terms f.terms, nexts fs)

outputs : (os : List Output) → items_depth (items_of (map output_data os)) ≤ 3
outputs [] = omega arith
outputs (o ∷ os) = omega (arith, terms o.form.terms, outputs os)

rows : (ls : List (List ℕ)) (rs : List Row) → items_depth (items_of (rows_data ls rs)) ≤ 3
rows ls [] = omega arith
rows [] (r ∷ rs) = omega (arith, terms r.terms, rows [] rs)
rows (l ∷ ls) (r ∷ rs) = omega (arith, terms r.terms, rows ls rs)

pub shallow : (s : System) → depth (matrix_data s) ≤ 127
shallow s = omega (arith, columns s.columns, nexts s.next, outputs s.outputs, rows s.labels s.rows)
