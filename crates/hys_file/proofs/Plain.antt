-- The value of a lawful system that isn't too large is plain: its whole numbers are short, and its members stand in the
-- order of their keys.
use Rattle.std.proofs.Common.{ℕ, ◌<◌, ◌≤◌, ◌^◌, List, [], ◌∷◌, length, map, refl, arith}
use Rattle.std.specs.List.{AllByRecursion}
use Rattle.std.proofs.lemmas.List.Elements.{recursion_from_All}
use Rattle.serde_json.specs.View.{items_of}
use Rattle.hys_json.specs.Plain.{IsPlain, ArePlain}
use Rattle.hys_lin.specs.Sums.{EachColumn}
use Rattle.hys_lin.specs.Over.{AreTermsOver}
use Rattle.hys_lin.specs.declared.form.Term.{Term}
use Rattle.hys_lin.specs.declared.form.Affine.{Affine}
use Rattle.hys_lin.specs.declared.form.Row.{Row}
use Rattle.hys_sys.specs.declared.system.Column.{Column}
use Rattle.hys_sys.specs.declared.system.Output.{Output}
use Rattle.hys_sys.specs.declared.system.System.{System}
use Rattle.hys_sys.specs.System.{IsSystem}
use Rattle.hys_file.specs.Matrix.{column_data, term_data, next_data, output_data, rows_data, matrix_data}
use Rattle.hys_file.specs.Reading.{most_weight}

columns : (cs : List Column) → ArePlain (items_of (map column_data cs))
columns [] = tt
columns (c ∷ cs) = ((((tt, (tt, tt)), (tt, (tt, (tt, tt)))), refl), columns cs)

-- places are below the number of columns
module _ (width : ℕ) (small : width < 2 ^ 64) where
  terms : (ts : List Term) → EachColumn (λ c. c < width) ts → ArePlain (items_of (map term_data ts))
  terms [] h = tt
  terms (t ∷ ts) h = ((omega (arith, small, h.0), (tt, tt)), terms ts h.1)

  nexts : (fs : List Affine) → AllByRecursion (λ (f : Affine). AreTermsOver width f.terms) fs → ArePlain (items_of (map next_data fs))
  nexts [] h = tt
  nexts (f ∷ fs) h = (((tt, (terms f.terms h.0.below, tt)), refl), nexts fs h.1)

  outputs : (os : List Output) → AllByRecursion (λ (o : Output). AreTermsOver width o.form.terms) os → ArePlain (items_of (map output_data os))
  outputs [] h = tt
  outputs (o ∷ os) h = (((tt, (tt, (tt, (terms o.form.terms h.0.below, tt)))), refl), outputs os h.1)

  rows : (ls : List (List ℕ)) (rs : List Row) → AllByRecursion (λ (r : Row). AreTermsOver width r.terms) rs → ArePlain (items_of (rows_data ls rs))
  rows ls [] h = tt
  rows [] (r ∷ rs) h = (((tt, (tt, (terms r.terms h.0.below, tt))), refl), rows [] rs h.1)
  rows (l ∷ ls) (r ∷ rs) h = (((tt, (tt, (terms r.terms h.0.below, tt))), refl), rows ls rs h.1)

pub plain : (s : System) → IsSystem s → s.weight ≤ most_weight → IsPlain (matrix_data s)
plain s lawful light =
    let width : ℕ = length s.columns in
    let small : width < 2 ^ 64 = omega (arith, lawful.few_columns, light) in
    let next = nexts width small s.next (recursion_from_All (λ (f : Affine). AreTermsOver width f.terms) s.next lawful.next) in
    let outs = outputs width small s.outputs (recursion_from_All (λ (o : Output). AreTermsOver width o.form.terms) s.outputs lawful.outputs) in
    let lines = rows width small s.labels s.rows (recursion_from_All (λ (r : Row). AreTermsOver width r.terms) s.rows lawful.rows) in
    ((columns s.columns, (tt, (next, (outs, (lines, (tt, (omega arith, (omega (arith, light), tt)))))))), refl)
