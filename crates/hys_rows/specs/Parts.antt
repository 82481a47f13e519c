-- The rows, the fresh columns and the form that stand for an item.
use Rattle.std.specs.Prelude.{◌≡◌, ℕ, List, [], ◌∷◌, ◌++◌, Bool, Option, Some, None}
use Rattle.hys_number.specs.Ops.{neg, whole}
use Rattle.hys_lin.specs.declared.form.Affine.{Affine}
use Rattle.hys_lin.specs.declared.form.Interval.{Interval}
use Rattle.hys_lin.specs.declared.form.Row.{Row}
use Rattle.hys_lin.specs.Stated.{Stated, AreRows}
use Rattle.hys_lin.specs.Sums.{Assignment, sum_of}
use Rattle.hys_prog.specs.declared.program.Body.{Body}
use Rattle.hys_prog.specs.declared.program.Body.TheVariants.{Guard, Choice, Logic, Linear, NextBool, NextReal, OutBool, OutReal, MustHold, MustMost, MustZero}
use Rattle.hys_prog.specs.declared.program.Name.{Name}
use Rattle.hys_prog.specs.declared.program.ProgItem.{ProgItem}
use Rattle.hys_bound.specs.Ranges.{range}
use Rattle.hys_formula.specs.declared.formula.Formula.{Formula}
use Rattle.hys_formula.specs.Formulas.{tree_of}
use Rattle.hys_logic.specs.declared.usage.Use.{Use}
use Rattle.hys_logic.specs.declared.usage.Use.TheVariants.{Read, Define, Require}
use Rattle.hys_logic.specs.Literals.{column_in}
use Rattle.hys_logic.specs.Rows.{form_of}
use Rattle.hys_logic.specs.Uses.{fresh_by, literal_by, stated_by}
use Rattle.hys_guard.specs.Stated.{guard_stated, choice_stated, copy_stated}
use Rattle.hys_exact.specs.Parts.{Part, Means}
use Rattle.hys_exact.specs.Sound.{IsSound}
use Rattle.hys_rows.specs.declared.added.Added.{Added}
use Rattle.hys_rows.specs.Items.{fresh_in, Fits, AreBelow}
use Rattle.hys_rows.specs.Moved.{moved}

-- ---- rows
-- the number is at most 0, its constant standing in the bound
abbrev pub at_most : Affine → Stated
at_most f = record { left = λ v. sum_of f.terms v; bound = neg f.constant }

-- the number is at least 0
abbrev pub at_least : Affine → Stated
at_least f = record { left = λ v. neg (sum_of f.terms v); bound = f.constant }

-- the rows of a formula under a use
abbrev pub formula_stated : Use → List ℕ → ℕ → Formula → List Stated
formula_stated u columns k l = stated_by u (column_in columns) k (tree_of l)

-- the form of the literal that has a formula's truth
abbrev pub literal_form : List ℕ → ℕ → Formula → Affine
literal_form columns k l = form_of (literal_by Read (column_in columns) k (tree_of l))

-- the rows that hold the column z to the one form where the literal is 1, else to the other
abbrev pub chosen_stated : List Interval → List ℕ → ℕ → ℕ → Formula → Affine → Affine → List Stated
chosen_stated boxes columns k z l a b =
    choice_stated (literal_form columns k l) (moved columns a) (range boxes a) (moved columns b) (range boxes b) z

-- The rows of a body whose fresh columns begin at k, where z is the column of the name that it defines. The rows of its
-- formula stand before its other rows.
abbrev pub body_stated : List Interval → List ℕ → ℕ → ℕ → Body → List Stated
body_stated boxes columns k z (Guard f e) = guard_stated (moved columns f) (range boxes f) e z
body_stated boxes columns k z (Choice l a b) = formula_stated Read columns k l ++ chosen_stated boxes columns k z l a b
body_stated boxes columns k z (Logic l) = formula_stated (Define z) columns k l
body_stated boxes columns k z (Linear f) = copy_stated (moved columns f) z
body_stated boxes columns k z (NextBool l) = formula_stated Read columns k l
body_stated boxes columns k z (NextReal f) = []
body_stated boxes columns k z (OutBool l) = formula_stated Read columns k l
body_stated boxes columns k z (OutReal f) = []
body_stated boxes columns k z (MustHold l) = formula_stated Require columns k l
body_stated boxes columns k z (MustMost f) = at_most (moved columns f) ∷ []
body_stated boxes columns k z (MustZero f) = at_most (moved columns f) ∷ at_least (moved columns f) ∷ []

-- the column of the name that an item defines; 0 where it defines none, which no row then names
abbrev pub own_column : List ℕ → Option ℕ → ℕ
own_column columns (Some n) = column_in columns n
own_column columns None = 0

abbrev pub stated_in : List Interval → List ℕ → ℕ → ProgItem → List Stated
stated_in boxes columns k t = body_stated boxes columns k (own_column columns t.name) t.body

-- ---- the form
abbrev pub no_form : Affine
no_form = record { terms = []; constant = whole 0 }

-- the form of a next value or an output over the columns; no terms for another body
abbrev pub form_in : List ℕ → ℕ → Body → Affine
form_in columns k (Guard f e) = no_form
form_in columns k (Choice l a b) = no_form
form_in columns k (Logic l) = no_form
form_in columns k (Linear f) = no_form
form_in columns k (NextBool l) = literal_form columns k l
form_in columns k (NextReal f) = moved columns f
form_in columns k (OutBool l) = literal_form columns k l
form_in columns k (OutReal f) = moved columns f
form_in columns k (MustHold l) = no_form
form_in columns k (MustMost f) = no_form
form_in columns k (MustZero f) = no_form

-- ---- fresh columns
-- the truths of the fresh columns under the numbers of names
abbrev pub truths_in : List ℕ → Body → Assignment → List Bool
truths_in columns (Guard f e) w = []
truths_in columns (Choice l a b) w = fresh_by Read (column_in columns) (tree_of l) w
truths_in columns (Logic l) w = fresh_by (Define 0) (column_in columns) (tree_of l) w
truths_in columns (Linear f) w = []
truths_in columns (NextBool l) w = fresh_by Read (column_in columns) (tree_of l) w
truths_in columns (NextReal f) w = []
truths_in columns (OutBool l) w = fresh_by Read (column_in columns) (tree_of l) w
truths_in columns (OutReal f) w = []
truths_in columns (MustHold l) w = fresh_by Require (column_in columns) (tree_of l) w
truths_in columns (MustMost f) w = []
truths_in columns (MustZero f) w = []

-- ---- what stands for an item
abbrev pub part_of : List ℕ → ℕ → ProgItem → List Row → Part
part_of columns k t rows = record {
  rows = rows;
  count = fresh_in columns t.body;
  fresh = λ w. truths_in columns t.body w;
  form = form_in columns k t.body;
}

-- for all names that fit, the rows with the fresh columns and the form mean the item
abbrev pub MeanItem : List Interval → List ℕ → ℕ → ProgItem → List Row → Type 0
MeanItem boxes columns k t rows =
    (names : List Name) → Fits names boxes columns k t → Means names boxes columns k t (part_of columns k t rows)

-- and they are sound over a number of columns where those of the names and the fresh ones are below it
abbrev pub AreSoundFor : List Interval → List ℕ → ℕ → ProgItem → List Row → Type 0
AreSoundFor boxes columns k t rows =
    (names : List Name) (total : ℕ) → Fits names boxes columns k t →
    AreBelow names columns k (fresh_in columns t.body) total → IsSound total t (part_of columns k t rows)

-- The rows are the stated ones, and with the fresh columns and the form they mean the item and are sound.
pub record IsAdded (boxes : List Interval) (columns : List ℕ) (k : ℕ) (t : ProgItem) (more : List Row) (a : Added) : Type 0 where
  pub fresh : a.fresh ≡ fresh_in columns t.body
  pub form : a.form ≡ form_in columns k t.body
  pub rows : AreRows more (stated_in boxes columns k t)
  pub means : MeanItem boxes columns k t more
  pub sound : AreSoundFor boxes columns k t more

-- the rows of the item were added behind the old ones
abbrev pub Adds : List Interval → List ℕ → ℕ → ProgItem → List Row → List Row → Added → Type 0
Adds boxes columns k t old new a = (more : List Row) × (new ≡ old ++ more) × IsAdded boxes columns k t more a
