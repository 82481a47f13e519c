-- What the bodies of items need of columns, and what helpers add.
use Rattle.std.specs.Prelude.{◌≡◌, ℕ, ◌+◌, ◌<◌, ◌≤◌, List, [], ◌∷◌, ◌++◌, length, Vec, Result, IfOk}
use Rattle.std.specs.declared.alloc.Global.{Global}
use Rattle.hys_number.specs.Number.{Number}
use Rattle.hys_number.specs.Ops.{◌<ₙ◌, whole}
use Rattle.hys_lin.specs.declared.form.Affine.{Affine}
use Rattle.hys_lin.specs.declared.form.Interval.{Interval}
use Rattle.hys_lin.specs.declared.form.Row.{Row}
use Rattle.hys_lin.specs.Stated.{Stated, AreRows, EachBelow}
use Rattle.hys_lin.specs.Sums.{AreTerms, EachColumn}
use Rattle.hys_prog.specs.declared.program.Body.{Body}
use Rattle.hys_prog.specs.declared.program.Body.TheVariants.{Guard, Choice, Logic, Linear, NextBool, NextReal, OutBool, OutReal, MustHold, MustMost, MustZero}
use Rattle.hys_bound.specs.Ranges.{range}
use Rattle.hys_formula.specs.declared.formula.Formula.{Formula}
use Rattle.hys_formula.specs.Formulas.{tree_of}
use Rattle.hys_logic.specs.declared.usage.Use.{Use}
use Rattle.hys_logic.specs.declared.usage.Use.TheVariants.{Define}
use Rattle.hys_logic.specs.Literals.{column_in}
use Rattle.hys_logic.specs.Meanings.{HaveColumns}
use Rattle.hys_logic.specs.Uses.{fresh_count, IsFree}
use Rattle.hys_guard.specs.Stated.{guard_stated, choice_stated, copy_stated}
use Rattle.hys_rows.specs.declared.added.Added.{Added}
use Rattle.hys_rows.specs.declared.fault.RowFault.{RowFault}
use Rattle.hys_rows.specs.Items.{fresh_in}
use Rattle.hys_rows.specs.Moved.{moved}
use Rattle.hys_rows.specs.Parts.{at_most, at_least, no_form, literal_form, formula_stated, body_stated}

-- ---- what is needed
-- each name of the form has a column, and the columns differ
pub record IsPlaced (columns : List ℕ) (f : Affine) : Type 0 where
  pub within : EachColumn (λ n. n < length columns) f.terms
  pub terms : AreTerms (moved columns f).terms

-- each name of the form has an interval
abbrev pub IsBoxed : List Interval → Affine → Type 0
IsBoxed boxes f = EachColumn (λ n. n < length boxes) f.terms

-- the column z is none of the form
abbrev pub IsApart : ℕ → Affine → Type 0
IsApart z f = EachColumn (λ c. ¬ (c ≡ z)) f.terms

abbrev pub IsPlacedFormula : List ℕ → ℕ → Formula → Type 0
IsPlacedFormula columns k l = HaveColumns columns k (tree_of l)

-- what is needed of the body whose fresh columns begin at k and whose name has the column z
abbrev pub IsPlacedBody : List Interval → List ℕ → ℕ → ℕ → Body → Type 0
IsPlacedBody boxes columns k z (Guard f e) =
    (whole 0 <ₙ e) × IsPlaced columns f × IsBoxed boxes f × IsApart z (moved columns f)
IsPlacedBody boxes columns k z (Choice l a b) =
    IsPlacedFormula columns k l × IsApart z (literal_form columns k l)
    × IsPlaced columns a × IsBoxed boxes a × IsApart z (moved columns a)
    × IsPlaced columns b × IsBoxed boxes b × IsApart z (moved columns b)
IsPlacedBody boxes columns k z (Logic l) = IsPlacedFormula columns k l × IsFree (Define z) columns k (tree_of l)
IsPlacedBody boxes columns k z (Linear f) = IsPlaced columns f × IsApart z (moved columns f)
IsPlacedBody boxes columns k z (NextBool l) = IsPlacedFormula columns k l
IsPlacedBody boxes columns k z (NextReal f) = IsPlaced columns f
IsPlacedBody boxes columns k z (OutBool l) = IsPlacedFormula columns k l
IsPlacedBody boxes columns k z (OutReal f) = IsPlaced columns f
IsPlacedBody boxes columns k z (MustHold l) = IsPlacedFormula columns k l
IsPlacedBody boxes columns k z (MustMost f) = IsPlaced columns f
IsPlacedBody boxes columns k z (MustZero f) = IsPlaced columns f

-- ---- what is added
-- the columns of the form are below n
abbrev pub FormBelow : Affine → ℕ → Type 0
FormBelow f n = EachColumn (λ c. c < n) f.terms

-- the stated rows were added, and each of their columns is below every number with the property
abbrev pub AddsRows : List Stated → (ℕ → Type 0) → List Row → List Row → Type 0
AddsRows ss P old new = (more : List Row) × (new ≡ old ++ more) × AreRows more ss × ((n : ℕ) → P n → EachBelow n more)

-- rows of the column z and a form were added
abbrev pub AddsBeside : List Stated → ℕ → Affine → List Row → List Row → Type 0
AddsBeside ss z f old new = AddsRows ss (λ n. (z < n) × FormBelow f n) old new

abbrev pub AddsGuard : List ℕ → Affine → Interval → Number → ℕ → List Row → List Row → Type 0
AddsGuard columns f i e z old new = AddsBeside (guard_stated (moved columns f) i e z) z (moved columns f) old new

abbrev pub AddsCopy : List ℕ → Affine → ℕ → List Row → List Row → Type 0
AddsCopy columns f z old new = AddsBeside (copy_stated (moved columns f) z) z (moved columns f) old new

-- the rows of a choice by a literal between two forms were added
abbrev pub AddsChosen : List ℕ → Affine → Affine → Interval → Affine → Interval → ℕ → List Row → List Row → Type 0
AddsChosen columns l a i b j z old new =
    AddsRows (choice_stated l (moved columns a) i (moved columns b) j z)
    (λ n. (z < n) × FormBelow l n × FormBelow (moved columns a) n × FormBelow (moved columns b) n) old new

-- the rows of a demand on a number were added
abbrev pub AddsMost : List ℕ → Affine → List Row → List Row → Type 0
AddsMost columns f old new = AddsRows (at_most (moved columns f) ∷ []) (FormBelow (moved columns f)) old new

abbrev pub AddsLeast : List ℕ → Affine → List Row → List Row → Type 0
AddsLeast columns f old new = AddsRows (at_least (moved columns f) ∷ []) (FormBelow (moved columns f)) old new

abbrev pub AddsZero : List ℕ → Affine → List Row → List Row → Type 0
AddsZero columns f old new =
    AddsRows (at_most (moved columns f) ∷ at_least (moved columns f) ∷ []) (FormBelow (moved columns f)) old new

-- there is no fresh column, and the form has no terms
abbrev pub HasNothing : Added → Type 0
HasNothing a = (a.fresh ≡ 0) × (a.form ≡ no_form)

-- the columns that the rows of a body may name are below n
abbrev pub BodyBelow : List ℕ → ℕ → ℕ → Body → ℕ → Type 0
BodyBelow columns k z (Guard f e) n = (z < n) × FormBelow (moved columns f) n
BodyBelow columns k z (Choice l a b) n =
    (k + fresh_in columns (Choice l a b) ≤ n) × (z < n) × FormBelow (literal_form columns k l) n
    × FormBelow (moved columns a) n × FormBelow (moved columns b) n
BodyBelow columns k z (Logic l) n = k + fresh_in columns (Logic l) ≤ n
BodyBelow columns k z (Linear f) n = (z < n) × FormBelow (moved columns f) n
BodyBelow columns k z (NextBool l) n = k + fresh_in columns (NextBool l) ≤ n
BodyBelow columns k z (NextReal f) n = Unit {0}
BodyBelow columns k z (OutBool l) n = k + fresh_in columns (OutBool l) ≤ n
BodyBelow columns k z (OutReal f) n = Unit {0}
BodyBelow columns k z (MustHold l) n = k + fresh_in columns (MustHold l) ≤ n
BodyBelow columns k z (MustMost f) n = FormBelow (moved columns f) n
BodyBelow columns k z (MustZero f) n = FormBelow (moved columns f) n

-- ---- what is added to the code's list
-- the rows of a formula under a use were added
abbrev pub AddsFormula : Use → List ℕ → ℕ → Formula → Vec Row Global → Vec Row Global → Type 0
AddsFormula u columns k l before after =
    AddsRows (formula_stated u columns k l) (λ n. k + fresh_count u (column_in columns) (tree_of l) ≤ n)
    before.items after.items

-- the rows of a formula that defines the column z were added
abbrev pub AddsDefined : List ℕ → ℕ → ℕ → Formula → Vec Row Global → Vec Row Global → Type 0
AddsDefined columns k z l before after =
    AddsRows (formula_stated (Define z) columns k l) (λ n. k + fresh_in columns (Logic l) ≤ n) before.items after.items

-- the rows of a guard were added, whose number has its range over the intervals of names
abbrev pub AddsGuardOver : List Interval → List ℕ → Affine → Number → ℕ → Vec Row Global → Vec Row Global → Type 0
AddsGuardOver boxes columns f e z before after = AddsGuard columns f (range boxes f) e z before.items after.items

-- the rows of the body were added
abbrev pub AddsBody : List Interval → List ℕ → ℕ → ℕ → Body → Vec Row Global → Vec Row Global → Type 0
AddsBody boxes columns k z b before after =
    AddsRows (body_stated boxes columns k z b) (BodyBelow columns k z b) before.items after.items

-- where it succeeds, the rows of a choice were added
abbrev pub AddsChoice : {X : Type 0} →
    List Interval → List ℕ → ℕ → ℕ → Formula → Affine → Affine → Vec Row Global → Vec Row Global →
    Result X RowFault → Type 0
AddsChoice boxes columns k z l a b before after r = IfOk r (λ _. AddsBody boxes columns k z (Choice l a b) before after)

-- where it succeeds, the rows of both cases of a choice by a literal were added, whose forms have these ranges
abbrev pub AddsCases : {X : Type 0} →
    List ℕ → Affine → Affine → Interval → Affine → Interval → ℕ → Vec Row Global → Vec Row Global →
    Result X RowFault → Type 0
AddsCases columns l a i b j z before after r =
    IfOk r (λ _. AddsChosen columns l a i b j z before.items after.items)
