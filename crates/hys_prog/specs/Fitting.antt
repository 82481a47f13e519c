-- The partial values of a step, and what its first stop says.
use Rattle.std.specs.Prelude.{◌≡◌, ◌↔◌, ◌++◌, ◌∷◌, List, Some, None, false, true, cond, IsTrue}
use Rattle.std.specs.List.{AllByRecursion}
use Rattle.hys_number.specs.Number.{Number}
use Rattle.hys_number.specs.Ops.{fits}
use Rattle.hys_lin.specs.Sums.{Assignment}
use Rattle.hys_lin.specs.Operations.{outcome}
use Rattle.hys_lin.specs.declared.form.Affine.{Affine}
use Rattle.hys_formula.specs.Formulas.{tree_of, truth}
use Rattle.hys_prog.specs.declared.program.Body.{Body}
use Rattle.hys_prog.specs.declared.program.Body.TheVariants.{Guard, Choice, Logic, Linear, NextBool, NextReal, OutBool, OutReal, MustHold, MustMost, MustZero}
use Rattle.hys_prog.specs.declared.program.Program.{Program}
use Rattle.hys_prog.specs.declared.program.Order.{Order}
use Rattle.hys_prog.specs.declared.stop.Stop.{Stop}
use Rattle.hys_prog.specs.Programs.{EachItem}
use Rattle.hys_prog.specs.Steps.{Legal}
use Rattle.hys_prog.specs.Stops.{Check, IsValued, evaluating, first_stop, stops}

-- ---- numbers
-- each product and each partial sum of the form fits
abbrev pub FormFits : Assignment → Affine → Type 0
FormFits w f = AllByRecursion (λ o. IsTrue (fits (outcome o))) (evaluating w f)

-- the numbers that a body asks for fit, of a choice those of the chosen form alone
abbrev pub BodyFits : Assignment → Body → Type 0
BodyFits w (Guard f e) = FormFits w f
BodyFits w (Choice l a b) = FormFits w (cond (truth (tree_of l) w) a b)
BodyFits w (Logic l) = Unit {0}
BodyFits w (Linear f) = FormFits w f
BodyFits w (NextBool l) = Unit {0}
BodyFits w (NextReal f) = FormFits w f
BodyFits w (OutBool l) = Unit {0}
BodyFits w (OutReal f) = FormFits w f
BodyFits w (MustHold l) = Unit {0}
BodyFits w (MustMost f) = FormFits w f
BodyFits w (MustZero f) = FormFits w f

-- a legal step from the values, all of whose partial values fit
pub record FittingStep (p : Program) (x u : List Number) : Type 0 where
  pub values : Assignment
  pub next : List Number
  pub outputs : List Number
  pub legal : Legal p x u values next outputs
  pub fit : EachItem (λ t. BodyFits values t.body) p.items

-- nothing stops a step exactly where there is a legal one all of whose partial values fit
abbrev pub NothingStops : Program → Order → Type 0
NothingStops p o =
    (x u : List Number) (w : Assignment) → IsValued p x u w → (first_stop (stops p o w) ≡ None) ↔ FittingStep p x u

-- ---- first stops
-- the check of the list that fails first has the stop
pub record FailsFirst (cs : List Check) (s : Stop) : Type 0 where
  pub before : List Check
  pub check : Check
  pub after : List Check
  pub whole : cs ≡ before ++ check ∷ after
  pub passed : AllByRecursion (λ c. c.passes ≡ true) before
  pub fails : check.passes ≡ false
  pub is : check.stop ≡ s

-- the first stop is that of the check that fails first, and none stands where all pass
pub record IsFirstStop (cs : List Check) : Type 0 where
  pub some : (s : Stop) → (first_stop cs ≡ Some s) ↔ FailsFirst cs s
  pub none : (first_stop cs ≡ None) ↔ AllByRecursion (λ c. c.passes ≡ true) cs
