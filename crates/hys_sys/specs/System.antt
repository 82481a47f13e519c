-- What every system keeps.
use Rattle.std.specs.Prelude.{◌≡◌, ℕ, ◌+◌, ◌*◌, ◌≤◌, List, [], ◌∷◌, ◌++◌, length, map, All, false}
use Rattle.hys_number.specs.Ops.{whole}
use Rattle.hys_base.specs.Differ.{Differ}
use Rattle.hys_lin.specs.Sums.{IsInterval}
use Rattle.hys_lin.specs.Over.{AreTermsOver}
use Rattle.hys_lin.specs.declared.form.Interval.{Interval}
use Rattle.hys_sys.specs.declared.system.ColumnRole.{ColumnRole}
use Rattle.hys_sys.specs.declared.system.ColumnRole.TheVariants.{State, Input, D, Z}
use Rattle.hys_sys.specs.declared.system.Kind2.{Kind2}
use Rattle.hys_sys.specs.declared.system.Kind2.TheVariants.{Real, Bool}
use Rattle.hys_sys.specs.declared.system.Column.{Column}
use Rattle.hys_sys.specs.declared.system.Output.{Output}
use Rattle.hys_sys.specs.declared.system.System.{System}

-- the place of a role in the order of the columns
abbrev pub rank : ColumnRole → ℕ
rank State = 0
rank Input = 1
rank D = 2
rank Z = 3

-- the roles stand in that order
abbrev pub InOrder : List Column → Type 0
InOrder [] = Unit {0}
InOrder (c ∷ cs) = All (λ d. rank c.role ≤ rank d.role) cs × InOrder cs

-- how many columns are states
abbrev pub one_if_state : ColumnRole → ℕ
one_if_state State = 1
one_if_state Input = 0
one_if_state D = 0
one_if_state Z = 0

abbrev pub states : List Column → ℕ
states [] = 0
states (c ∷ cs) = one_if_state c.role + states cs

-- a box of the kind: that of a Boolean column is 0 to 1
abbrev pub IsBox : Kind2 → Interval → Type 0
IsBox Real i = IsInterval i
IsBox Bool i = (i.low ≡ whole 0) × (i.high ≡ whole 1)

abbrev pub names : System → List (List ℕ)
names s = map (λ (c : Column). c.name) s.columns ++ map (λ (o : Output). o.name) s.outputs

pub record IsSystem (s : System) : Type 0 where
  pub order : InOrder s.columns
  pub boxes : All (λ c. IsBox c.kind c.bounds) s.columns
  pub differ : Differ (names s)
  pub each : length s.next ≡ states s.columns
  pub next : All (λ f. AreTermsOver (length s.columns) f.terms) s.next
  pub outputs : All (λ o. AreTermsOver (length s.columns) o.form.terms) s.outputs
  pub rows : All (λ r. AreTermsOver (length s.columns) r.terms) s.rows
  pub no_equation : All (λ r. r.eq ≡ false) s.rows
  pub labelled : length s.labels ≡ length s.rows
  pub few_columns : length s.columns ≤ s.weight
  pub few_rows : length s.rows ≤ 5 * s.weight
