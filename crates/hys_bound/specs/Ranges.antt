-- The intervals of a program's names along an order of definition, and the operations that give them.
use Rattle.std.specs.Prelude.{ℕ, zero, suc, List, [], ◌∷◌, ◌++◌, Option, Some, None, true, false, cond}
use Rattle.std.proofs.Common.{set}
use Rattle.std.specs.Ordering.{is_le}
use Rattle.hys_number.specs.Number.{Number}
use Rattle.hys_number.specs.Ops.{whole, fits}
use Rattle.hys_frac.specs.Compare.{number_cmp}
use Rattle.hys_lin.specs.declared.form.Affine.{Affine}
use Rattle.hys_lin.specs.declared.form.Interval.{Interval}
use Rattle.hys_lin.specs.declared.lost.Lost.{Lost}
use Rattle.hys_lin.specs.Operations.{outcome}
use Rattle.hys_lin.specs.Ranges.{end_of, ranging}
use Rattle.hys_lin.specs.Sums.{EachColumn}
use Rattle.hys_prog.specs.declared.program.Name.{Name}
use Rattle.hys_prog.specs.declared.program.Role.{Role}
use Rattle.hys_prog.specs.declared.program.Role.TheVariants.{State, Input, Output, Parameter, Aux}
use Rattle.hys_prog.specs.declared.program.Body.{Body}
use Rattle.hys_prog.specs.declared.program.Body.TheVariants.{Guard, Choice, Logic, Linear, NextBool, NextReal, OutBool, OutReal, MustHold, MustMost, MustZero}
use Rattle.hys_prog.specs.declared.program.ProgItem.{ProgItem}
use Rattle.hys_prog.specs.declared.program.Program.{Program}
use Rattle.hys_prog.specs.declared.program.Order.{Order}
use Rattle.hys_prog.specs.Programs.{is_named}

-- ---- the range of a form
abbrev pub range : List Interval → Affine → Interval
range boxes f = record { low = end_of false f boxes; high = end_of true f boxes }

-- ---- the interval of an auxiliary
abbrev pub least : Number → Number → Number
least a b = cond (is_le (number_cmp a b)) a b

abbrev pub greatest : Number → Number → Number
greatest a b = cond (is_le (number_cmp a b)) b a

-- the least interval that holds both
abbrev pub hull : Interval → Interval → Interval
hull i j = record { low = least i.low j.low; high = greatest i.high j.high }

abbrev pub unit : Interval
unit = record { low = whole 0; high = whole 1 }

-- the interval of the auxiliary that the body defines; a Boolean one's is 0 to 1
abbrev pub defined_interval : List Interval → Body → Interval
defined_interval boxes (Guard f e) = unit
defined_interval boxes (Choice l a b) = hull (range boxes a) (range boxes b)
defined_interval boxes (Logic l) = unit
defined_interval boxes (Linear f) = range boxes f
defined_interval boxes (NextBool l) = unit
defined_interval boxes (NextReal f) = unit
defined_interval boxes (OutBool l) = unit
defined_interval boxes (OutReal f) = unit
defined_interval boxes (MustHold l) = unit
defined_interval boxes (MustMost f) = unit
defined_interval boxes (MustZero f) = unit

-- the operations that the body asks for: those of its guard number, its LINEAR form, or its THEN form and then its
-- ELSE form
abbrev pub asked : List Interval → Body → List Lost
asked boxes (Guard f e) = ranging boxes f
asked boxes (Choice l a b) = ranging boxes a ++ ranging boxes b
asked boxes (Logic l) = []
asked boxes (Linear f) = ranging boxes f
asked boxes (NextBool l) = []
asked boxes (NextReal f) = []
asked boxes (OutBool l) = []
asked boxes (OutReal f) = []
asked boxes (MustHold l) = []
asked boxes (MustMost f) = []
asked boxes (MustZero f) = []

-- each column of the forms of which a range is asked has the property
abbrev pub EachAsked : (ℕ → Type 0) → Body → Type 0
EachAsked P (Guard f e) = EachColumn P f.terms
EachAsked P (Choice l a b) = EachColumn P a.terms × EachColumn P b.terms
EachAsked P (Logic l) = Unit {0}
EachAsked P (Linear f) = EachColumn P f.terms
EachAsked P (NextBool l) = Unit {0}
EachAsked P (NextReal f) = Unit {0}
EachAsked P (OutBool l) = Unit {0}
EachAsked P (OutReal f) = Unit {0}
EachAsked P (MustHold l) = Unit {0}
EachAsked P (MustMost f) = Unit {0}
EachAsked P (MustZero f) = Unit {0}

-- ---- operations with the places of their items
pub record Placed : Type 0 where
  pub item : ℕ
  pub what : Lost

abbrev pub all_at : ℕ → List Lost → List Placed
all_at k [] = []
all_at k (o ∷ os) = record { item = k; what = o } ∷ all_at k os

-- the first whose outcome doesn't fit, if there is one
abbrev pub first_unfit : List Placed → Option Placed
first_unfit [] = None
first_unfit (c ∷ cs) = cond (fits (outcome c.what)) (first_unfit cs) (Some c)

-- ---- along the order
-- the place of the first item that defines the name
abbrev pub place_in : List ProgItem → ℕ → ℕ
place_in [] n = 0
place_in (t ∷ ts) n = cond (is_named n t.name) 0 (suc (place_in ts n))

abbrev pub interval_at : List Interval → List ProgItem → ℕ → Interval
interval_at boxes [] k = unit
interval_at boxes (t ∷ ts) zero = defined_interval boxes t.body
interval_at boxes (t ∷ ts) (suc k) = interval_at boxes ts k

abbrev pub asked_at : List Interval → List ProgItem → ℕ → List Lost
asked_at boxes [] k = []
asked_at boxes (t ∷ ts) zero = asked boxes t.body
asked_at boxes (t ∷ ts) (suc k) = asked_at boxes ts k

-- the intervals, of which that of one auxiliary is found more
abbrev pub with_interval : List ProgItem → ℕ → List Interval → List Interval
with_interval items n boxes = set boxes n (interval_at boxes items (place_in items n))

abbrev pub found : List ProgItem → List ℕ → List Interval → List Interval
found items [] boxes = boxes
found items (n ∷ ns) boxes = found items ns (with_interval items n boxes)

-- the numbers of the interval of one auxiliary
abbrev pub numbers_here : List ProgItem → ℕ → List Interval → List Placed
numbers_here items n boxes = all_at (place_in items n) (asked_at boxes items (place_in items n))

-- of each auxiliary in turn, over the intervals found so far
abbrev pub numbers_along : List ProgItem → List ℕ → List Interval → List Placed
numbers_along items [] boxes = []
numbers_along items (n ∷ ns) boxes = numbers_here items n boxes ++ numbers_along items ns (with_interval items n boxes)

-- the interval of a name as it is declared: a state's and an input's box, the value of a parameter at both ends; 0 to
-- 0 for an output, and for an auxiliary until its own is found
abbrev pub declared_interval : Role → Name → Interval
declared_interval State x = x.bounds
declared_interval Input x = x.bounds
declared_interval Output x = record { low = whole 0; high = whole 0 }
declared_interval Parameter x = record { low = x.value; high = x.value }
declared_interval Aux x = record { low = whole 0; high = whole 0 }

abbrev pub declared : List Name → List Interval
declared [] = []
declared (x ∷ xs) = declared_interval x.role x ∷ declared xs

-- the intervals of the names
abbrev pub intervals : Program → Order → List Interval
intervals p o = found p.items o.names (declared p.names)

-- the numbers of the intervals, in the order in which they are looked for
abbrev pub range_numbers : Program → Order → List Placed
range_numbers p o = numbers_along p.items o.names (declared p.names)
