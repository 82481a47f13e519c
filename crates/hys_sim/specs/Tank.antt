-- A program of five names: the level x of a tank, a Boolean state named as the first column of tables is, the inflow u,
-- whether x is at least 5, with tolerance 1, and an output.
use Rattle.std.specs.Prelude.{ℕ, List, [], ◌∷◌, Some, None, codes}
use Rattle.hys_number.specs.Number.{Number}
use Rattle.hys_number.specs.Ops.{whole, neg}
use Rattle.hys_lin.specs.declared.form.Affine.{Affine}
use Rattle.hys_ast.specs.declared.source.Kind.{Kind}
use Rattle.hys_ast.specs.declared.source.Kind.TheVariants.{Real, Bool}
use Rattle.hys_formula.specs.declared.formula.Formula.TheVariants.{Name as Named}
use Rattle.hys_prog.specs.Example.{start}
use Rattle.hys_prog.specs.declared.program.Role.{Role}
use Rattle.hys_prog.specs.declared.program.Role.TheVariants.{State, Input, Output, Aux}
use Rattle.hys_prog.specs.declared.program.Body.{Body}
use Rattle.hys_prog.specs.declared.program.Body.TheVariants.{Guard, NextBool, NextReal, OutReal, MustMost}
use Rattle.hys_prog.specs.declared.program.Name.{Name}
use Rattle.hys_prog.specs.declared.program.ProgItem.{ProgItem}
use Rattle.hys_prog.specs.declared.program.Program.{Program}
use Rattle.hys_prog.specs.declared.program.Order.{Order}

abbrev pub name_of : List ℕ → Role → Kind → Number → Number → Name
name_of text role kind low high = record {
  text = text;
  role = role;
  kind = kind;
  place = start;
  bounds = record { low = low; high = high };
  value = whole 0;
}

abbrev pub x_name : Name
x_name = name_of (codes "x") State Real (whole 0) (whole 10)

abbrev pub step_name : Name
step_name = name_of (codes "step") State Bool (whole 0) (whole 1)

abbrev pub u_name : Name
u_name = name_of (codes "u") Input Real (neg (whole 1)) (whole 1)

abbrev pub d_name : Name
d_name = name_of (codes "d") Aux Bool (whole 0) (whole 0)

abbrev pub y_name : Name
y_name = name_of (codes "y") Output Real (whole 0) (whole 0)

abbrev pub names : List Name
names = x_name ∷ step_name ∷ u_name ∷ d_name ∷ y_name ∷ []

abbrev pub one_term : Number → Number → Affine
one_term factor constant = record { terms = record { column = 0; factor = factor } ∷ []; constant = constant }

-- x + u and a constant
abbrev pub filled : Number → Affine
filled constant = record {
  terms = record { column = 0; factor = whole 1 } ∷ record { column = 2; factor = whole 1 } ∷ [];
  constant = constant;
}

abbrev pub item_of : ℕ → Body → ProgItem
item_of n body = record { name = Some n; place = start; body = body }

-- the next x is x + u, the next `step` is d, y is 2 x + 1, and x + u is at most 9
abbrev pub items : List ProgItem
items =
    item_of 3 (Guard (one_term (neg (whole 1)) (whole 5)) (whole 1)) ∷
    item_of 0 (NextReal (filled (whole 0))) ∷
    item_of 1 (NextBool (Named 3)) ∷
    item_of 4 (OutReal (one_term (whole 2) (whole 1))) ∷
    record { name = None; place = start; body = MustMost (filled (neg (whole 9))) } ∷ []

abbrev pub tank : Program
tank = record { system = codes "t"; names = names; items = items; weight = 5 }

abbrev pub tank_order : Order
tank_order = record { names = 3 ∷ [] }
