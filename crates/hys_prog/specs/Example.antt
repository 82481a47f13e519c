-- Programs that are written out.
use Rattle.std.specs.Prelude.{ℕ, List, [], ◌∷◌, Some, codes}
use Rattle.hys_number.specs.Number.{Number}
use Rattle.hys_number.specs.Ops.{whole}
use Rattle.hys_lin.specs.declared.form.Affine.{Affine}
use Rattle.hys_ast.specs.declared.place.Place.{Place}
use Rattle.hys_ast.specs.declared.source.Kind.TheVariants.{Real}
use Rattle.hys_prog.specs.declared.program.Role.{Role}
use Rattle.hys_prog.specs.declared.program.Role.TheVariants.{State, Aux}
use Rattle.hys_prog.specs.declared.program.Name.{Name}
use Rattle.hys_prog.specs.declared.program.Body.{Body}
use Rattle.hys_prog.specs.declared.program.Body.TheVariants.{Linear, NextReal}
use Rattle.hys_prog.specs.declared.program.ProgItem.{ProgItem}
use Rattle.hys_prog.specs.declared.program.Program.{Program}

abbrev pub start : Place
start = record { byte = 0; line = 1; col = 1 }

-- ---- one state
abbrev pub kept_name : Name
kept_name = record {
  text = codes "x";
  role = State;
  kind = Real;
  place = start;
  bounds = record { low = whole 0; high = whole 10 };
  value = whole 0;
}

abbrev pub kept_item : ProgItem
kept_item = record {
  name = Some 0;
  place = start;
  body = NextReal (record { terms = record { column = 0; factor = whole 1 } ∷ []; constant = whole 0 });
}

-- one real state keeps its value
abbrev pub example : Program
example = record { system = codes "p"; names = kept_name ∷ []; items = kept_item ∷ []; weight = 1 }

-- ---- two auxiliaries
-- a real name with the box from 0 to the number
abbrev pub real_name : List ℕ → Role → Number → Name
real_name text role high = record {
  text = text;
  role = role;
  kind = Real;
  place = start;
  bounds = record { low = whole 0; high = high };
  value = whole 0;
}

-- a term and a constant
abbrev pub one_term : ℕ → Number → Number → Affine
one_term column factor constant = record {
  terms = record { column = column; factor = factor } ∷ [];
  constant = constant;
}

-- the item that defines the name
abbrev pub item_of : ℕ → Body → ProgItem
item_of n body = record { name = Some n; place = start; body = body }

-- the state x, 0 to 10, keeps its value; z is w + 1, and w is twice the name at the place, of x, z, w
abbrev pub crossed : ℕ → Program
crossed c = record {
  system = codes "p";
  names =
      real_name (codes "x") State (whole 10) ∷
      real_name (codes "z") Aux (whole 0) ∷
      real_name (codes "w") Aux (whole 0) ∷ [];
  items =
      item_of 1 (Linear (one_term 2 (whole 1) (whole 1))) ∷
      item_of 2 (Linear (one_term c (whole 2) (whole 0))) ∷
      item_of 0 (NextReal (one_term 0 (whole 1) (whole 0))) ∷ [];
  weight = 3;
}
