-- A system whose names partly begin with `#`: a state x within 0 and 10 and a Boolean state, a real and a Boolean input,
-- a fresh column, and an output. Its weight leaves room for 30 steps.
use Rattle.std.specs.Prelude.{ℕ, List, [], ◌∷◌, false, codes}
use Rattle.hys_number.specs.Number.{Number}
use Rattle.hys_number.specs.Ops.{whole, neg}
use Rattle.hys_lin.specs.declared.form.Affine.{Affine}
use Rattle.hys_lin.specs.declared.form.Row.{Row}
use Rattle.hys_relax.specs.Worked.{term}
use Rattle.hys_sys.specs.declared.system.ColumnRole.{ColumnRole}
use Rattle.hys_sys.specs.declared.system.ColumnRole.TheVariants.{State, Input, D}
use Rattle.hys_sys.specs.declared.system.Kind2.{Kind2}
use Rattle.hys_sys.specs.declared.system.Kind2.TheVariants.{Real, Bool}
use Rattle.hys_sys.specs.declared.system.Column.{Column}
use Rattle.hys_sys.specs.declared.system.Output.{Output}
use Rattle.hys_sys.specs.declared.system.System.{System}

abbrev pub column_of : List ℕ → ColumnRole → Kind2 → Number → Number → Column
column_of name role kind low high = record {
  name = name;
  role = role;
  kind = kind;
  bounds = record { low = low; high = high };
}

abbrev pub x_column : Column
x_column = column_of (codes "x") State Real (whole 0) (whole 10)

abbrev pub s_column : Column
s_column = column_of (codes "#s") State Bool (whole 0) (whole 1)

abbrev pub u_column : Column
u_column = column_of (codes "u") Input Real (neg (whole 1)) (whole 1)

abbrev pub a_column : Column
a_column = column_of (codes "a") Input Bool (whole 0) (whole 1)

abbrev pub fresh_column : Column
fresh_column = column_of (codes "#1") D Bool (whole 0) (whole 1)

abbrev pub sample_columns : List Column
sample_columns = x_column ∷ s_column ∷ u_column ∷ a_column ∷ fresh_column ∷ []

-- x + u - 2 a + 1, and the fresh column
abbrev pub next_x : Affine
next_x = record { terms = term 0 (whole 1) ∷ term 2 (whole 1) ∷ term 3 (neg (whole 2)) ∷ []; constant = whole 1 }

abbrev pub next_s : Affine
next_s = record { terms = term 4 (whole 1) ∷ []; constant = whole 0 }

-- 2 x + u + 5
abbrev pub sample_output : Output
sample_output = record {
  name = codes "#y";
  kind = Real;
  form = record { terms = term 0 (whole 2) ∷ term 2 (whole 1) ∷ []; constant = whole 5 };
}

-- x - 5 times the fresh column is at most 4
abbrev pub sample_row : Row
sample_row = record { terms = term 0 (whole 1) ∷ term 4 (neg (whole 5)) ∷ []; bound = whole 4; eq = false }

abbrev pub sample_system : System
sample_system = record {
  name = codes "t";
  columns = sample_columns;
  next = next_x ∷ next_s ∷ [];
  outputs = sample_output ∷ [];
  rows = sample_row ∷ [];
  labels = codes "d" ∷ [];
  weight = 20;
}
