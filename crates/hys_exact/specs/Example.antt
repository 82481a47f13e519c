-- The system of the program of a state x and an auxiliary d, whether x is at least 5 with tolerance 1/1000: the guard
-- number 5 - x is from -5 to 5.
use Rattle.std.specs.Prelude.{List, [], ◌∷◌, codes, false, negsuc, pos}
use Rattle.hys_number.specs.Ops.{whole}
use Rattle.hys_number.specs.Number.{make}
use Rattle.hys_lin.specs.declared.form.Row.{Row}
use Rattle.hys_sys.specs.declared.system.ColumnRole.TheVariants.{State, D}
use Rattle.hys_sys.specs.declared.system.Kind2.TheVariants.{Real, Bool}
use Rattle.hys_sys.specs.declared.system.System.{System}
use Rattle.hys_prog.specs.Guarded.{alone}

-- -x + 5 d <= 0
abbrev pub first_row : Row
first_row = record {
  terms = record { column = 0; factor = make (negsuc 0) 1 } ∷ record { column = 1; factor = whole 5 } ∷ [];
  bound = whole 0;
  eq = false;
}

-- x - 5001/1000 d <= 4999/1000
abbrev pub second_row : Row
second_row = record {
  terms = record { column = 0; factor = whole 1 } ∷ record { column = 1; factor = make (negsuc 5000) 1000 } ∷ [];
  bound = make (pos 4999) 1000;
  eq = false;
}

abbrev pub system_of : List Row → System
system_of rows = record {
  name = codes "g";
  columns = record { name = codes "x"; role = State; kind = Real; bounds = record { low = whole 0; high = whole 10 } }
      ∷ record { name = codes "d"; role = D; kind = Bool; bounds = record { low = whole 0; high = whole 1 } } ∷ [];
  next = alone ∷ [];
  outputs = [];
  rows = rows;
  labels = codes "d" ∷ codes "d" ∷ [];
  weight = 2;
}

abbrev pub guard_system : System
guard_system = system_of (first_row ∷ second_row ∷ [])
