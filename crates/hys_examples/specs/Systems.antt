-- The systems of three of the sources.
use Rattle.std.specs.Prelude.{ℕ, List, [], ◌∷◌, codes, pos, false}
use Rattle.hys_number.specs.Number.{Number, make}
use Rattle.hys_number.specs.Ops.{whole, neg}
use Rattle.hys_lin.specs.declared.form.Term.{Term}
use Rattle.hys_lin.specs.declared.form.Row.{Row}
use Rattle.hys_sys.specs.declared.system.ColumnRole.{ColumnRole}
use Rattle.hys_sys.specs.declared.system.ColumnRole.TheVariants.{State, Input, D}
use Rattle.hys_sys.specs.declared.system.Kind2.TheVariants.{Real, Bool}
use Rattle.hys_sys.specs.declared.system.Column.{Column}
use Rattle.hys_sys.specs.declared.system.System.{System}

abbrev pub real_column : List ℕ → ColumnRole → ℕ → ℕ → Column
real_column n role low high = record { name = n; role = role; kind = Real; bounds = record { low = whole low; high = whole high } }

abbrev pub bool_column : List ℕ → ColumnRole → Column
bool_column n role = record { name = n; role = role; kind = Bool; bounds = record { low = whole 0; high = whole 1 } }

abbrev pub term : ℕ → Number → Term
term column factor = record { column = column; factor = factor }

-- the sum of the terms is at most the bound
abbrev pub at_most : List Term → Number → Row
at_most terms bound = record { terms = terms; bound = bound; eq = false }

-- x + 3a + 2b is the next x, and 3a + 2b is at most 4
abbrev pub casting_system : System
casting_system = record {
  name = codes "b";
  columns = real_column (codes "x") State 0 10 ∷ bool_column (codes "a") Input ∷ bool_column (codes "b") Input ∷ [];
  next = record { terms = term 0 (whole 1) ∷ term 1 (whole 3) ∷ term 2 (whole 2) ∷ []; constant = whole 0 } ∷ [];
  outputs = [];
  rows = at_most (term 1 (whole 3) ∷ term 2 (whole 2) ∷ []) (whole 4) ∷ [];
  labels = codes "must 1:145" ∷ [];
  weight = 4;
}

-- x stays, and d is 1 where x is at least 5, and 0 where it is at most 5 less the tolerance
abbrev pub guarded_system : System
guarded_system = record {
  name = codes "g";
  columns = real_column (codes "x") State 0 10 ∷ bool_column (codes "d") D ∷ [];
  next = record { terms = term 0 (whole 1) ∷ []; constant = whole 0 } ∷ [];
  outputs = [];
  rows =
      at_most (term 0 (neg (whole 1)) ∷ term 1 (whole 5) ∷ []) (whole 0)
      ∷ at_most (term 0 (whole 1) ∷ term 1 (neg (make (pos 5001) 1000)) ∷ []) (make (pos 4999) 1000) ∷ [];
  labels = codes "d" ∷ codes "d" ∷ [];
  weight = 2;
}

-- x within 0 and 10, u within -1 and 1, and the next x is their sum
abbrev pub summed_system : System
summed_system = record {
  name = codes "s";
  columns = real_column (codes "x") State 0 10
      ∷ record { name = codes "u"; role = Input; kind = Real; bounds = record { low = neg (whole 1); high = whole 1 } } ∷ [];
  next = record { terms = term 0 (whole 1) ∷ term 1 (whole 1) ∷ []; constant = whole 0 } ∷ [];
  outputs = [];
  rows = [];
  labels = [];
  weight = 2;
}
