-- The program of a state x from 0 to 10, which keeps its value, and an auxiliary d: whether x is at least 5, with
-- tolerance 1/1000.
use Rattle.std.specs.Prelude.{ℕ, List, [], ◌∷◌, Some, None, codes, negsuc, pos}
use Rattle.hys_number.specs.Number.{Number, make}
use Rattle.hys_number.specs.Ops.{whole}
use Rattle.hys_lin.specs.Sums.{Assignment, at}
use Rattle.hys_lin.specs.Operations.{plus}
use Rattle.hys_lin.specs.declared.lost.Lost.{Lost}
use Rattle.hys_lin.specs.declared.form.Affine.{Affine}
use Rattle.hys_ast.specs.declared.source.Kind.TheVariants.{Real, Bool}
use Rattle.hys_formula.specs.declared.formula.Formula.TheVariants.{Name as Named}
use Rattle.hys_prog.specs.declared.program.Role.TheVariants.{State, Aux}
use Rattle.hys_prog.specs.declared.program.Body.TheVariants.{Guard, NextReal, MustHold}
use Rattle.hys_prog.specs.declared.program.Name.{Name}
use Rattle.hys_prog.specs.declared.program.ProgItem.{ProgItem}
use Rattle.hys_prog.specs.declared.program.Program.{Program}
use Rattle.hys_prog.specs.declared.program.Order.{Order}
use Rattle.hys_prog.specs.Example.{start}

abbrev pub x_name : Name
x_name = record {
  text = codes "x";
  role = State;
  kind = Real;
  place = start;
  bounds = record { low = whole 0; high = whole 10 };
  value = whole 0;
}

abbrev pub d_name : Name
d_name = record {
  text = codes "d";
  role = Aux;
  kind = Bool;
  place = start;
  bounds = record { low = whole 0; high = whole 0 };
  value = whole 0;
}

-- 5 - x
abbrev pub difference : Affine
difference = record { terms = record { column = 0; factor = make (negsuc 0) 1 } ∷ []; constant = whole 5 }

-- x
abbrev pub alone : Affine
alone = record { terms = record { column = 0; factor = whole 1 } ∷ []; constant = whole 0 }

-- d is whether 5 - x is at most 0
abbrev pub d_item : ProgItem
d_item = record { name = Some 1; place = start; body = Guard difference (make (pos 1) 1000) }

-- x stays as it is
abbrev pub x_item : ProgItem
x_item = record { name = Some 0; place = start; body = NextReal alone }

-- d holds
abbrev pub must_item : ProgItem
must_item = record { name = None; place = start; body = MustHold (Named 1) }

abbrev pub program_of : List ProgItem → ℕ → Program
program_of items weight = record {
  system = codes "g";
  names = x_name ∷ d_name ∷ [];
  items = items;
  weight = weight;
}

abbrev pub guarded : Program
guarded = program_of (d_item ∷ x_item ∷ []) 2

-- the same, where d is demanded, and the demand stands first
abbrev pub demanding : Program
demanding = program_of (must_item ∷ d_item ∷ x_item ∷ []) 3

abbrev pub d_first : Order
d_first = record { names = 1 ∷ [] }

-- the assignment of x and d
abbrev pub both : Number → Number → Assignment
both x d = at (x ∷ d ∷ [])

-- 49995/10000 and 4999/1000
abbrev pub in_gap : Number
in_gap = make (pos 9999) 2000

abbrev pub at_tolerance : Number
at_tolerance = make (pos 4999) 1000

-- 1/(2^63 - 1), from which 5 can't be reached
abbrev pub least : Number
least = make (pos 1) 9223372036854775807

abbrev pub minus_least : Number
minus_least = make (negsuc 0) 9223372036854775807

-- 5 less that number
abbrev pub five_less_least : Lost
five_less_least = plus (whole 5) minus_least
