-- A small source and its program, written by hand:
--   STATE { REAL x [0, 10]; } PARAMETER { REAL p = 2; BOOL b = TRUE; } AUX { BOOL d; BOOL e; }
--   LOGIC { d = x >= 1; e = b; } CONTINUOUS { x = p * x + 1; } MUST { x <= 3; d; }
-- The comparison in LOGIC has no name, so the program has one name and one item more.
use Rattle.std.specs.Prelude.{◌≡◌, ◌↔◌, ℕ, List, [], ◌∷◌, Some, None, Option, true, codes}
use Rattle.hys_number.specs.Number.{Number}
use Rattle.hys_number.specs.Ops.{whole, neg}
use Rattle.hys_lin.specs.declared.form.Affine.{Affine}
use Rattle.hys_ast.specs.declared.source.Section.{Section}
use Rattle.hys_ast.specs.declared.source.Section.TheVariants as section
use Rattle.hys_ast.specs.declared.source.Kind.{Kind}
use Rattle.hys_ast.specs.declared.source.Kind.TheVariants as kind
use Rattle.hys_ast.specs.declared.tree.BinaryOp.TheVariants as binary
use Rattle.hys_ast.specs.Tree.{Tree, Decl, Item, Source}
use Rattle.hys_ast.specs.Tree as tree
use Rattle.hys_formula.specs.declared.formula.Formula.TheVariants as formula
use Rattle.hys_prog.specs.declared.program.Role.{Role}
use Rattle.hys_prog.specs.declared.program.Role.TheVariants as role
use Rattle.hys_prog.specs.declared.program.Body.{Body}
use Rattle.hys_prog.specs.declared.program.Body.TheVariants as means
use Rattle.hys_prog.specs.declared.program.Name.{Name}
use Rattle.hys_prog.specs.declared.program.ProgItem.{ProgItem}
use Rattle.hys_prog.specs.declared.program.Program.{Program}
use Rattle.hys_type.specs.Examples.{spot, digits, name, zero_at, ten_at, state}
use Rattle.hys_type.specs.Translation.{IsTranslation}

-- ---- the source
abbrev declared : Section → Kind → List ℕ → ℕ → Option Tree → Decl
declared s k n at e = record { section = s; kind = k; name = n; place = spot at; low = None; high = None; value = e }

abbrev said : Section → Option (List ℕ) → ℕ → Tree → Item
said s n at e = record { section = s; name = n; place = spot at; shape = tree.Plain e }

abbrev pub small : Source
small = record {
  system = codes "s";
  decls = state (zero_at 2) (ten_at 3)
      ∷ declared section.Parameter kind.Real (codes "p") 4 (Some (digits (codes "2") 5))
      ∷ declared section.Parameter kind.Bool (codes "b") 6 (Some (tree.Truth true (spot 7)))
      ∷ declared section.Aux kind.Bool (codes "d") 8 None
      ∷ declared section.Aux kind.Bool (codes "e") 9 None
      ∷ [];
  items = said section.Logic (Some (codes "d")) 10 (tree.Binary binary.Least
      (name (codes "x") 11) (digits (codes "1") 13) (spot 12))
      ∷ said section.Logic (Some (codes "e")) 14 (name (codes "b") 15)
      ∷ said section.Continuous (Some (codes "x")) 16 (tree.Binary binary.Add
      (tree.Binary binary.Mul (name (codes "p") 17) (name (codes "x") 19) (spot 18)) (digits (codes "1") 21) (spot 20))
      ∷ said section.Must None 22 (tree.Binary binary.Most (name (codes "x") 22) (digits (codes "3") 24) (spot 23))
      ∷ said section.Must None 25 (name (codes "d") 25)
      ∷ [];
}

-- the same with a name for the comparison
abbrev pub small_by : List ℕ → Source
small_by n = record {
  system = codes "s";
  decls = state (zero_at 2) (ten_at 3)
      ∷ declared section.Parameter kind.Real (codes "p") 4 (Some (digits (codes "2") 5))
      ∷ declared section.Parameter kind.Bool (codes "b") 6 (Some (tree.Truth true (spot 7)))
      ∷ declared section.Aux kind.Bool (codes "d") 8 None
      ∷ declared section.Aux kind.Bool (codes "e") 9 None
      ∷ declared section.Aux kind.Bool n 12 None
      ∷ [];
  items = said section.Ad (Some n) 12 (tree.Binary binary.Least (name (codes "x") 11) (digits (codes "1") 13) (spot 12))
      ∷ said section.Logic (Some (codes "d")) 10 (name n 12)
      ∷ said section.Logic (Some (codes "e")) 14 (name (codes "b") 15)
      ∷ said section.Continuous (Some (codes "x")) 16 (tree.Binary binary.Add
      (tree.Binary binary.Mul (name (codes "p") 17) (name (codes "x") 19) (spot 18)) (digits (codes "1") 21) (spot 20))
      ∷ said section.Must None 22 (tree.Binary binary.Most (name (codes "x") 22) (digits (codes "3") 24) (spot 23))
      ∷ said section.Must None 25 (name (codes "d") 25)
      ∷ [];
}

-- ---- the program
abbrev named : List ℕ → Role → Kind → ℕ → Number → Number → Number → Name
named n r k at low high a =
    record { text = n; role = r; kind = k; place = spot at; bounds = record { low = low; high = high }; value = a }

abbrev item : Option ℕ → ℕ → Body → ProgItem
item n at b = record { name = n; place = spot at; body = b }

-- a factor for x, and a constant
abbrev over_x : Number → Number → Affine
over_x a b = record { terms = record { column = 0; factor = a } ∷ []; constant = b }

-- with a tolerance of the guard, and a factor of x in its next value
abbrev pub small_program : (tolerance factor : Number) → Program
small_program tolerance factor = record {
  system = codes "s";
  names = named (codes "x") role.State kind.Real 1 (whole 0) (whole 10) (whole 0)
      ∷ named (codes "p") role.Parameter kind.Real 4 (whole 0) (whole 0) (whole 2)
      ∷ named (codes "b") role.Parameter kind.Bool 6 (whole 0) (whole 1) (whole 1)
      ∷ named (codes "d") role.Aux kind.Bool 8 (whole 0) (whole 1) (whole 0)
      ∷ named (codes "e") role.Aux kind.Bool 9 (whole 0) (whole 1) (whole 0)
      ∷ named (codes "@1") role.Aux kind.Bool 12 (whole 0) (whole 1) (whole 0)
      ∷ [];
  items = item (Some 5) 12 (means.Guard (over_x (neg (whole 1)) (whole 1)) tolerance)
      ∷ item (Some 3) 10 (means.Logic (formula.Name 5))
      ∷ item (Some 4) 14 (means.Logic (formula.Const true))
      ∷ item (Some 0) 16 (means.NextReal (over_x factor (whole 1)))
      ∷ item None 22 (means.MustMost (over_x (whole 1) (neg (whole 3))))
      ∷ item None 25 (means.MustHold (formula.Name 3))
      ∷ [];
  weight = 6;
}

-- the program is the translation just where its guard has the tolerance, and the factor is the parameter's value
abbrev pub IsSmallJustWhere : Number → Number → Number → Type 0
IsSmallJustWhere tolerance eps factor =
    IsTranslation tolerance small (small_program eps factor) ↔ ((eps ≡ tolerance) × (factor ≡ whole 2))
