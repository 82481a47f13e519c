-- A source with items of every kind, and its program, written by hand:
--   STATE { REAL x [0, 10]; BOOL s; } INPUT { REAL u [0, 1]; } OUTPUT { REAL y; BOOL o; }
--   PARAMETER { REAL p = 2; BOOL b = TRUE; } AUX { REAL z; REAL v; BOOL d; }
--   AD { d = x + u <= p [p + 1]; } DA { z = { IF d & x >= 1 THEN p * x ELSE u }; } LINEAR { v = x - z; }
--   AUTOMATA { s = ~d | b; } CONTINUOUS { x = v + (REAL d); } OUTPUT { y = x / p; o = x <= 5; }
--   MUST { x == u + 1; v >= u; d <-> s; }
-- Two comparisons have no name: that of the IF, and that of the second output.
use Rattle.std.specs.Prelude.{◌≡◌, ℕ, List, [], ◌∷◌, Some, None, Option, true, codes}
use Rattle.hys_number.specs.Number.{Number}
use Rattle.hys_number.specs.Ops.{whole, neg, ◌/ₙ◌}
use Rattle.hys_lin.specs.declared.form.Affine.{Affine}
use Rattle.hys_lin.specs.declared.form.Term.{Term}
use Rattle.hys_ast.specs.declared.source.Section.{Section}
use Rattle.hys_ast.specs.declared.source.Section.TheVariants as section
use Rattle.hys_ast.specs.declared.source.Kind.{Kind}
use Rattle.hys_ast.specs.declared.source.Kind.TheVariants as kind
use Rattle.hys_ast.specs.declared.tree.BinaryOp.{BinaryOp}
use Rattle.hys_ast.specs.declared.tree.BinaryOp.TheVariants as binary
use Rattle.hys_ast.specs.declared.tree.UnaryOp.TheVariants as unary
use Rattle.hys_ast.specs.Tree.{Tree, Shape, Decl, Item, Source}
use Rattle.hys_ast.specs.Tree as tree
use Rattle.hys_formula.specs.declared.formula.Connective.TheVariants as connective
use Rattle.hys_formula.specs.declared.formula.Formula.{Formula}
use Rattle.hys_formula.specs.declared.formula.Formula.TheVariants as formula
use Rattle.hys_formula.specs.Formulas.{FormulaTree, tree_of, constant, named, negated, joined}
use Rattle.hys_prog.specs.declared.program.Role.{Role}
use Rattle.hys_prog.specs.declared.program.Role.TheVariants as role
use Rattle.hys_prog.specs.declared.program.Body.{Body}
use Rattle.hys_prog.specs.declared.program.Body.TheVariants as means
use Rattle.hys_prog.specs.declared.program.Name.{Name}
use Rattle.hys_prog.specs.declared.program.ProgItem.{ProgItem}
use Rattle.hys_prog.specs.declared.program.Program.{Program}
use Rattle.hys_type.specs.Examples.{spot, digits, name}
use Rattle.hys_type.specs.SameMeaning.{Translates}

-- ---- the source
abbrev declared : Section → Kind → List ℕ → ℕ → Option Tree → Option Tree → Option Tree → Decl
declared s k n at low high e =
    record { section = s; kind = k; name = n; place = spot at; low = low; high = high; value = e }

abbrev no_box : Section → Kind → List ℕ → ℕ → Decl
no_box s k n at = declared s k n at None None None

abbrev item : Section → Option (List ℕ) → ℕ → Shape → Item
item s n at r = record { section = s; name = n; place = spot at; shape = r }

abbrev two : BinaryOp → Tree → ℕ → Tree → Tree
two op a at b = tree.Binary op a b (spot at)

abbrev pub in_if : Tree
in_if = two binary.Least (name (codes "x") 33) 34 (digits (codes "1") 35)

abbrev pub in_output : Tree
in_output = two binary.Most (name (codes "x") 70) 71 (digits (codes "5") 72)

-- the declarations, with others behind them
abbrev decls : List Decl → List Decl
decls more =
    declared section.State kind.Real (codes "x") 1 (Some (digits (codes "0") 2)) (Some (digits (codes "10") 3)) None
    ∷ no_box section.State kind.Bool (codes "s") 4
    ∷ declared section.Input kind.Real (codes "u") 5 (Some (digits (codes "0") 6)) (Some (digits (codes "1") 7)) None
    ∷ no_box section.Output kind.Real (codes "y") 8
    ∷ no_box section.Output kind.Bool (codes "o") 9
    ∷ declared section.Parameter kind.Real (codes "p") 10 None None (Some (digits (codes "2") 11))
    ∷ declared section.Parameter kind.Bool (codes "b") 12 None None (Some (tree.Truth true (spot 13)))
    ∷ no_box section.Aux kind.Real (codes "z") 14
    ∷ no_box section.Aux kind.Real (codes "v") 15
    ∷ no_box section.Aux kind.Bool (codes "d") 16
    ∷ more

abbrev ad_item : Item
ad_item = item section.Ad (Some (codes "d")) 20 (tree.Wide
    (two binary.Most (two binary.Add (name (codes "x") 21) 22 (name (codes "u") 23)) 24 (name (codes "p") 25))
    (two binary.Add (name (codes "p") 26) 27 (digits (codes "1") 28)))

-- with the comparison, or its name, in the condition
abbrev da_item : Tree → Item
da_item e = item section.Da (Some (codes "z")) 30 (tree.Choice (two binary.And (name (codes "d") 31) 32 e)
    (two binary.Mul (name (codes "p") 36) 37 (name (codes "x") 38)) (Some (name (codes "u") 39)))

abbrev next_items : List Item → List Item
next_items more =
    item section.Linear (Some (codes "v")) 40
    (tree.Plain (two binary.Sub (name (codes "x") 41) 42 (name (codes "z") 43)))
    ∷ item section.Automata (Some (codes "s")) 50
    (tree.Plain (two binary.Or (tree.Unary unary.Not (name (codes "d") 52) (spot 51)) 53 (name (codes "b") 54)))
    ∷ item section.Continuous (Some (codes "x")) 55
    (tree.Plain (two binary.Add (name (codes "v") 56) 57 (tree.Cast (codes "d") (spot 58))))
    ∷ item section.OutputItem (Some (codes "y")) 60
    (tree.Plain (two binary.Div (name (codes "x") 61) 62 (name (codes "p") 63)))
    ∷ more

-- with the comparison, or its name, as the output
abbrev o_item : Tree → Item
o_item e = item section.OutputItem (Some (codes "o")) 69 (tree.Plain e)

abbrev demands : List Item
demands =
    item section.Must None 80 (tree.Plain
    (two binary.Equal (name (codes "x") 80) 81 (two binary.Add (name (codes "u") 82) 83 (digits (codes "1") 84))))
    ∷ item section.Must None 85 (tree.Plain (two binary.Least (name (codes "v") 85) 86 (name (codes "u") 87)))
    ∷ item section.Must None 88 (tree.Plain (two binary.Iff (name (codes "d") 88) 89 (name (codes "s") 90)))
    ∷ []

abbrev pub rich : Source
rich = record {
  system = codes "r";
  decls = decls [];
  items = ad_item ∷ da_item in_if ∷ next_items (o_item in_output ∷ demands);
}

-- the same with names for the two comparisons
abbrev guard_decl : List ℕ → ℕ → Decl
guard_decl n at = no_box section.Aux kind.Bool n at

abbrev guard_item : List ℕ → ℕ → Tree → Item
guard_item n at e = item section.Ad (Some n) at (tree.Plain e)

abbrev pub rich_by : (n m : List ℕ) → Source
rich_by n m = record {
  system = codes "r";
  decls = decls (guard_decl n 34 ∷ guard_decl m 71 ∷ []);
  items = ad_item ∷ guard_item n 34 in_if ∷ da_item (name n 34)
      ∷ next_items (guard_item m 71 in_output ∷ o_item (name m 71) ∷ demands);
}

-- ---- the program
abbrev called : List ℕ → Role → Kind → ℕ → Number → Number → Number → Name
called n r k at low high a =
    record { text = n; role = r; kind = k; place = spot at; bounds = record { low = low; high = high }; value = a }

abbrev made : Option ℕ → ℕ → Body → ProgItem
made n at b = record { name = n; place = spot at; body = b }

abbrev term : ℕ → Number → Term
term n a = record { column = n; factor = a }

abbrev form : List Term → Number → Affine
form ts a = record { terms = ts; constant = a }

-- the formulas of the choice, of the next s, and of the demand: d & @1, ~d | TRUE, and d <-> s
abbrev pub when_tree : FormulaTree
when_tree = joined connective.And (named 9) (named 10)

abbrev pub next_tree : FormulaTree
next_tree = joined connective.Or (negated (named 9)) (constant true)

abbrev pub demand_tree : FormulaTree
demand_tree = joined connective.Iff (named 9) (named 1)

-- with a tolerance for the guards that have none of their own, and with these formulas
abbrev pub rich_program : Number → (when next demand : Formula) → Program
rich_program tolerance when next demand = record {
  system = codes "r";
  names = called (codes "x") role.State kind.Real 1 (whole 0) (whole 10) (whole 0)
      ∷ called (codes "s") role.State kind.Bool 4 (whole 0) (whole 1) (whole 0)
      ∷ called (codes "u") role.Input kind.Real 5 (whole 0) (whole 1) (whole 0)
      ∷ called (codes "y") role.Output kind.Real 8 (whole 0) (whole 0) (whole 0)
      ∷ called (codes "o") role.Output kind.Bool 9 (whole 0) (whole 1) (whole 0)
      ∷ called (codes "p") role.Parameter kind.Real 10 (whole 0) (whole 0) (whole 2)
      ∷ called (codes "b") role.Parameter kind.Bool 12 (whole 0) (whole 1) (whole 1)
      ∷ called (codes "z") role.Aux kind.Real 14 (whole 0) (whole 0) (whole 0)
      ∷ called (codes "v") role.Aux kind.Real 15 (whole 0) (whole 0) (whole 0)
      ∷ called (codes "d") role.Aux kind.Bool 16 (whole 0) (whole 1) (whole 0)
      ∷ called (codes "@1") role.Aux kind.Bool 34 (whole 0) (whole 1) (whole 0)
      ∷ called (codes "@2") role.Aux kind.Bool 71 (whole 0) (whole 1) (whole 0)
      ∷ [];
  items = made (Some 9) 20 (means.Guard (form (term 0 (whole 1) ∷ term 2 (whole 1) ∷ []) (neg (whole 2))) (whole 3))
      ∷ made (Some 10) 34 (means.Guard (form (term 0 (neg (whole 1)) ∷ []) (whole 1)) tolerance)
      ∷ made (Some 7) 30 (means.Choice when
      (form (term 0 (whole 2) ∷ []) (whole 0)) (form (term 2 (whole 1) ∷ []) (whole 0)))
      ∷ made (Some 8) 40 (means.Linear (form (term 0 (whole 1) ∷ term 7 (neg (whole 1)) ∷ []) (whole 0)))
      ∷ made (Some 1) 50 (means.NextBool next)
      ∷ made (Some 0) 55 (means.NextReal (form (term 8 (whole 1) ∷ term 9 (whole 1) ∷ []) (whole 0)))
      ∷ made (Some 3) 60 (means.OutReal (form (term 0 (whole 1 /ₙ whole 2) ∷ []) (whole 0)))
      ∷ made (Some 11) 71 (means.Guard (form (term 0 (whole 1) ∷ []) (neg (whole 5))) tolerance)
      ∷ made (Some 4) 69 (means.OutBool (formula.Name 11))
      ∷ made None 80 (means.MustZero (form (term 0 (whole 1) ∷ term 2 (neg (whole 1)) ∷ []) (neg (whole 1))))
      ∷ made None 85 (means.MustMost (form (term 2 (whole 1) ∷ term 8 (neg (whole 1)) ∷ []) (whole 0)))
      ∷ made None 88 (means.MustHold demand)
      ∷ [];
  weight = 14;
}

-- the program is the translation where its three formulas have these trees
abbrev pub TranslatesRich : Number → Formula → Formula → Formula → Type 0
TranslatesRich tolerance when next demand =
    tree_of when ≡ when_tree → tree_of next ≡ next_tree → tree_of demand ≡ demand_tree →
    Translates tolerance rich (rich_program tolerance when next demand)
