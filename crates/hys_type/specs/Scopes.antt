-- What functions answer of an item in a scope: `names` are the declared names, and a left name and a right side are
-- those of an item of the section.
use Rattle.std.specs.Prelude.{◌≡◌, ◌+◌, ℕ, List, [], ◌∷◌, ◌++◌, Option, Vec, length, map}
use Rattle.std.specs.declared.alloc.Global.{Global}
use Rattle.hys_number.specs.Number.{Number}
use Rattle.hys_lin.specs.declared.form.Affine.{Affine}
use Rattle.hys_ast.specs.declared.place.Place.{Place}
use Rattle.hys_ast.specs.declared.source.Section.{Section}
use Rattle.hys_ast.specs.declared.source.Kind.{Kind}
use Rattle.hys_ast.specs.declared.source.Kind.TheVariants as kind
use Rattle.hys_ast.specs.declared.tree.BinaryOp.{BinaryOp}
use Rattle.hys_ast.specs.declared.tree.BinaryOp.TheVariants as binary
use Rattle.hys_ast.specs.declared.tree.Expr.{Expr}
use Rattle.hys_ast.specs.declared.source.Item.{Item}
use Rattle.hys_ast.specs.Seen.{tree_of, maybe_tree_of, item_of}
use Rattle.hys_ast.specs.Tree.{Tree, Shape}
use Rattle.hys_ast.specs.Tree as tree
use Rattle.hys_formula.specs.Formulas.{FormulaTree}
use Rattle.hys_meaning.specs.Names.{Name}
use Rattle.hys_meaning.specs.Bodies.{body, body_in}
use Rattle.hys_meaning.specs.Bodies as said
use Rattle.hys_meaning.specs.Unfolded.{is_inequality}
use Rattle.hys_meaning.specs.Forms.{form, guard_form, guard_between, combined}
use Rattle.hys_prog.specs.declared.program.Body.{Body}
use Rattle.hys_type.specs.Built.{AreFollowed, IsBuilt, body_comparisons, built, comparisons, setting_of}
use Rattle.hys_type.specs.Checks.{Scope, scoped, expression, has_top, left_checks, left_name, output_checks, right_checks, tolerance_checks, of_kind}
use Rattle.hys_type.specs.Declarations.{if_some}
use Rattle.hys_type.specs.Faults.{Check}
use Rattle.hys_type.specs.Operands.{seen}
use Rattle.hys_type.specs.Translation.{Setting, IsFormOf, left_kind, else_form}
use Rattle.hys_type.specs.declared.built.Guard.{Guard}
use Rattle.hys_type.specs.declared.constant.Known.{Known}
use Rattle.hys_type.specs.declared.scope.Declared.{Declared}

-- ---- scopes
abbrev pub scope_in : List Declared → List Known → Scope
scope_in ds ks = scoped (map seen ds) ks

abbrev pub setting_in : List Declared → List Known → Number → Setting
setting_in ds ks tolerance = setting_of (map seen ds) ks tolerance

-- ---- checks
abbrev pub shape_checks : Scope → Option (List ℕ) → Place → Section → Shape → List Check
shape_checks c n p s r = right_checks c (left_name c.names n) p (body_in s r)

-- of the left name of an item behind others
abbrev pub left_checks_in : List Declared → List Item → Item → List ℕ → List Check
left_checks_in ds before i n = left_checks (map seen ds) (map item_of before) (item_of i) n

-- the same, where it has one
abbrev pub left_name_checks : List Declared → List Item → Item → List Check
left_name_checks ds before i = if_some (left_checks (map seen ds) (map item_of before) (item_of i)) i.name

-- of an output with the left name
abbrev pub output_checks_in : List Declared → Option (List ℕ) → Expr → List Check
output_checks_in ds n e = output_checks (map seen ds) (left_name (map seen ds) n) (tree_of e)

-- of a right side that is one expression
abbrev pub plain_checks : List Declared → List Known → Item → Expr → List Check
plain_checks ds ks i e = shape_checks (scope_in ds ks) i.name i.place i.section (tree.Plain (tree_of e))

-- of a comparison and its tolerance
abbrev pub bracketed_checks : List Declared → List Known → Place → Expr → Expr → List Check
bracketed_checks ds ks p e t =
    expression (map seen ds) (has_top is_inequality) (tree_of e) ++ tolerance_checks ks p (tree_of t)

-- of a right side with a tolerance
abbrev pub wide_checks : List Declared → List Known → Item → Expr → Expr → List Check
wide_checks ds ks i e t = shape_checks (scope_in ds ks) i.name i.place i.section (tree.Wide (tree_of e) (tree_of t))

-- of a condition, a THEN and an ELSE
abbrev pub part_checks : List Declared → Expr → Expr → Option Expr → List Check
part_checks ds e h o =
    of_kind kind.Bool (map seen ds) (tree_of e)
    ++ (of_kind kind.Real (map seen ds) (tree_of h) ++ if_some (of_kind kind.Real (map seen ds)) (maybe_tree_of o))

-- of a right side that is a choice
abbrev pub choice_checks : List Declared → List Known → Item → Expr → Expr → Option Expr → List Check
choice_checks ds ks i e h o =
    shape_checks (scope_in ds ks) i.name i.place i.section (tree.Choice (tree_of e) (tree_of h) (maybe_tree_of o))

-- of the right side of an item
abbrev pub item_right_checks : List Declared → List Known → Item → List Check
item_right_checks ds ks i =
    right_checks (scope_in ds ks) (left_name (map seen ds) i.name) i.place (body (item_of i))

-- ---- formulas
-- whose first unnamed guard stands behind those that there are
abbrev pub built_behind : List Declared → ℕ → Vec Guard Global → Expr → FormulaTree
built_behind ds first gs e = built (map seen ds) (first + length gs.items) (tree_of e)

-- the unnamed guards of a formula follow those before
abbrev pub FollowFormula : List Declared → Vec Guard Global → Expr → Vec Guard Global → Type 0
FollowFormula ds before e after = AreFollowed (map seen ds) before.items (comparisons (tree_of e)) after.items

-- a comparison follows those before
abbrev pub FollowGuard : List Declared → Vec Guard Global → BinaryOp → Expr → Expr → Place → Vec Guard Global → Type 0
FollowGuard ds before op a b p after =
    AreFollowed (map seen ds) before.items (tree.Binary op (tree_of a) (tree_of b) p ∷ []) after.items

-- ---- forms
abbrev pub IsGuardForm : List Name → Tree → Affine → Type 0
IsGuardForm ns e f = IsFormOf ns (guard_form ns e) f

-- of the guard number of a comparison of two expressions
abbrev pub IsFormBetween : List Name → BinaryOp → Tree → Tree → Affine → Type 0
IsFormBetween ns op a b f = IsFormOf ns (guard_between op (form ns a) (form ns b)) f

abbrev pub IsDifference : List Name → Tree → Tree → Affine → Type 0
IsDifference ns a b f = IsFormOf ns (combined binary.Sub (form ns a) (form ns b)) f

abbrev pub IsElseForm : List Name → Option Tree → Affine → Type 0
IsElseForm ns o f = IsFormOf ns (else_form ns o) f

-- ---- bodies
-- whose first unnamed guard is the name at the place
abbrev pub IsShapeBuilt : Setting → ℕ → Option (List ℕ) → Section → Shape → Body → Type 0
IsShapeBuilt c j n s r b = IsBuilt c j (left_kind c.names n) (body_in s r) b

-- the unnamed guards
abbrev pub shape_comparisons : List Name → Option (List ℕ) → Section → Shape → List Tree
shape_comparisons ns n s r = body_comparisons (left_kind ns n) (body_in s r)

-- ---- bodies of items
-- an item's body is built, and its unnamed guards stand behind those that there are
abbrev pub IsBodyIn : List Declared → List Known → Number → ℕ → Vec Guard Global → Item → Body → Type 0
IsBodyIn ds ks tolerance first gs i b =
    IsBuilt (setting_in ds ks tolerance) (first + length gs.items) (left_kind (map seen ds) i.name) (body (item_of i)) b

abbrev pub FollowItem : List Declared → Vec Guard Global → Item → Vec Guard Global → Type 0
FollowItem ds before i after = AreFollowed (map seen ds) before.items
    (body_comparisons (left_kind (map seen ds) i.name) (body (item_of i))) after.items

-- the same of an output whose name has the kind
abbrev pub IsOutputIn : List Declared → List Known → Number → ℕ → Vec Guard Global → Option Kind → Expr → Body → Type 0
IsOutputIn ds ks tolerance first gs k e b =
    IsBuilt (setting_in ds ks tolerance) (first + length gs.items) k (said.Output (tree_of e)) b

abbrev pub FollowOutput : List Declared → Vec Guard Global → Option Kind → Expr → Vec Guard Global → Type 0
FollowOutput ds before k e after =
    AreFollowed (map seen ds) before.items (body_comparisons k (said.Output (tree_of e))) after.items

-- the same of a demand
abbrev pub IsDemandIn : List Declared → List Known → Number → ℕ → Vec Guard Global → Option Kind → Expr → Body → Type 0
IsDemandIn ds ks tolerance first gs k e b =
    IsBuilt (setting_in ds ks tolerance) (first + length gs.items) k (said.Must (tree_of e)) b

abbrev pub FollowDemand : List Declared → Vec Guard Global → Option Kind → Expr → Vec Guard Global → Type 0
FollowDemand ds before k e after =
    AreFollowed (map seen ds) before.items (body_comparisons k (said.Must (tree_of e))) after.items

-- a comparison that is demanded has no unnamed guard
abbrev pub IsComparisonIn : List Declared → List Known → Number → Option Kind → Expr → Body → Type 0
IsComparisonIn ds ks tolerance k e b =
    (j : ℕ) → IsBuilt (setting_in ds ks tolerance) j k (said.Must (tree_of e)) b

-- a right side that is one expression
abbrev pub IsPlainIn : List Declared → List Known → Number → ℕ → Vec Guard Global → Item → Expr → Body → Type 0
IsPlainIn ds ks tolerance first gs i e b =
    IsShapeBuilt (setting_in ds ks tolerance) (first + length gs.items) i.name i.section (tree.Plain (tree_of e)) b

abbrev pub FollowPlain : List Declared → Vec Guard Global → Item → Expr → Vec Guard Global → Type 0
FollowPlain ds before i e after = AreFollowed (map seen ds) before.items
    (shape_comparisons (map seen ds) i.name i.section (tree.Plain (tree_of e))) after.items

-- a comparison with its own tolerance has no unnamed guard
abbrev pub IsWideIn : List Declared → List Known → Number → Item → Expr → Expr → Body → Type 0
IsWideIn ds ks tolerance i e t b =
    (j : ℕ) → IsShapeBuilt (setting_in ds ks tolerance) j i.name i.section (tree.Wide (tree_of e) (tree_of t)) b

abbrev pub HasNoGuard : List Declared → Item → Expr → Expr → Type 0
HasNoGuard ds i e t = shape_comparisons (map seen ds) i.name i.section (tree.Wide (tree_of e) (tree_of t)) ≡ []

-- a choice
abbrev pub choice_of : Expr → Expr → Option Expr → Shape
choice_of e h o = tree.Choice (tree_of e) (tree_of h) (maybe_tree_of o)

abbrev pub IsChoiceIn :
    List Declared → List Known → Number → ℕ → Vec Guard Global → Item → Expr → Expr → Option Expr → Body → Type 0
IsChoiceIn ds ks tolerance first gs i e h o b =
    IsShapeBuilt (setting_in ds ks tolerance) (first + length gs.items) i.name i.section (choice_of e h o) b

abbrev pub FollowChoice :
    List Declared → Vec Guard Global → Item → Expr → Expr → Option Expr → Vec Guard Global → Type 0
FollowChoice ds before i e h o after = AreFollowed (map seen ds) before.items
    (shape_comparisons (map seen ds) i.name i.section (choice_of e h o)) after.items
