-- The rules on kinds, places, constants, left names and affine forms; boxes; definitions.
use Rattle.std.specs.Prelude.{◌≡◌, ℕ, List, [], ◌∷◌, ◌++◌, Option, Some, None, Bool, true, false, ◌&&◌, ◌||◌, not, ◌⊎◌, map, IsTrue}
use Rattle.std.specs.Str.{bytes_eq}
use Rattle.std.specs.List.{AllByRecursion, list_any, count_by, filter}
use Rattle.hys_number.specs.Number.{Number}
use Rattle.hys_number.specs.Ops.{◌≤ₙ◌, ◌<ₙ◌, whole}
use Rattle.hys_ast.specs.declared.tree.UnaryOp.{UnaryOp}
use Rattle.hys_ast.specs.declared.tree.UnaryOp.TheVariants as unary
use Rattle.hys_ast.specs.declared.tree.BinaryOp.{BinaryOp}
use Rattle.hys_ast.specs.declared.tree.BinaryOp.TheVariants as binary
use Rattle.hys_ast.specs.declared.source.Section.{Section}
use Rattle.hys_ast.specs.declared.source.Section.TheVariants as section
use Rattle.hys_ast.specs.declared.source.Kind.{Kind}
use Rattle.hys_ast.specs.declared.source.Kind.TheVariants as kind
use Rattle.hys_ast.specs.Tree.{Tree, Decl, Item, Source}
use Rattle.hys_ast.specs.Tree as tree
use Rattle.hys_meaning.specs.Values.{Assignment, value}
use Rattle.hys_meaning.specs.Names.{Name, names, name_of, parameters, look, is_state, is_input, is_output, is_parameter, is_auxiliary}
use Rattle.hys_meaning.specs.Forms.{form, Folds}
use Rattle.hys_meaning.specs.Unfolded.{is_inequality}
use Rattle.hys_meaning.specs.Bodies.{Body}
use Rattle.hys_meaning.specs.Bodies as body

-- ---- kinds
abbrev pub is_real : Kind → Bool
is_real kind.Real = true
is_real kind.Bool = false

abbrev pub is_bool : Kind → Bool
is_bool kind.Real = false
is_bool kind.Bool = true

-- a declared name of the kind, which is no OUTPUT name
abbrev pub may_stand : (Kind → Bool) → Option Name → Bool
may_stand test (Some n) = test n.kind && not (is_output n.section)
may_stand test None = false

abbrev pub is_sign : UnaryOp → Bool
is_sign unary.Not = false
is_sign unary.Neg = true
is_sign unary.Plus = true

abbrev pub is_negation : UnaryOp → Bool
is_negation unary.Not = true
is_negation unary.Neg = false
is_negation unary.Plus = false

abbrev pub is_connective : BinaryOp → Bool
is_connective binary.Add = false
is_connective binary.Sub = false
is_connective binary.Mul = false
is_connective binary.Div = false
is_connective binary.And = true
is_connective binary.Or = true
is_connective binary.Iff = true
is_connective binary.Then = true
is_connective binary.From = true
is_connective binary.Most = false
is_connective binary.Least = false
is_connective binary.Equal = false

-- a real expression over the names, which folds to an affine form
abbrev pub IsReal : List Name → Tree → Type 0
IsReal ns (tree.Number text p) = Unit {0}
IsReal ns (tree.Name n p) = IsTrue (may_stand is_real (look ns n))
IsReal ns (tree.Truth b p) = ⊥
IsReal ns (tree.Cast n p) = IsTrue (may_stand is_bool (look ns n))
IsReal ns (tree.Unary op a p) = IsTrue (is_sign op) × IsReal ns a
IsReal ns (tree.Binary op a b p) = IsReal ns a × IsReal ns b × Folds op (form ns a) (form ns b)

-- a formula over the names
abbrev pub IsFormula : List Name → Tree → Type 0
IsFormula ns (tree.Number text p) = ⊥
IsFormula ns (tree.Name n p) = IsTrue (may_stand is_bool (look ns n))
IsFormula ns (tree.Truth b p) = Unit {0}
IsFormula ns (tree.Cast n p) = ⊥
IsFormula ns (tree.Unary op a p) = IsTrue (is_negation op) × IsFormula ns a
IsFormula ns (tree.Binary op a b p) = IsTrue (is_connective op) × IsFormula ns a × IsFormula ns b

abbrev pub IsOfKind : Kind → List Name → Tree → Type 0
IsOfKind kind.Real ns e = IsReal ns e
IsOfKind kind.Bool ns e = IsFormula ns e

-- a comparison of two real expressions by one of some signs
abbrev pub IsComparison : (BinaryOp → Bool) → List Name → Tree → Type 0
IsComparison test ns (tree.Number text p) = ⊥
IsComparison test ns (tree.Name n p) = ⊥
IsComparison test ns (tree.Truth b p) = ⊥
IsComparison test ns (tree.Cast n p) = ⊥
IsComparison test ns (tree.Unary op a p) = ⊥
IsComparison test ns (tree.Binary op a b p) = IsTrue (test op) × IsReal ns a × IsReal ns b

abbrev pub is_comparison : BinaryOp → Bool
is_comparison binary.Add = false
is_comparison binary.Sub = false
is_comparison binary.Mul = false
is_comparison binary.Div = false
is_comparison binary.And = false
is_comparison binary.Or = false
is_comparison binary.Iff = false
is_comparison binary.Then = false
is_comparison binary.From = false
is_comparison binary.Most = true
is_comparison binary.Least = true
is_comparison binary.Equal = true

-- ---- declarations
abbrev pub IsMaybe : (Tree → Type 0) → Option Tree → Type 0
IsMaybe P (Some e) = P e
IsMaybe P None = Unit {0}

abbrev pub only_parameters : List Name → List Name
only_parameters ns = filter (λ n. is_parameter n.section) ns

-- values use literals and the parameters declared before, and have their parameter's kind
abbrev pub ValuesTyped : Assignment → List Name → List Decl → Type 0
ValuesTyped w before [] = Unit {0}
ValuesTyped w before (d ∷ ds) = IsMaybe (IsOfKind d.kind (only_parameters before)) d.value × ValuesTyped w (before ++ name_of w d ∷ []) ds

-- bounds use literals and any parameter, and are real
abbrev pub BoxTyped : List Name → Decl → Type 0
BoxTyped ns d = IsMaybe (IsReal (only_parameters ns)) d.low × IsMaybe (IsReal (only_parameters ns)) d.high

-- ---- items
abbrev pub is_left : (Section → Bool) → (Kind → Bool) → Option Name → Bool
is_left part test (Some n) = part n.section && test n.kind
is_left part test None = false

abbrev pub any_kind : Kind → Bool
any_kind k = true

-- the left name suits the section
abbrev pub suits : Section → Option Name → Bool
suits section.State n = false
suits section.Input n = false
suits section.Output n = false
suits section.Parameter n = false
suits section.Aux n = false
suits section.Ad n = is_left is_auxiliary is_bool n
suits section.Da n = is_left is_auxiliary is_real n
suits section.Logic n = is_left is_auxiliary is_bool n
suits section.Linear n = is_left is_auxiliary is_real n
suits section.Automata n = is_left is_state is_bool n
suits section.Continuous n = is_left is_state is_real n
suits section.OutputItem n = is_left is_output any_kind n
suits section.Must n = false

-- the numbers of the parameters, and 0 for any other name
abbrev pub value_or_zero : Option Name → Number
value_or_zero (Some n) = n.value
value_or_zero None = whole 0

abbrev pub settled : List Name → Assignment
settled ns n = value_or_zero (look ns n)

-- a tolerance is constant, real and above 0
abbrev pub IsTolerance : List Name → Tree → Type 0
IsTolerance ns e = IsReal (only_parameters ns) e × (whole 0 <ₙ value (settled ns) e)

abbrev pub IsOfName : List Name → Option Name → Tree → Type 0
IsOfName ns (Some n) e = IsOfKind n.kind ns e
IsOfName ns None e = ⊥

-- the right side suits the section; an output has its declared kind
abbrev pub RightTyped : List Name → Option Name → Body → Type 0
RightTyped ns n (body.Guard e t) = IsComparison is_inequality ns e × IsMaybe (IsTolerance ns) t
RightTyped ns n (body.Choice a b c) = IsFormula ns a × IsReal ns b × IsMaybe (IsReal ns) c
RightTyped ns n (body.Logic e) = IsFormula ns e
RightTyped ns n (body.Linear e) = IsReal ns e
RightTyped ns n (body.NextBool e) = IsFormula ns e
RightTyped ns n (body.NextReal e) = IsReal ns e
RightTyped ns n (body.Output e) = IsOfName ns n e
RightTyped ns n (body.Must e) = IsFormula ns e ⊎ IsComparison is_comparison ns e
RightTyped ns n body.Nothing = ⊥

-- the item demands something, and has no left name
abbrev pub is_demand : Section → Bool
is_demand section.State = false
is_demand section.Input = false
is_demand section.Output = false
is_demand section.Parameter = false
is_demand section.Aux = false
is_demand section.Ad = false
is_demand section.Da = false
is_demand section.Logic = false
is_demand section.Linear = false
is_demand section.Automata = false
is_demand section.Continuous = false
is_demand section.OutputItem = false
is_demand section.Must = true

-- a MUST item has no left name, and each other one has a name that suits its section
abbrev pub LeftTyped : Section → List Name → Option (List ℕ) → Type 0
LeftTyped s ns None = IsTrue (is_demand s)
LeftTyped s ns (Some n) = IsTrue (suits s (look ns n))

-- the declared name at the left of an item
abbrev pub left : List Name → Option (List ℕ) → Option Name
left ns (Some n) = look ns n
left ns None = None

abbrev pub ItemTyped : List Name → Item → Type 0
ItemTyped ns i = LeftTyped i.section ns i.name × RightTyped ns (left ns i.name) (body.body i)

pub record Typed (s : Source) : Type 0 where
  pub values : ValuesTyped (parameters s.decls) [] s.decls
  pub boxes : AllByRecursion (BoxTyped (names s)) s.decls
  pub items : AllByRecursion (ItemTyped (names s)) s.items

-- ---- boxes
abbrev pub has_box : Decl → Bool
has_box d = (is_state d.section || is_input d.section) && is_real d.kind

abbrev pub IsBox : Assignment → Option Tree → Option Tree → Type 0
IsBox w (Some low) (Some high) = value w low ≤ₙ value w high
IsBox w (Some low) None = ⊥
IsBox w None high = ⊥

-- each real state and input has a box, whose low end is at most its high end
abbrev pub Bounded : Source → Type 0
Bounded s = AllByRecursion (λ d. IsTrue (has_box d) → IsBox (parameters s.decls) d.low d.high) s.decls

-- ---- declared and defined once
abbrev pub differ : List (List ℕ) → Bool
differ [] = true
differ (n ∷ ns) = not (list_any (bytes_eq n) ns) && differ ns

-- all declared names differ
abbrev pub DeclaredOnce : Source → Type 0
DeclaredOnce s = IsTrue (differ (map (λ d. d.name) s.decls))

-- each parameter has a value
abbrev pub has_value : Option Tree → Bool
has_value (Some e) = true
has_value None = false

abbrev pub HaveValues : Source → Type 0
HaveValues s = AllByRecursion (λ d. IsTrue (is_parameter d.section) → IsTrue (has_value d.value)) s.decls

abbrev pub defines : List ℕ → Option (List ℕ) → Bool
defines n (Some m) = bytes_eq n m
defines n None = false

abbrev pub is_defined : Section → Bool
is_defined s = is_state s || is_output s || is_auxiliary s

-- each STATE, OUTPUT and AUX name is the left name of exactly one item
abbrev pub DefinedOnce : Source → Type 0
DefinedOnce s = AllByRecursion (λ d. IsTrue (is_defined d.section) → count_by (λ i. defines d.name i.name) s.items ≡ 1) s.decls
