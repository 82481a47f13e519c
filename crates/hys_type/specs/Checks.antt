-- The checks of a source, in the order in which a fault counts: the fault of a source is that of the first check
-- that fails. It says what is checked, never how.
use Rattle.std.specs.Prelude.{ℕ, List, [], ◌∷◌, ◌++◌, Option, Some, None, Bool, true, false, not, cond, map}
use Rattle.std.specs.List.{list_any, AllByRecursion}
use Rattle.std.specs.declared.cmp.Ordering.{Ordering}
use Rattle.std.specs.declared.cmp.Ordering.TheVariants.{Less, Equal, Greater}
use Rattle.hys_number.specs.Number.{Number}
use Rattle.hys_number.specs.Ops.{whole}
use Rattle.hys_frac.specs.Compare.{number_cmp}
use Rattle.hys_ast.specs.declared.place.Place.{Place}
use Rattle.hys_ast.specs.declared.tree.BinaryOp.{BinaryOp}
use Rattle.hys_ast.specs.declared.source.Kind.{Kind}
use Rattle.hys_ast.specs.declared.source.Kind.TheVariants as kind
use Rattle.hys_ast.specs.Tree.{Tree, Decl, Shape, Item, Source}
use Rattle.hys_ast.specs.Tree as tree
use Rattle.hys_meaning.specs.Values.{value}
use Rattle.hys_meaning.specs.Names.{Name, name_of, parameters, look}
use Rattle.hys_meaning.specs.Bodies.{Body, body}
use Rattle.hys_meaning.specs.Bodies as body
use Rattle.hys_meaning.specs.Unfolded.{is_inequality}
use Rattle.hys_meaning.specs.Typed.{is_comparison, suits, defines, is_defined}
use Rattle.hys_type.specs.Sorts.{is_bool}
use Rattle.hys_type.specs.Constants.{known_values, HasLiterals}
use Rattle.hys_type.specs.Nodes.{is_declared, sort, node_checks}
use Rattle.hys_type.specs.Walks.{walk}
use Rattle.hys_type.specs.Declarations.{name_checks, place_of, is_of_kind, constant_of_kind, if_some, known, value_checks, box_checks, HaveLiterals, HasValueLiterals, HasBoundLiterals}
use Rattle.hys_type.specs.Faults.{Check, check, first_fault}
use Rattle.hys_type.specs.declared.constant.Known.{Known}
use Rattle.hys_type.specs.declared.fault.TypeFault.{TypeFault}
use Rattle.hys_type.specs.declared.fault.TypeFault.TheVariants as fault

-- ---- items
-- what an item may name: the declared names, and what its tolerance knows
pub record Scope : Type 0 where
  pub names : List Name
  pub known : List Known

abbrev pub scoped : List Name → List Known → Scope
scoped ns ks = record { names = ns; known = ks }

-- the left name is declared, suits the section, and no item before defines it
abbrev pub left_checks : List Name → List Item → Item → List ℕ → List Check
left_checks ns before i n =
    check (is_declared (look ns n)) (fault.Unknown i.place)
    ∷ check (suits i.section (look ns n)) (fault.WrongSection i.place)
    ∷ check (not (list_any (λ j. defines n j.name) before)) (fault.DefinedTwice i.place) ∷ []

-- an expression whose top node suits its place
abbrev pub expression : List Name → (Tree → Bool) → Tree → List Check
expression ns wanted e = node_checks ns e ++ check (wanted e) (fault.Kind (place_of e)) ∷ []

abbrev pub of_kind : Kind → List Name → Tree → List Check
of_kind k ns e = expression ns (λ e. is_of_kind k (sort ns e)) e

-- the top node is an operator of these
abbrev pub has_top : (BinaryOp → Bool) → Tree → Bool
has_top test (tree.Number text p) = false
has_top test (tree.Name n p) = false
has_top test (tree.Truth b p) = false
has_top test (tree.Cast n p) = false
has_top test (tree.Unary op a p) = false
has_top test (tree.Binary op a b p) = test op

abbrev pub is_less : Ordering → Bool
is_less Less = true
is_less Equal = false
is_less Greater = false

-- a number above 0
abbrev pub above_zero_checks : Number → Place → List Check
above_zero_checks a p = check (is_less (number_cmp (whole 0) a)) (fault.Tolerance p a) ∷ []

-- a tolerance is real and constant, and above 0
abbrev pub tolerance_checks : List Known → Place → Tree → List Check
tolerance_checks ks p e =
    constant_of_kind kind.Real ks e
    ++ check (is_less (number_cmp (whole 0) (value (known_values ks) e)))
    (fault.Tolerance p (value (known_values ks) e)) ∷ []

-- an output has its declared kind
abbrev pub output_checks : List Name → Option Name → Tree → List Check
output_checks ns (Some n) e = of_kind n.kind ns e
output_checks ns None e = []

-- a comparison or a formula may be demanded
abbrev pub demanded : List Name → Tree → Bool
demanded ns e = cond (has_top is_comparison e) true (is_bool (sort ns e))

abbrev pub left_name : List Name → Option (List ℕ) → Option Name
left_name ns (Some n) = look ns n
left_name ns None = None

-- the expressions of an item in the order of the text
abbrev pub right_checks : Scope → Option Name → Place → Body → List Check
right_checks c n p (body.Guard e t) =
    expression c.names (has_top is_inequality) e ++ if_some (tolerance_checks c.known p) t
right_checks c n p (body.Choice a b o) =
    of_kind kind.Bool c.names a ++ (of_kind kind.Real c.names b ++ if_some (of_kind kind.Real c.names) o)
right_checks c n p (body.Logic e) = of_kind kind.Bool c.names e
right_checks c n p (body.Linear e) = of_kind kind.Real c.names e
right_checks c n p (body.NextBool e) = of_kind kind.Bool c.names e
right_checks c n p (body.NextReal e) = of_kind kind.Real c.names e
right_checks c n p (body.Output e) = output_checks c.names n e
right_checks c n p (body.Must e) = expression c.names (demanded c.names) e
right_checks c n p body.Nothing = []

abbrev pub item_checks : Scope → List Item → Item → List Check
item_checks c before i =
    if_some (left_checks c.names before i) i.name ++ right_checks c (left_name c.names i.name) i.place (body i)

-- an AUX, STATE or OUTPUT name is defined by an item
abbrev pub missing_checks : List Item → Decl → List Check
missing_checks is d =
    cond (is_defined d.section) (check (list_any (λ i. defines d.name i.name) is) (fault.Missing d.name) ∷ []) []

-- ---- the whole
-- what items may name behind these declarations
abbrev pub scope_by : List Decl → Scope
scope_by ds = record { names = map (name_of (parameters ds)) ds; known = known ds ds }

abbrev pub scope : Source → Scope
scope s = scope_by s.decls

-- Declarations; values of parameters; boxes; items; names that no item defines: each in the order of the source.
abbrev pub checks : Source → List Check
checks s =
    walk name_checks [] s.decls
    ++ (walk (value_checks s.decls) [] s.decls
    ++ (walk (λ before d. box_checks (known s.decls s.decls) d) [] s.decls
    ++ (walk (item_checks (scope s)) [] s.items
    ++ walk (λ before d. missing_checks s.items d) [] s.decls)))

-- the fault of a source, where it has one
abbrev pub fault_of : Source → Option TypeFault
fault_of s = first_fault (checks s)

-- items, and then the names that no item defines
abbrev pub use_checks : List Decl → List Item → List Check
use_checks ds is = walk (item_checks (scope_by ds)) [] is ++ walk (λ before d. missing_checks is d) [] ds

-- ---- literals
abbrev pub HaveShapeLiterals : Shape → Type 0
HaveShapeLiterals (tree.Plain e) = HasLiterals e
HaveShapeLiterals (tree.Wide e t) = HasLiterals e × HasLiterals t
HaveShapeLiterals (tree.Choice a b o) = HasLiterals a × (HasLiterals b × HaveLiterals o)

abbrev pub HasItemLiterals : Item → Type 0
HasItemLiterals i = HaveShapeLiterals i.shape

-- each literal of the source is read as what it is
pub record HasSourceLiterals (s : Source) : Type 0 where
  pub values : AllByRecursion HasValueLiterals s.decls
  pub bounds : AllByRecursion HasBoundLiterals s.decls
  pub items : AllByRecursion HasItemLiterals s.items

-- the checks of declarations and items; the name of the system has none
abbrev pub checks_by : List Decl → List Item → List Check
checks_by ds is = checks (record { system = []; decls = ds; items = is })
