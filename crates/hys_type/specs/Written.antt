-- How the names of a source, those behind its unnamed guards, and what is known of parameters go together.
use Rattle.std.specs.Prelude.{◌≡◌, ℕ, List, [], ◌∷◌, ◌++◌, Option, Some, None, true, false, IsTrue}
use Rattle.std.specs.List.{AllByRecursion, list_any}
use Rattle.hys_ast.specs.declared.source.Section.TheVariants as section
use Rattle.hys_ast.specs.Tree.{Tree, Decl, Item}
use Rattle.hys_ast.specs.Nodes.{shape_expressions}
use Rattle.hys_meaning.specs.Bodies.{Body}
use Rattle.hys_meaning.specs.Bodies as body
use Rattle.hys_ast.specs.Tree as tree
use Rattle.hys_meaning.specs.Names.{Name, look, is_parameter}
use Rattle.hys_meaning.specs.Unfolded.{Guard, guard_name, is_inequality}
use Rattle.hys_meaning.specs.Typed.{suits, IsComparison, has_box, is_demand, only_parameters, defines}
use Rattle.hys_type.specs.Constants.{find_known, has_number, number_or_zero}
use Rattle.hys_type.specs.declared.constant.Known.{Known}

-- ---- texts
-- the text isn't the name of an unnamed guard
abbrev pub IsNoGuard : List ℕ → Type 0
IsNoGuard n = (k : ℕ) → ¬ (n ≡ guard_name k)

-- no name in the expression is that of an unnamed guard
abbrev pub NamesNoGuard : Tree → Type 0
NamesNoGuard (tree.Number text p) = Unit {0}
NamesNoGuard (tree.Name n p) = IsNoGuard n
NamesNoGuard (tree.Truth b p) = Unit {0}
NamesNoGuard (tree.Cast n p) = IsNoGuard n
NamesNoGuard (tree.Unary op a p) = NamesNoGuard a
NamesNoGuard (tree.Binary op a b p) = NamesNoGuard a × NamesNoGuard b

-- ---- names behind the declared ones
-- a name that isn't that of an unnamed guard is the same among both names
abbrev pub SameNames : List Name → List Name → Type 0
SameNames ns ms = (n : List ℕ) → IsNoGuard n → look ms n ≡ look ns n

-- each of the guards has the name of a Boolean auxiliary
abbrev pub AreNamed : List Name → List Guard → Type 0
AreNamed ms gs = AllByRecursion (λ g. IsTrue (suits section.Ad (look ms (guard_name g.number)))) gs

-- each of the guards compares two real expressions
abbrev pub Compare : List Name → List Guard → Type 0
Compare ms gs = AllByRecursion (λ g. IsComparison is_inequality ms g.comparison) gs

-- ---- what is known of a name
-- a parameter is known with its value, and any other name at most without one
abbrev pub KnownAs : Option Known → Option Name → Type 0
KnownAs (Some x) (Some m) =
    (x.kind ≡ m.kind) × (has_number x.value ≡ true)
    × (number_or_zero x.value ≡ m.value) × (is_parameter m.section ≡ true)
KnownAs (Some x) None = has_number x.value ≡ false
KnownAs None (Some m) = ⊥
KnownAs None None = Unit {0}

abbrev pub AreKnown : List Known → List Name → Type 0
AreKnown ks ps = (n : List ℕ) → KnownAs (find_known ks n) (look ps n)

-- what is found among the first is the same among the others
abbrev pub AreAmong : List Name → List Name → Type 0
AreAmong ps ns = (n : List ℕ) (m : Name) → look ps n ≡ Some m → look ns n ≡ Some m

-- ---- what is read from a text
-- a value stands at parameters alone, and bounds at real states and inputs
abbrev pub IsReadDecl : Decl → Type 0
IsReadDecl d =
    IsNoGuard d.name × (is_parameter d.section ≡ false → d.value ≡ None)
    × (has_box d ≡ false → (d.low ≡ None) × (d.high ≡ None))

-- the right side is one that the section has
abbrev pub HasRight : Body → Type 0
HasRight (body.Guard e t) = Unit {0}
HasRight (body.Choice a b c) = Unit {0}
HasRight (body.Logic e) = Unit {0}
HasRight (body.Linear e) = Unit {0}
HasRight (body.NextBool e) = Unit {0}
HasRight (body.NextReal e) = Unit {0}
HasRight (body.Output e) = Unit {0}
HasRight (body.Must e) = Unit {0}
HasRight body.Nothing = ⊥

-- an item of its section with a left name, but for a demand, and no name in it is that of an unnamed guard
pub record IsReadItem (i : Item) : Type 0 where
  pub right : HasRight (body.body i)
  pub demands : i.name ≡ None → IsTrue (is_demand i.section)
  pub left : (n : List ℕ) → i.name ≡ Some n → IsNoGuard n
  pub names : AllByRecursion NamesNoGuard (shape_expressions i.shape)

-- the names of a source, those with its unnamed guards behind them, and what is known of its parameters
pub record GoTogether (ns ms : List Name) (ks : List Known) : Type 0 where
  pub same : SameNames ns ms
  pub known : AreKnown ks (only_parameters ns)
  pub among : AreAmong (only_parameters ns) ns
  pub still : AreAmong (only_parameters ns) ms
  pub parameters : only_parameters ms ≡ only_parameters ns

-- no item before defines the name
abbrev pub IsFirst : List Item → Option (List ℕ) → Type 0
IsFirst before None = Unit {0}
IsFirst before (Some n) = list_any (λ j. defines n j.name) before ≡ false

-- no item defines a name that one before it defines
abbrev pub NeverTwice : List Item → List Item → Type 0
NeverTwice before [] = Unit {0}
NeverTwice before (i ∷ is) = IsFirst before i.name × NeverTwice (before ++ i ∷ []) is
