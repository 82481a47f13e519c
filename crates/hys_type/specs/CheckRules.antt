-- That checks pass exactly where rules hold: of an expression, of declarations, of items and of a whole source.
use Rattle.std.specs.Prelude.{◌≡◌, ◌↔◌, ◌⊎◌, ◌≤◌, ℕ, List, [], ◌++◌, None, length, flat_map}
use Rattle.std.specs.List.{AllByRecursion}
use Rattle.hys_ast.specs.Tree.{Tree, Decl, Item, Source}
use Rattle.hys_ast.specs.Nodes.{items_expressions}
use Rattle.hys_ast.specs.declared.source.Kind.{Kind}
use Rattle.hys_meaning.specs.Names.{Name}
use Rattle.hys_meaning.specs.Folding.{first_unfit, numbers_of, value_of, bounds_of, folded}
use Rattle.hys_meaning.specs.Unfolded.{named, named_below, named_items, behind, unfolded, is_inequality}
use Rattle.hys_meaning.specs.Typed.{IsOfKind, IsFormula, IsComparison, ItemTyped, is_comparison}
use Rattle.hys_type.specs.Faults.{first_fault}
use Rattle.hys_type.specs.Rules.{KeepsTyping}
use Rattle.hys_type.specs.Declarations.{constant_of_kind}
use Rattle.hys_type.specs.Checks.{fault_of, of_kind, expression, has_top, demanded, scoped, item_checks}
use Rattle.hys_type.specs.Walks.{walk}
use Rattle.hys_type.specs.Written.{NamesNoGuard, AreNamed, Compare, IsReadItem, NeverTwice}
use Rattle.hys_type.specs.DeclarationKeeping.{declared_names, declaration_checks, KeepDeclarations}
use Rattle.hys_type.specs.declared.constant.Known.{Known}

-- ---- expressions
-- a constant is of its kind among the parameters, and the numbers fit
abbrev pub ConstantRule : List Known → List Name → List Name → Type 0
ConstantRule ks ps ns = (k : Kind) (e : Tree) →
    (first_fault (constant_of_kind k ks e) ≡ None) ↔ (IsOfKind k ps e × (first_unfit (numbers_of ns e) ≡ None))

-- an expression is of its kind, once its guards have their names
abbrev pub KindRule : List Name → List Name → Type 0
KindRule ns ms = (n : ℕ) (e : Tree) → NamesNoGuard e → AreNamed ms (named n e).guards → (k : Kind) →
    (first_fault (of_kind k ns e) ≡ None) ↔
    (Compare ms (named n e).guards × IsOfKind k ms (named n e).part × (first_unfit (numbers_of ns e) ≡ None))

-- a guard is a comparison by `<=` or `>=`
abbrev pub GuardRule : List Name → List Name → Type 0
GuardRule ns ms = (n : ℕ) (e : Tree) → NamesNoGuard e → AreNamed ms (named_below n e).guards →
    (first_fault (expression ns (has_top is_inequality) e) ≡ None) ↔
    (Compare ms (named_below n e).guards
    × IsComparison is_inequality ms (named_below n e).part
    × (first_unfit (numbers_of ns e) ≡ None))

-- a demand is a formula or a comparison
abbrev pub DemandRule : List Name → List Name → Type 0
DemandRule ns ms = (n : ℕ) (e : Tree) → NamesNoGuard e → AreNamed ms (named_below n e).guards →
    (first_fault (expression ns (demanded ns) e) ≡ None) ↔
    (Compare ms (named_below n e).guards
    × (IsFormula ms (named_below n e).part ⊎ IsComparison is_comparison ms (named_below n e).part)
    × (first_unfit (numbers_of ns e) ≡ None))

-- ---- a source
-- declarations keep their rules, and the numbers of values and boxes fit
abbrev pub DeclarationRule : List Decl → Type 0
DeclarationRule ds = (first_fault (declaration_checks ds) ≡ None) ↔
    (KeepDeclarations ds
    × (first_unfit (flat_map (numbers_of (declared_names ds)) (flat_map value_of ds ++ flat_map bounds_of ds)) ≡ None))

-- no name is defined twice, each item and that of each guard is typed, and the numbers fit
abbrev pub ItemRule : List Name → List Name → List Known → Type 0
ItemRule ns ms ks = (is : List Item) (k : ℕ) → AllByRecursion IsReadItem is →
    AreNamed ms (flat_map (λ u. u.guards) (named_items k is)) →
    (first_fault (walk (item_checks (scoped ns ks)) [] is) ≡ None) ↔
    (NeverTwice [] is
    × AllByRecursion (ItemTyped ms) (flat_map behind (named_items k is))
    × (first_unfit (flat_map (numbers_of ns) (items_expressions is)) ≡ None))

-- the unfolded source keeps the rules of typing, there are at most 200 names, and the numbers fit
abbrev pub TypingRule : Source → Type 0
TypingRule s =
    (fault_of s ≡ None) ↔ (KeepsTyping (unfolded s) × (length s.decls ≤ 200) × (first_unfit (folded s) ≡ None))
