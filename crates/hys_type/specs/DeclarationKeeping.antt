-- The rules on the declarations of a source, and their checks.
use Rattle.std.specs.Prelude.{◌≤◌, List, [], ◌++◌, map, length, IsTrue}
use Rattle.std.specs.List.{AllByRecursion, list_any}
use Rattle.hys_ast.specs.Tree.{Decl, Source}
use Rattle.hys_meaning.specs.Names.{Name, name_of, names, parameters, is_parameter}
use Rattle.hys_meaning.specs.Unfolded.{unfolded}
use Rattle.hys_meaning.specs.Typed.{differ, has_value, has_box, IsBox, ValuesTyped, BoxTyped, ItemTyped, defines, is_defined}
use Rattle.hys_type.specs.Faults.{Check}
use Rattle.hys_type.specs.Walks.{walk}
use Rattle.hys_type.specs.Written.{IsReadDecl, IsReadItem, NeverTwice}
use Rattle.hys_type.specs.Declarations.{name_checks, value_checks, box_checks, known}

-- the names of declarations, with the values of the parameters
abbrev pub declared_names : List Decl → List Name
declared_names ds = map (name_of (parameters ds)) ds

-- the checks of names, values and boxes
abbrev pub declaration_checks : List Decl → List Check
declaration_checks ds =
    walk name_checks [] ds ++ (walk (value_checks ds) [] ds ++ walk (λ before d. box_checks (known ds ds) d) [] ds)

-- names are declared once and are at most 200, each parameter has a value, values and boxes are typed, and each real
-- state and input has a box whose low end is at most its high end
pub record KeepDeclarations (ds : List Decl) : Type 0 where
  pub once : IsTrue (differ (map (λ d. d.name) ds))
  pub few : length ds ≤ 200
  pub values : AllByRecursion (λ d. IsTrue (is_parameter d.section) → IsTrue (has_value d.value)) ds
  pub values_typed : ValuesTyped (parameters ds) [] ds
  pub boxes_typed : AllByRecursion (BoxTyped (declared_names ds)) ds
  pub bounded : AllByRecursion (λ d. IsTrue (has_box d) → IsBox (parameters ds) d.low d.high) ds

-- ---- a source
-- what is read from a text
pub record IsReadSource (s : Source) : Type 0 where
  pub decls : AllByRecursion IsReadDecl s.decls
  pub items : AllByRecursion IsReadItem s.items

-- The declarations keep their rules, each item and the item of each unnamed guard is typed, no name is defined twice,
-- and each AUX, STATE and OUTPUT name is defined.
pub record KeepsItsRules (s : Source) : Type 0 where
  pub declarations : KeepDeclarations s.decls
  pub typed : AllByRecursion (ItemTyped (names (unfolded s))) (unfolded s).items
  pub once : NeverTwice [] s.items
  pub defined : AllByRecursion
      (λ d. IsTrue (is_defined d.section) → IsTrue (list_any (λ i. defines d.name i.name) s.items)) s.decls
