-- The checks of declarations pass exactly where these keep their rules and their numbers fit.
use Rattle.std.proofs.Common.{List, [], ◌++◌, flat_map, ◌↔◌}
use Rattle.std.specs.List.{AllByRecursion}
use Rattle.hys_ast.specs.Tree.{Decl}
use Rattle.hys_meaning.specs.Folding.{value_of, bounds_of}
use Rattle.hys_type.specs.Declarations.{name_checks, value_checks}
use Rattle.hys_type.specs.Walks.{walk}
use Rattle.hys_type.specs.DeclarationKeeping.{declared_names, declaration_checks, KeepDeclarations}
use Rattle.hys_type.specs.Written.{IsReadDecl}
use Rattle.hys_type.proofs.Passing.{Pass, pass_join, pass_front, pass_behind}
use Rattle.hys_type.proofs.DeclaredRules.{names_rule}
use Rattle.hys_type.proofs.ValueRules.{FitOf, fit_of_join, fit_of_split, values_rule, boxes_rule}

pub declarations_rule : (ds : List Decl) → AllByRecursion IsReadDecl ds → Pass (declaration_checks ds) ↔ (KeepDeclarations ds × FitOf (declared_names ds) (flat_map value_of ds ++ flat_map bounds_of ds))
declarations_rule ds r = (there, back)
  where
    there : Pass (declaration_checks ds) → KeepDeclarations ds × FitOf (declared_names ds) (flat_map value_of ds ++ flat_map bounds_of ds)
    there c =
        let n = (names_rule ds).0 (pass_front (walk name_checks [] ds) _ c) in
        let d = pass_behind (walk name_checks [] ds) _ c in
        let v = (values_rule ds n.0 r).0 (pass_front (walk (value_checks ds) [] ds) _ d) in
        let b = (boxes_rule ds n.0 r v.0).0 (pass_behind (walk (value_checks ds) [] ds) _ d) in
        (record { once = n.0; few = n.1; values = v.0; values_typed = v.1; boxes_typed = b.0; bounded = b.1 }, fit_of_join (declared_names ds) (flat_map value_of ds) (flat_map bounds_of ds) v.2 b.2)

    back : KeepDeclarations ds × FitOf (declared_names ds) (flat_map value_of ds ++ flat_map bounds_of ds) → Pass (declaration_checks ds)
    back t =
        let k : KeepDeclarations ds = t.0 in
        let f = fit_of_split (declared_names ds) (flat_map value_of ds) (flat_map bounds_of ds) t.1 in
        pass_join (walk name_checks [] ds) _ ((names_rule ds).1 (k.once, k.few))
        (pass_join (walk (value_checks ds) [] ds) _ ((values_rule ds k.once r).1 (k.values, k.values_typed, f.0)) ((boxes_rule ds k.once r k.values).1 (k.boxes_typed, k.bounded, f.1)))
