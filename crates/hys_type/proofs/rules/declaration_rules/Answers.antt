use Rattle.std.proofs.Common.{◌++◌, flat_map}
use Rattle.hys_meaning.specs.Folding.{numbers_of, value_of, bounds_of}
use Rattle.hys_type.specs.DeclarationKeeping.{declared_names, declaration_checks}
use Rattle.hys_type.proofs.Passing.{none_passes, passes_none, none_fit, fit_none}
use Rattle.hys_type.proofs.DeclarationRules.{declarations_rule}
use Rattle.hys_type.proofs.rules.declaration_rules.Goals as goal

pub returns : goal.returns
returns c = λ ds r. (
  λ f. let t = (declarations_rule ds r).0 (none_passes (declaration_checks ds) f) in (t.0, fit_none (flat_map (numbers_of (declared_names ds)) (flat_map value_of ds ++ flat_map bounds_of ds)) t.1),
  λ t. passes_none (declaration_checks ds) ((declarations_rule ds r).1 (t.0, none_fit (flat_map (numbers_of (declared_names ds)) (flat_map value_of ds ++ flat_map bounds_of ds)) t.1)),
)
