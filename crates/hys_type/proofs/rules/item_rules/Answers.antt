use Rattle.std.proofs.Common.{[], flat_map}
use Rattle.hys_ast.specs.Nodes.{items_expressions}
use Rattle.hys_meaning.specs.Folding.{numbers_of}
use Rattle.hys_type.specs.Walks.{walk}
use Rattle.hys_type.specs.Checks.{scoped, item_checks}
use Rattle.hys_type.proofs.Passing.{none_passes, passes_none, none_fit, fit_none}
use Rattle.hys_type.proofs.ItemRules.{items_rule}
use Rattle.hys_type.proofs.rules.item_rules.Goals as goal

pub returns : goal.returns
returns c = λ ns ms ks g is k r q. (
  λ f. let t = (items_rule ns ms ks g is k r q).0 (none_passes (walk (item_checks (scoped ns ks)) [] is) f) in (t.0, t.1, fit_none (flat_map (numbers_of ns) (items_expressions is)) t.2),
  λ t. passes_none (walk (item_checks (scoped ns ks)) [] is) ((items_rule ns ms ks g is k r q).1 (t.0, t.1, none_fit (flat_map (numbers_of ns) (items_expressions is)) t.2)),
)
