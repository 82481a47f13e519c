use Rattle.hys_meaning.specs.Folding.{numbers_of}
use Rattle.hys_meaning.specs.Unfolded.{is_inequality}
use Rattle.hys_type.specs.Declarations.{constant_of_kind}
use Rattle.hys_type.specs.Checks.{of_kind, expression, has_top, demanded}
use Rattle.hys_type.proofs.Passing.{none_passes, passes_none, none_fit, fit_none}
use Rattle.hys_type.proofs.PlaceRules.{constant_rule, kind_rule, guard_rule, demand_rule}
use Rattle.hys_type.proofs.rules.expression_rules.Goals as goal

pub returns-clause-constants : goal.returns-clause-constants
returns-clause-constants c = λ ks ps ns h a k e. (
  λ f. let r = (constant_rule ks ps ns h a k e).0 (none_passes (constant_of_kind k ks e) f) in (r.0, fit_none (numbers_of ns e) r.1),
  λ t. passes_none (constant_of_kind k ks e) ((constant_rule ks ps ns h a k e).1 (t.0, none_fit (numbers_of ns e) t.1)),
)

pub returns-clause-kinds : goal.returns-clause-kinds
returns-clause-kinds c = λ ns ms h n e w q k. (
  λ f. let r = (kind_rule ns ms h n e w q k).0 (none_passes (of_kind k ns e) f) in (r.0, r.1, fit_none (numbers_of ns e) r.2),
  λ t. passes_none (of_kind k ns e) ((kind_rule ns ms h n e w q k).1 (t.0, t.1, none_fit (numbers_of ns e) t.2)),
)

pub returns-clause-guards : goal.returns-clause-guards
returns-clause-guards c = λ ns ms h n e w q. (
  λ f. let r = (guard_rule ns ms h n e w q).0 (none_passes (expression ns (has_top is_inequality) e) f) in (r.0, r.1, fit_none (numbers_of ns e) r.2),
  λ t. passes_none (expression ns (has_top is_inequality) e) ((guard_rule ns ms h n e w q).1 (t.0, t.1, none_fit (numbers_of ns e) t.2)),
)

pub returns-clause-demands : goal.returns-clause-demands
returns-clause-demands c = λ ns ms h n e w q. (
  λ f. let r = (demand_rule ns ms h n e w q).0 (none_passes (expression ns (demanded ns) e) f) in (r.0, r.1, fit_none (numbers_of ns e) r.2),
  λ t. passes_none (expression ns (demanded ns) e) ((demand_rule ns ms h n e w q).1 (t.0, t.1, none_fit (numbers_of ns e) t.2)),
)
