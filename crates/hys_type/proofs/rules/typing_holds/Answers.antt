use Rattle.hys_meaning.specs.Folding.{folded}
use Rattle.hys_type.specs.Checks.{checks}
use Rattle.hys_type.proofs.Passing.{none_passes, passes_none, none_fit, fit_none}
use Rattle.hys_type.proofs.SourceRules.{source_rule}
use Rattle.hys_type.proofs.TypingRules.{typing_kept}
use Rattle.hys_type.proofs.RulesKept.{rules_kept}
use Rattle.hys_type.proofs.rules.typing_holds.Goals as goal

pub returns : goal.returns
returns c = λ s r b. (
  λ f. let t = (source_rule s r).0 (none_passes (checks s) f) in (typing_kept s r b t.0, t.0.declarations.few, fit_none (folded s) t.1),
  λ t. passes_none (checks s) ((source_rule s r).1 (rules_kept s r b t.1 t.0, none_fit (folded s) t.2)),
)
