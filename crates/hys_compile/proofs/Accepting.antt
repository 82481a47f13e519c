-- A source that passes all checks is an accepted one and all its numbers fit, and no check of such a source fails.
use Rattle.std.proofs.Common.{◌≡◌, ℕ, ◌≤◌, List, [], ◌∷◌, None, ◌∙◌, ap, arith}
use Rattle.std.specs.List.{AllByRecursion}
use Rattle.hys_number.specs.Number.{Number}
use Rattle.hys_lex.specs.declared.token.Token.{Token}
use Rattle.hys_ast.specs.Tree.{Tree, Source}
use Rattle.hys_ast.specs.Nodes.{nodes, largest, expressions}
use Rattle.hys_meaning.specs.Accepted.{Accepted}
use Rattle.hys_meaning.specs.Folding.{folded}
use Rattle.hys_meaning.specs.Unfolded.{unfolded}
use Rattle.hys_bound.specs.Ranges.{first_unfit}
use Rattle.hys_type.specs.Checks.{checks, fault_of}
use Rattle.hys_type.specs.Rules.{KeepsTyping}
use Rattle.hys_type.specs.DeclarationKeeping.{KeepsItsRules}
use Rattle.hys_type.proofs.Passing.{none_passes, passes_none, none_fit, fit_none}
use Rattle.hys_type.proofs.SourceRules.{source_rule}
use Rattle.hys_type.proofs.TypingRules.{typing_kept}
use Rattle.hys_type.proofs.RulesKept.{rules_kept}
use Rattle.hys_compile.specs.Sources.{NumbersFit}
use Rattle.hys_compile.specs.Text.{IsMeasured, IsTyped, IsOrdered, IsRowed}
use Rattle.hys_compile.proofs.GuardSizes.{few_guards}
use Rattle.hys_compile.proofs.Readable.{measured_written}
use Rattle.hys_compile.proofs.Unfit.{same_ranges}
use Rattle.hys_compile.proofs.Rows.{same_rows}

-- the largest is at most n where each is
each_within : (n : ℕ) (es : List Tree) → largest es ≤ n → AllByRecursion (λ e. nodes e ≤ n) es
each_within n [] h = tt
each_within n (e ∷ es) h = (omega arith, each_within n es (omega arith))

kept_typing : (tree : Source) → Accepted tree → KeepsTyping (unfolded tree)
kept_typing tree a = record {
  declared = a.rules.declared;
  values = a.rules.values;
  typed = a.rules.typed;
  bounded = a.rules.bounded;
  defined = a.rules.defined;
}

pub accepted : (text : List ℕ) (tokens : List Token) (tree : Source) → IsOrdered text tokens tree → Accepted tree
accepted text tokens tree o =
    let r = measured_written text tokens tree o.typed.measured in
    let k = (source_rule tree r).0 (none_passes (checks tree) o.typed.faultless) in
    let y : KeepsTyping (unfolded tree) = typing_kept tree r (few_guards tree o.typed.measured.nodes) k.0 in
    record {
      rules = record { declared = y.declared; values = y.values; typed = y.typed; bounded = y.bounded; defined = y.defined; orders = o.orders };
      limits = record { names = k.0.declarations.few; expression = each_within 1000 (expressions tree) o.typed.measured.expression; nodes = o.typed.measured.nodes };
    }

pub numbers_fit : (tolerance : Number) (text : List ℕ) (tokens : List Token) (tree : Source) → IsRowed tolerance text tokens tree → NumbersFit tolerance tree
numbers_fit tolerance text tokens tree h =
    let t : IsTyped text tokens tree = h.ranged.ordered.typed in
    let k = (source_rule tree (measured_written text tokens tree t.measured)).0 (none_passes (checks tree) t.faultless) in
    record {
      expressions = fit_none (folded tree) k.1;
      intervals = λ numbers r. ap first_unfit (same_ranges tree numbers h.ranged.numbers r h.ranged.ranges) ∙ h.ranged.fit;
      rows = λ numbers r. ap first_unfit (same_rows tolerance tree numbers h.numbers r h.rows) ∙ h.fit;
    }

-- no check of typing fails in an accepted source whose numbers fit
pub faultless : (tolerance : Number) (text : List ℕ) (tokens : List Token) (tree : Source) → IsMeasured text tokens tree → Accepted tree → NumbersFit tolerance tree → fault_of tree ≡ None
faultless tolerance text tokens tree m a f =
    let r = measured_written text tokens tree m in
    let k : KeepsItsRules tree = rules_kept tree r (few_guards tree m.nodes) a.limits.names (kept_typing tree a) in
    passes_none (checks tree) ((source_rule tree r).1 (k, none_fit (folded tree) f.expressions))
