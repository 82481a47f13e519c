use Rattle.std.proofs.Common.{Bool, [], ◌∷◌, ap, sym, subst}
use Rattle.std.specs.Str.{IsUtf8}
use Rattle.std.proofs.lemmas.Str.{IsUtf8-from_is_utf8, is_utf8-from_IsUtf8}
use Rattle.std.proofs.lemmas.Bool.{false_from_ne_true}
use Rattle.hys_sim.specs.declared.fault.SimFault.TheVariants.{Csv}
use Rattle.hys_sim.specs.Checks.{check, first_fault}
use Rattle.hys_sim.proofs.header.text_at.Goals as goal

pub returns-in-Ok-clause-judged : goal.returns-in-Ok-clause-judged
returns-in-Ok-clause-judged c =
    ap (λ (b : Bool). first_fault (check b (Csv c.args.which 0) ∷ [])) (is_utf8-from_IsUtf8 _ (subst IsUtf8 c.field_at.ensures c.in-Ok.ensures.cases.1))

pub returns-in-Err-clause-judged : goal.returns-in-Err-clause-judged
returns-in-Err-clause-judged c =
    ap (λ (b : Bool). first_fault (check b (Csv c.args.which 0) ∷ [])) (false_from_ne_true _ (λ e. c.in-Err.ensures.cases.0 (subst IsUtf8 (sym c.field_at.ensures) (IsUtf8-from_is_utf8 _ e))))
