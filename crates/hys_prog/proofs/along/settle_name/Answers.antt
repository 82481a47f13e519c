use Rattle.std.proofs.Common.{◌≡◌, get_or, IfOk, List, subst, sym, Result, Ok, Err, ◌∙◌}
use Rattle.hys_number.specs.Number.{Number}
use Rattle.hys_lin.specs.Sums.{at}
use Rattle.hys_prog.specs.declared.stop.StepFault.{StepFault}
use Rattle.hys_prog.specs.Stops.{Check, Judged, number_of, number_in}
use Rattle.hys_prog.proofs.Walking.{checks_here, first_number}
use Rattle.hys_prog.proofs.along.settle_name.Goals as goal

if_ok : (r : Result Number StepFault) (a b : Number) → a ≡ b → IfOk r (λ x. x ≡ a) → IfOk r (λ x. x ≡ b)
if_ok (Ok x) a b e h = h ∙ e
if_ok (Err f) a b e h = h

pub returns-clause-value : goal.returns-clause-value
returns-clause-value c = if_ok c.settle_item.result (number_of (at c.args.values.now) c.index-items-place.result.body) (number_in (at c.args.values.now) c.args.name c.args.items.now) (sym (first_number (at c.args.values.now) c.args.name c.args.items.now (get_or c.args.places.now c.args.name 0) c.index-items-place.result c.requires.first c.index-items-place.is)) c.settle_item.ensures.value

pub returns-clause-judged : goal.returns-clause-judged
returns-clause-judged c = subst (λ (cs : List Check). Judged cs c.settle_item.result) (sym (checks_here (at c.args.values.now) c.args.name c.args.items.now (get_or c.args.places.now c.args.name 0) c.index-items-place.result c.requires.first c.index-items-place.is)) c.settle_item.ensures.judged
