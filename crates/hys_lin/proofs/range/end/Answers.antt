use Rattle.std.proofs.Common.{◌≡◌, ◌<◌, ◌∷◌, List, length, get_or, ℕ, ◌+◌, ◌≤◌, drop, arith, ◌∙◌, ap, sym, subst, refl}
use Rattle.std.proofs.lemmas.List.{get_or_read}
use Rattle.hys_number.specs.Ops.{◌+ₙ◌, whole}
use Rattle.hys_lin.specs.Sums.{EachColumn}
use Rattle.hys_lin.specs.Operations.{sum_by}
use Rattle.hys_lin.specs.Ranges.{box_at, end_by_sign, end_at}
use Rattle.hys_lin.specs.declared.form.Term.{Term}
use Rattle.hys_lin.specs.declared.form.Interval.{Interval}
use Rattle.hys_lin.proofs.Summing.{drop_here, columns_next, value_next, lost_next, sum_ended}
use Rattle.hys_lin.proofs.range.end.Goals as goal

box_is : (boxes : List Interval) (c : ℕ) (i : Interval) → c < length boxes → i ≡ get_or boxes c i → i ≡ box_at boxes c
box_is boxes c i h e = get_or_read boxes c i h e (record { low = whole 0; high = whole 0 })

pub loop-term-init : goal.loop-term-init
loop-term-init c = record { columns = subst (EachColumn (λ (i : ℕ). i < length c.args.boxes.now)) (sym c.items-terms.ensures) c.requires; value = refl; lost = refl }

pub loop-term-preserved : goal.loop-term-preserved
loop-term-preserved c =
    let within : c.loop-term.term-index < length c.items-terms.result.now = omega arith in
    let e : drop c.loop-term.term-index c.items-terms.result.now ≡ c.term-item.result ∷ drop (c.loop-term.term-index + 1) c.items-terms.result.now = drop_here c.items-terms.result.now c.loop-term.term-index c.term-item.result within c.term-item.is in
    let x : c.side-number.result ≡ end_at c.args.greatest c.args.boxes.now c.term-item.result = c.side-number.ensures ∙ ap (end_by_sign c.args.greatest c.term-item.result.factor.num) (box_is c.args.boxes.now c.term-item.result.column c.index-boxes-term.result (columns_next _ _ _ _ c.loop-term.invariant.columns e).0 c.index-boxes-term.is) in
    record {
      columns = (columns_next _ _ _ _ c.loop-term.invariant.columns e).1;
      value = value_next _ _ _ _ _ _ _ _ c.loop-term.invariant.value e x c.in_ok-sum.ensures.value;
      lost = lost_next _ _ _ _ _ _ _ _ c.loop-term.invariant.lost e x c.in_ok-sum.ensures.value c.in_ok-sum.ensures.lost;
    }

pub returns-clause-value : goal.returns-clause-value
returns-clause-value c = let past : length c.items-terms.result.now ≤ c.loop-term.term-index = omega arith in
    sum_ended _ _ _ _ _ c.loop-term.invariant.value past ∙ ap (λ (ts : List Term). c.args.form.now.constant +ₙ sum_by ts (end_at c.args.greatest c.args.boxes.now)) c.items-terms.ensures
