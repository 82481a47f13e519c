use Rattle.std.proofs.Common.{rules, get_or, ◌≡◌, ◌<◌, ◌∷◌, length, ℕ, ◌+◌, ◌≤◌, drop, arith, ◌∙◌, ap, List}
use Rattle.hys_number.specs.Number.{Number}
use Rattle.hys_number.specs.Ops.{◌+ₙ◌, whole}
use Rattle.hys_lin.specs.Sums.{at}
use Rattle.hys_lin.proofs.Summing.{drop_here, columns_next, value_next, lost_next, sum_by-columns, sum_ended}
use Rattle.std.proofs.lemmas.List.{get_or_read}
use Rattle.hys_lin.proofs.sum.sum_from.Goals as goal

value_at : (xs ys : List Number) (i : ℕ) (x : Number) → xs ≡ ys → i < length ys → x ≡ get_or xs i x → x ≡ at ys i
value_at xs ys i x e h k = get_or_read ys i x h (k ∙ ap (λ (zs : List Number). get_or zs i x) e) (whole 0)

pub loop-term-preserved : goal.loop-term-preserved
loop-term-preserved c =
    let within : c.loop-term.term-index < length c.args.terms.now = omega arith in
    let e : drop c.loop-term.term-index c.args.terms.now ≡ c.term-item.result ∷ drop (c.loop-term.term-index + 1) c.args.terms.now = drop_here c.args.terms.now c.loop-term.term-index c.term-item.result within c.term-item.is in
    let x : c.index-values-term.result ≡ at c.args.point.now.values c.term-item.result.column =
    value_at c.items-values.result.now c.args.point.now.values c.term-item.result.column c.index-values-term.result c.loop-term.invariant.values (columns_next _ _ _ _ c.loop-term.invariant.columns e).0 c.index-values-term.is in
    record {
      values = search rules;
      columns = (columns_next _ _ _ _ c.loop-term.invariant.columns e).1;
      value = value_next _ _ _ _ _ _ _ _ c.loop-term.invariant.value e x c.in_ok-sum.ensures.value;
      lost = lost_next _ _ _ _ _ _ _ _ c.loop-term.invariant.lost e x c.in_ok-sum.ensures.value c.in_ok-sum.ensures.lost;
    }

pub returns-clause-value : goal.returns-clause-value
returns-clause-value c = let past : length c.args.terms.now ≤ c.loop-term.term-index = omega arith in sum_ended _ _ _ _ _ c.loop-term.invariant.value past ∙ ap (λ (z : Number). c.args.start +ₙ z) (sum_by-columns c.args.terms.now (at c.args.point.now.values))
