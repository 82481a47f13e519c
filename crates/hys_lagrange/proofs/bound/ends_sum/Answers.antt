use Rattle.std.proofs.Common.{rules, ◌≡◌, ◌∙◌, ap₂, length, Some, arith}
use Rattle.std.specs.Result.{result_err}
use Rattle.std.proofs.lemmas.List.{get_or_read}
use Rattle.hys_number.specs.Ops.{whole}
use Rattle.hys_lin.specs.Ranges.{box_at}
use Rattle.hys_relax.specs.Bound.{lesser_end}
use Rattle.hys_lin.specs.Sums.{at}
use Rattle.hys_lagrange.proofs.Summed.{ends_begin, ends_next, ends_fit, ends_lost}
use Rattle.hys_lagrange.proofs.bound.ends_sum.Goals as goal

pub loop-column-init : goal.loop-column-init
loop-column-init c = record { value = ends_begin c.args.start (at c.args.coefficients.now) (box_at c.args.boxes.now); lost = search rules }

pub loop-column-preserved : goal.loop-column-preserved
loop-column-preserved c =
    let n : c.index-coefficients-column.result ≡ at c.args.coefficients.now c.loop-column.column = get_or_read c.args.coefficients.now c.loop-column.column c.index-coefficients-column.result (omega (arith, c.loop-column-test.true, c.requires)) c.index-coefficients-column.is (whole 0) in
    let b : c.index-boxes-column.result ≡ box_at c.args.boxes.now c.loop-column.column = get_or_read c.args.boxes.now c.loop-column.column c.index-boxes-column.result c.loop-column-test.true c.index-boxes-column.is (record { low = whole 0; high = whole 0 }) in
    record {
      value = ends_next c.args.start (at c.args.coefficients.now) (box_at c.args.boxes.now) c.loop-column.column c.loop-column.sum c.in_ok-sum.sum c.index-coefficients-column.result c.lesser_end.result c.loop-column.invariant.value c.in_ok-sum.ensures.value n (c.lesser_end.ensures ∙ ap₂ lesser_end n b);
      lost = ends_fit c.args.start (at c.args.coefficients.now) (box_at c.args.boxes.now) c.loop-column.column c.loop-column.sum c.index-coefficients-column.result c.lesser_end.result c.loop-column.invariant.value n (c.lesser_end.ensures ∙ ap₂ lesser_end n b) c.loop-column.invariant.lost c.in_ok-sum.ensures.lost;
    }

pub returns-in_err-sum-clause-lost : goal.returns-in_err-sum-clause-lost
returns-in_err-sum-clause-lost c =
    let n : c.index-coefficients-column.result ≡ at c.args.coefficients.now c.loop-column.column = get_or_read c.args.coefficients.now c.loop-column.column c.index-coefficients-column.result (omega (arith, c.loop-column-test.true, c.requires)) c.index-coefficients-column.is (whole 0) in
    let b : c.index-boxes-column.result ≡ box_at c.args.boxes.now c.loop-column.column = get_or_read c.args.boxes.now c.loop-column.column c.index-boxes-column.result c.loop-column-test.true c.index-boxes-column.is (record { low = whole 0; high = whole 0 }) in
    let r : result_err c.from_residual.result ≡ Some c.in_err-sum.field-0.0 = search rules in
    r ∙ ends_lost c.args.start (at c.args.coefficients.now) (box_at c.args.boxes.now) (length c.args.boxes.now) c.loop-column.column c.loop-column.sum c.index-coefficients-column.result c.lesser_end.result c.in_err-sum.field-0.0 c.loop-column-test.true
    c.loop-column.invariant.value n (c.lesser_end.ensures ∙ ap₂ lesser_end n b) c.loop-column.invariant.lost c.in_err-sum.ensures.lost
