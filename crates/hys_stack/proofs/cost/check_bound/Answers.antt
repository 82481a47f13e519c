use Rattle.std.proofs.Common.{◌≡◌, ◌<◌, length, arith, rules, ap, ap₂, ◌∙◌, sym, refl}
use Rattle.hys_number.specs.Number.{Number}
use Rattle.hys_number.specs.Ops.{◌+ₙ◌}
use Rattle.hys_number.proofs.Field.{add_zero}
use Rattle.hys_lin.specs.Sums.{at}
use Rattle.hys_lin.specs.Ranges.{box_at}
use Rattle.hys_lin.specs.Operations.{first_lost}
use Rattle.hys_lin.specs.declared.form.Interval.{Interval}
use Rattle.hys_relax.specs.Bound.{least_product}
use Rattle.hys_relax.specs.BoundSum.{end_operations}
use Rattle.hys_stack.proofs.Costs.{ends_stop, ends_go, ends_sum, read_number, read_box, end_read}
use Rattle.hys_stack.proofs.Stacked.{err_is}
use Rattle.hys_stack.proofs.cost.check_bound.Goals as goal

pub loop-i-init : goal.loop-i-init
loop-i-init c = record { bound = sym (add_zero c.args.constant); fits = refl }

pub returns-in_err-bound : goal.returns-in_err-bound
returns-in_err-bound c =
    let within : c.loop-i.i < length c.args.boxes.now = search rules in
    let same : c.loop-i.i < length c.args.sums.now = omega (arith, within, c.requires) in
    err_is _ c.from_residual.result c.in_err-bound.field-0.0 _ (search rules)
    (ends_stop c.args.constant (at c.args.sums.now) (box_at c.args.boxes.now) (length c.args.boxes.now) c.loop-i.i c.in_err-bound.field-0.0 within c.loop-i.invariant.fits
    (c.in_err-bound.ensures.lost ∙ end_read c.args.constant (at c.args.sums.now) (box_at c.args.boxes.now) c.loop-i.i c.index-sums-i.result c.index-boxes-i.result c.loop-i.bound
    (read_number c.args.sums.now c.loop-i.i c.index-sums-i.result same c.index-sums-i.is) (read_box c.args.boxes.now c.loop-i.i c.index-boxes-i.result within c.index-boxes-i.is) c.loop-i.invariant.bound))

pub loop-i-preserved : goal.loop-i-preserved
loop-i-preserved c =
    let within : c.loop-i.i < length c.args.boxes.now = search rules in
    let same : c.loop-i.i < length c.args.sums.now = omega (arith, within, c.requires) in
    let x : c.index-sums-i.result ≡ at c.args.sums.now c.loop-i.i = read_number c.args.sums.now c.loop-i.i c.index-sums-i.result same c.index-sums-i.is in
    let y : c.index-boxes-i.result ≡ box_at c.args.boxes.now c.loop-i.i = read_box c.args.boxes.now c.loop-i.i c.index-boxes-i.result within c.index-boxes-i.is in
    record {
      bound = ends_sum c.args.constant (at c.args.sums.now) (box_at c.args.boxes.now) c.loop-i.i c.loop-i.bound c.in_ok-bound.bound c.loop-i.invariant.bound
          (c.in_ok-bound.ensures.value ∙ ap₂ (λ (a : Number) (b : Interval). c.loop-i.bound +ₙ least_product a b) x y);
      fits = ends_go c.args.constant (at c.args.sums.now) (box_at c.args.boxes.now) c.loop-i.i c.loop-i.invariant.fits
          (c.in_ok-bound.ensures.lost ∙ end_read c.args.constant (at c.args.sums.now) (box_at c.args.boxes.now) c.loop-i.i c.index-sums-i.result c.index-boxes-i.result c.loop-i.bound x y c.loop-i.invariant.bound);
    }

pub returns : goal.returns
returns c =
    let e : c.loop-i.i ≡ length c.args.boxes.now = search rules in
    sym (ap (λ n. first_lost (end_operations c.args.constant (at c.args.sums.now) (box_at c.args.boxes.now) n)) (sym e) ∙ c.loop-i.invariant.fits)
