use Rattle.std.proofs.Common.{rules, ◌≡◌, ◌∷◌, ◌+◌, ◌<◌, ◌∙◌, length, drop, arith, subst, sym, true, false}
use Rattle.hys_lin.specs.Sums.{EachColumn}
use Rattle.hys_lin.specs.declared.form.Row.{Row}
use Rattle.hys_check.proofs.Loops.{here, met_lost, met_stop, met_next}
use Rattle.hys_check.proofs.point.judge_rows.Goals as goal

pub row_holds-requires : goal.row_holds-requires
row_holds-requires c =
    let within : c.loop-row.row-index < length c.args.rows.now = omega arith in
    subst (λ (r : Row). EachColumn (λ i. i < length c.args.point.now.values) r.terms) (sym c.row-item.is) (c.requires c.loop-row.row-index c.row-item.result within)

pub returns-in-Err : goal.returns-in-Err
returns-in-Err c =
    let within : c.loop-row.row-index < length c.args.rows.now = omega arith in
    sym (met_lost _ c.args.point.now.values (drop c.loop-row.row-index c.args.rows.now) (drop (c.loop-row.row-index + 1) c.args.rows.now) c.row-item.result c.in-Err.lost c.loop-row.invariant (here c.args.rows.now c.loop-row.row-index c.row-item.result c.row-item.result within c.row-item.is) c.in-Err.ensures.lost)

pub returns-then-not-holds : goal.returns-then-not-holds
returns-then-not-holds c =
    let within : c.loop-row.row-index < length c.args.rows.now = omega arith in
    let f : c.in-Ok.holds ≡ false = search rules in
    c.judged.ensures ∙ sym (met_stop _ c.args.point.now.values (drop c.loop-row.row-index c.args.rows.now) (drop (c.loop-row.row-index + 1) c.args.rows.now) c.row-item.result c.in-Ok.holds c.loop-row.invariant (here c.args.rows.now c.loop-row.row-index c.row-item.result c.row-item.result within c.row-item.is) c.in-Ok.ensures.lost c.in-Ok.ensures.value f)

pub loop-row-preserved : goal.loop-row-preserved
loop-row-preserved c =
    let within : c.loop-row.row-index < length c.args.rows.now = omega arith in
    let t : c.in-Ok.holds ≡ true = search rules in
    met_next _ c.args.point.now.values (drop c.loop-row.row-index c.args.rows.now) (drop (c.loop-row.row-index + 1) c.args.rows.now) c.row-item.result c.in-Ok.holds c.loop-row.invariant (here c.args.rows.now c.loop-row.row-index c.row-item.result c.row-item.result within c.row-item.is) c.in-Ok.ensures.lost c.in-Ok.ensures.value t
