use Rattle.std.proofs.Common.{rules, ◌≡◌, ◌<◌, ◌≤◌, ◌+◌, ◌∷◌, length, drop, arith, subst, sym}
use Rattle.std.proofs.lemmas.List.{drop_all}
use Rattle.hys_lin.specs.Sums.{at, Holds, EachColumn}
use Rattle.hys_lin.specs.declared.form.Row.{Row}
use Rattle.hys_sys.proofs.Solving.{drop_row, lost_on, hold_on, lost_shown, lost_refused, lost_ended}
use Rattle.hys_sys.proofs.solves.rows_hold.Goals as goal

pub row_holds-requires : goal.row_holds-requires
row_holds-requires c =
    let within : c.loop-row.row-index < length c.args.rows.now = omega arith in
    subst (λ (r : Row). EachColumn (λ i. i < length c.args.point.now.values) r.terms) (sym c.row-item.is) (c.requires c.loop-row.row-index c.row-item.result within)

pub returns-in_err-row_holds-clause-lost : goal.returns-in_err-row_holds-clause-lost
returns-in_err-row_holds-clause-lost c =
    let within : c.loop-row.row-index < length c.args.rows.now = omega arith in
    lost_shown c.args.point.now.values c.args.rows.now _ c.row-item.result _ _ c.from_residual.result (drop_row c.args.rows.now c.loop-row.row-index c.row-item.result within c.row-item.is) c.in_err-row_holds.ensures.lost (search rules) c.loop-row.invariant.lost

pub returns-then-not-branch-clause-lost : goal.returns-then-not-branch-clause-lost
returns-then-not-branch-clause-lost c =
    let within : c.loop-row.row-index < length c.args.rows.now = omega arith in
    lost_refused c.args.point.now.values c.args.rows.now _ c.row-item.result _ _ (drop_row c.args.rows.now c.loop-row.row-index c.row-item.result within c.row-item.is) c.in_ok-row_holds.ensures.lost (search rules) c.loop-row.invariant.lost

pub loop-row-preserved : goal.loop-row-preserved
loop-row-preserved c =
    let within : c.loop-row.row-index < length c.args.rows.now = omega arith in
    let e : drop c.loop-row.row-index c.args.rows.now ≡ c.row-item.result ∷ drop (c.loop-row.row-index + 1) c.args.rows.now = drop_row c.args.rows.now c.loop-row.row-index c.row-item.result within c.row-item.is in
    let h : Holds (at c.args.point.now.values) c.row-item.result = search rules in
    record {
      hold = hold_on _ _ _ _ _ e h c.loop-row.invariant.hold;
      lost = lost_on _ _ _ _ _ e (record { holds = h; fits = sym c.in_ok-row_holds.ensures.lost }) c.loop-row.invariant.lost;
    }

pub returns-clause-lost : goal.returns-clause-lost
returns-clause-lost c =
    let past : length c.args.rows.now ≤ c.loop-row.row-index = omega arith in
    lost_ended _ _ _ _ (drop_all c.loop-row.row-index c.args.rows.now past) c.loop-row.invariant.lost
