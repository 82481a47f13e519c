use Rattle.std.proofs.Common.{◌≡◌, sym, ◌∙◌, ap, subst, List, None, Some, get_or, arith}
use Rattle.hys_lin.specs.declared.lost.Lost.{Lost}
use Rattle.hys_lin.specs.Operations.{first_lost}
use Rattle.hys_prog.specs.declared.program.ProgItem.{ProgItem}
use Rattle.hys_bound.specs.Ranges.{asked_at}
use Rattle.hys_bound.proofs.Turns.{interval_there, asked_there, unfit_none, unfit_some}
use Rattle.hys_bound.proofs.along.interval_here.Goals as goal

pub returns-in-Ok-clause-value : goal.returns-in-Ok-clause-value
returns-in-Ok-clause-value c =
    let e = ap (λ (y : ProgItem). get_or c.args.items.now c.args.place y) c.index-items-place.is in
    c.in-Ok.ensures.value ∙ interval_there c.args.boxes.now c.args.items.now c.args.place (get_or c.args.items.now c.args.place c.index-items-place.result) c.requires.within e

pub returns-in-Ok-clause-judged : goal.returns-in-Ok-clause-judged
returns-in-Ok-clause-judged c =
    let e = ap (λ (y : ProgItem). get_or c.args.items.now c.args.place y) c.index-items-place.is in
    unfit_none c.args.place (asked_at c.args.boxes.now c.args.items.now c.args.place) (subst (λ (os : List Lost). first_lost os ≡ None) (asked_there c.args.boxes.now c.args.items.now c.args.place (get_or c.args.items.now c.args.place c.index-items-place.result) c.requires.within e) (sym c.in-Ok.ensures.lost))

pub returns-in-Ok-try_from-clause-judged : goal.returns-in-Ok-try_from-clause-judged
returns-in-Ok-try_from-clause-judged c =
    let e = ap (λ (y : ProgItem). get_or c.args.items.now c.args.place y) c.index-items-place.is in
    let q : c.in-Ok-try_from.item ≡ c.args.place = grind arith in
    rw q (unfit_some c.args.place (asked_at c.args.boxes.now c.args.items.now c.args.place) c.in-Err.lost (subst (λ (os : List Lost). first_lost os ≡ Some c.in-Err.lost) (asked_there c.args.boxes.now c.args.items.now c.args.place (get_or c.args.items.now c.args.place c.index-items-place.result) c.requires.within e) (sym c.in-Err.ensures.lost)))
