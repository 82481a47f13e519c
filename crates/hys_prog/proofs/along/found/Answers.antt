use Rattle.std.proofs.Common.{◌≡◌, ◌<◌, ◌+◌, ◌∷◌, ◌∙◌, ℕ, List, None, drop, length, get_or, arith, subst, length-set}
use Rattle.hys_number.specs.Number.{Number}
use Rattle.hys_lin.specs.Sums.{at}
use Rattle.hys_prog.specs.Stops.{first_stop, Faulted, checks_of, number_in}
use Rattle.hys_prog.specs.Walk.{IsPlaced, found, found_checks}
use Rattle.hys_prog.proofs.Walking.{here_first, all_next, found_next, found_stop, found_fault}
use Rattle.hys_prog.proofs.along.found.Goals as goal

pub returns-in-Err-clause-judged : goal.returns-in-Err-clause-judged
returns-in-Err-clause-judged c =
    let b : c.loop-name.name-index < length c.args.order.now = omega arith in
    let n : ℕ = get_or c.args.order.now c.loop-name.name-index 0 in
    let j = subst (λ (vs : List Number). Faulted (checks_of (at vs) n 0 c.args.items.now) c.in-Err.fault) c.deref.ensures.value c.in-Err.ensures.judged in
    found_fault c.args.items.now c.args.order.now (drop c.loop-name.name-index c.args.order.now) (drop (c.loop-name.name-index + 1) c.args.order.now) n c.args.values.items c.loop-name.values.items c.in-Err.fault c.loop-name.invariant.stop (here_first c.args.order.now c.loop-name.name-index b) j

pub loop-name-preserved : goal.loop-name-preserved
loop-name-preserved c =
    let b : c.loop-name.name-index < length c.args.order.now = omega arith in
    let n : ℕ = get_or c.args.order.now c.loop-name.name-index 0 in
    let ns = drop c.loop-name.name-index c.args.order.now in
    let rest = drop (c.loop-name.name-index + 1) c.args.order.now in
    let e : ns ≡ n ∷ rest = here_first c.args.order.now c.loop-name.name-index b in
    let v = subst (λ (vs : List Number). c.in-Ok.number ≡ number_in (at vs) n c.args.items.now) c.deref.ensures.value c.in-Ok.ensures.value in
    let j = subst (λ (vs : List Number). first_stop (checks_of (at vs) n 0 c.args.items.now) ≡ None) c.deref.ensures.value c.in-Ok.ensures.judged in
    record {
      placed = (all_next (IsPlaced c.args.items.now c.args.places.now) ns n rest c.loop-name.invariant.placed e).1;
      count = length-set c.loop-name.values.items n c.in-Ok.number ∙ c.loop-name.invariant.count;
      value = found_next c.args.items.now ns rest n c.loop-name.values.items (found c.args.items.now c.args.order.now c.args.values.items) c.in-Ok.number c.loop-name.invariant.value e v;
      stop = found_stop c.args.items.now ns rest n c.loop-name.values.items (first_stop (found_checks c.args.items.now c.args.order.now c.args.values.items)) c.in-Ok.number c.loop-name.invariant.stop e v j;
    }
