use Rattle.std.proofs.Common.{◌≡◌, ◌<◌, ◌+◌, ◌∷◌, ℕ, drop, length, get_or, arith}
use Rattle.hys_lin.specs.Sums.{at}
use Rattle.hys_prog.specs.Stops.{first_stop, checks_along, numbers_in}
use Rattle.hys_prog.specs.Walk.{IsPlaced}
use Rattle.hys_prog.proofs.Walking.{here_first, all_next, given_next, given_stop, given_fault}
use Rattle.hys_prog.proofs.along.defined.Goals as goal

pub returns-in-Err-clause-judged : goal.returns-in-Err-clause-judged
returns-in-Err-clause-judged c =
    let b : c.loop-name.name-index < length c.args.names.now = omega arith in
    given_fault (at c.args.values.now) c.args.items.now c.args.names.now (drop c.loop-name.name-index c.args.names.now) (drop (c.loop-name.name-index + 1) c.args.names.now) (get_or c.args.names.now c.loop-name.name-index 0) c.in-Err.fault c.loop-name.invariant.stop (here_first c.args.names.now c.loop-name.name-index b) c.in-Err.ensures.judged

pub loop-name-preserved : goal.loop-name-preserved
loop-name-preserved c =
    let b : c.loop-name.name-index < length c.args.names.now = omega arith in
    let n : ℕ = get_or c.args.names.now c.loop-name.name-index 0 in
    let ns = drop c.loop-name.name-index c.args.names.now in
    let rest = drop (c.loop-name.name-index + 1) c.args.names.now in
    let e : ns ≡ n ∷ rest = here_first c.args.names.now c.loop-name.name-index b in
    let w = at c.args.values.now in
    record {
      placed = (all_next (IsPlaced c.args.items.now c.args.places.now) ns n rest c.loop-name.invariant.placed e).1;
      value = given_next w c.args.items.now ns rest n c.loop-name.numbers.items c.push.new.self.items (numbers_in w c.args.items.now c.args.names.now) c.in-Ok.number c.loop-name.invariant.value e c.in_ok-push.ensures.items c.in-Ok.ensures.value;
      stop = given_stop w c.args.items.now ns rest n (first_stop (checks_along w c.args.items.now c.args.names.now)) c.loop-name.invariant.stop e c.in-Ok.ensures.judged;
    }
