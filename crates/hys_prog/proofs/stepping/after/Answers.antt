use Rattle.std.proofs.Common.{◌≡◌, ◌∙◌, ◌++◌, List, None, subst}
use Rattle.hys_lin.specs.Sums.{at}
use Rattle.hys_prog.specs.declared.program.ProgItem.{ProgItem}
use Rattle.hys_prog.specs.Steps.{places, is_state, is_output}
use Rattle.hys_prog.specs.Stops.{first_stop, Faulted, demands_from, checks_along}
use Rattle.hys_prog.proofs.Stopping.{stop_after, fault_before, fault_after}
use Rattle.hys_prog.proofs.stepping.after.Goals as goal

pub returns-in-Err-clause-judged : goal.returns-in-Err-clause-judged
returns-in-Err-clause-judged c =
    let w = at c.args.values.now in
    fault_before (demands_from 0 w c.args.program.now.items) (checks_along w c.args.program.now.items (places is_state c.args.program.now) ++ checks_along w c.args.program.now.items (places is_output c.args.program.now)) c.in-Err.fault (subst (λ (ts : List ProgItem). Faulted (demands_from 0 w ts) c.in-Err.fault) c.items.ensures c.in-Err.ensures)

pub returns-in-Err-numbers-clause-judged : goal.returns-in-Err-numbers-clause-judged
returns-in-Err-numbers-clause-judged c =
    let w = at c.args.values.now in
    let next = checks_along w c.args.program.now.items (places is_state c.args.program.now) in
    let out = checks_along w c.args.program.now.items (places is_output c.args.program.now) in
    fault_after (demands_from 0 w c.args.program.now.items) (next ++ out) c.in-Err-numbers.fault (subst (λ (ts : List ProgItem). first_stop (demands_from 0 w ts) ≡ None) c.items.ensures c.in-Ok.ensures) (fault_before next out c.in-Err-numbers.fault c.in-Err-numbers.ensures.judged)

pub returns-in-Err-numbers-2-clause-judged : goal.returns-in-Err-numbers-2-clause-judged
returns-in-Err-numbers-2-clause-judged c =
    let w = at c.args.values.now in
    let next = checks_along w c.args.program.now.items (places is_state c.args.program.now) in
    let out = checks_along w c.args.program.now.items (places is_output c.args.program.now) in
    fault_after (demands_from 0 w c.args.program.now.items) (next ++ out) c.in-Err-numbers-2.fault (subst (λ (ts : List ProgItem). first_stop (demands_from 0 w ts) ≡ None) c.items.ensures c.in-Ok.ensures) (fault_after next out c.in-Err-numbers-2.fault c.in-Ok-numbers.ensures.judged c.in-Err-numbers-2.ensures.judged)

pub returns-clause-judged : goal.returns-clause-judged
returns-clause-judged c =
    let w = at c.args.values.now in
    let next = checks_along w c.args.program.now.items (places is_state c.args.program.now) in
    let out = checks_along w c.args.program.now.items (places is_output c.args.program.now) in
    stop_after (demands_from 0 w c.args.program.now.items) (next ++ out) (subst (λ (ts : List ProgItem). first_stop (demands_from 0 w ts) ≡ None) c.items.ensures c.in-Ok.ensures) ∙ stop_after next out c.in-Ok-numbers.ensures.judged ∙ c.in-Ok-numbers-2.ensures.judged
