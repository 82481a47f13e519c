use Rattle.std.proofs.Common.{◌≡◌, ◌∙◌, ◌++◌, ℕ, List, None, length, ap, subst, sym}
use Rattle.hys_number.specs.Number.{Number}
use Rattle.hys_prog.specs.declared.program.ProgItem.{ProgItem}
use Rattle.hys_prog.specs.declared.program.Name.{Name}
use Rattle.hys_prog.specs.Stops.{Faulted, Judged, first_stop}
use Rattle.hys_prog.specs.Walk.{started, given_checks, found_checks, after_checks, exact, found}
use Rattle.hys_prog.proofs.Stopping.{judged_after, fault_before, fault_after}
use Rattle.hys_prog.proofs.Walking.{started_count}
use Rattle.hys_prog.proofs.Placing.{order_placed, states_placed, outputs_placed}
use Rattle.hys_prog.proofs.stepping.walk.Goals as goal

pub returns-in-Err-clause-judged : goal.returns-in-Err-clause-judged
returns-in-Err-clause-judged c =
    let p = c.args.program.now in
    let s = started p.names c.args.state.now c.args.input.now in
    fault_before (given_checks p.names s) (found_checks p.items c.args.order.now.names s ++ after_checks p (exact p c.args.order.now c.args.state.now c.args.input.now)) c.in-Err.fault (subst (λ (ks : List Name). Faulted (given_checks ks (started ks c.args.state.now c.args.input.now)) c.in-Err.fault) c.items.ensures c.in-Err.ensures.judged)

pub found-requires-clause-placed : goal.found-requires-clause-placed
found-requires-clause-placed c = rw (c.items-items.ensures, c.deref.ensures.value, c.items-2.ensures) (order_placed c.args.program.now c.args.order.now c.in_ok-places.places.items c.requires.program c.requires.order c.in_ok-places.ensures.places c.in_ok-places.ensures.length)

pub found-requires-clause-count : goal.found-requires-clause-count
found-requires-clause-count c = ap (λ (vs : List Number). length vs) (c.in-Ok.ensures.value ∙ ap (λ (ks : List Name). started ks c.args.state.now c.args.input.now) c.items.ensures) ∙ started_count c.args.program.now.names 0 0 c.args.state.now c.args.input.now ∙ sym (ap (λ (ks : List ℕ). length ks) c.deref.ensures.value ∙ c.in_ok-places.ensures.length)

pub returns-in-Err-found-clause-judged : goal.returns-in-Err-found-clause-judged
returns-in-Err-found-clause-judged c =
    let p = c.args.program.now in
    let ns = c.args.order.now.names in
    let s = started p.names c.args.state.now c.args.input.now in
    let rest = after_checks p (exact p c.args.order.now c.args.state.now c.args.input.now) in
    fault_after (given_checks p.names s) (found_checks p.items ns s ++ rest) c.in-Err-found.fault (subst (λ (ks : List Name). first_stop (given_checks ks (started ks c.args.state.now c.args.input.now)) ≡ None) c.items.ensures c.in-Ok.ensures.judged)
    (fault_before (found_checks p.items ns s) rest c.in-Err-found.fault
    (subst (λ (vs : List Number). Faulted (found_checks p.items ns vs) c.in-Err-found.fault) (c.in-Ok.ensures.value ∙ ap (λ (ks : List Name). started ks c.args.state.now c.args.input.now) c.items.ensures)
    (subst (λ (ts : List ProgItem). Faulted (found_checks ts ns c.in-Ok.start.items) c.in-Err-found.fault) c.items-items.ensures
    (subst (λ (ms : List ℕ). Faulted (found_checks c.items-items.result.now ms c.in-Ok.start.items) c.in-Err-found.fault) c.items-2.ensures c.in-Err-found.ensures.judged))))

pub after-requires-clause-states : goal.after-requires-clause-states
after-requires-clause-states c = rw c.deref-2.ensures.value (states_placed c.args.program.now c.in_ok-places.places.items c.requires.program c.in_ok-places.ensures.places c.in_ok-places.ensures.length)

pub after-requires-clause-outputs : goal.after-requires-clause-outputs
after-requires-clause-outputs c = rw c.deref-2.ensures.value (outputs_placed c.args.program.now c.in_ok-places.places.items c.requires.program c.in_ok-places.ensures.places c.in_ok-places.ensures.length)

pub returns-clause-judged : goal.returns-clause-judged
returns-clause-judged c =
    let p = c.args.program.now in
    let ns = c.args.order.now.names in
    let s = started p.names c.args.state.now c.args.input.now in
    let f = found_checks p.items ns s in
    let b = (c.in-Ok.ensures.value ∙ ap (λ (ks : List Name). started ks c.args.state.now c.args.input.now) c.items.ensures) in
    let e = c.in-Ok-found.ensures.value ∙ ap (λ (ms : List ℕ). found c.items-items.result.now ms c.in-Ok.start.items) c.items-2.ensures ∙ ap (λ (ts : List ProgItem). found ts ns c.in-Ok.start.items) c.items-items.ensures ∙ ap (λ (vs : List Number). found p.items ns vs) b in
    let r = exact p c.args.order.now c.args.state.now c.args.input.now in
    judged_after _ (given_checks p.names s) (f ++ after_checks p r) c.after.result (subst (λ (ks : List Name). first_stop (given_checks ks (started ks c.args.state.now c.args.input.now)) ≡ None) c.items.ensures c.in-Ok.ensures.judged)
    (judged_after _ f (after_checks p r) c.after.result
    (subst (λ (vs : List Number). first_stop (found_checks p.items ns vs) ≡ None) b
    (subst (λ (ts : List ProgItem). first_stop (found_checks ts ns c.in-Ok.start.items) ≡ None) c.items-items.ensures
    (subst (λ (ms : List ℕ). first_stop (found_checks c.items-items.result.now ms c.in-Ok.start.items) ≡ None) c.items-2.ensures c.in-Ok-found.ensures.judged)))
    (subst (λ (vs : List Number). Judged (after_checks p vs) c.after.result) (c.deref-3.ensures.value ∙ e) c.after.ensures.judged))
