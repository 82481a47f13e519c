use Rattle.std.proofs.Common.{◌≡◌, true, get_or, sym, ◌∙◌}
use Rattle.hys_order.proofs.Taken.{unset_set, seen_at}
use Rattle.hys_order.proofs.Rounds.{path_onward, path_end, found_within, unseen, name_within}
use Rattle.hys_order.proofs.round.round.Goals as goal

pub loop-seen-smaller : goal.loop-seen-smaller
loop-seen-smaller c =
    unset_set c.loop-seen.seen.items c.loop-seen.name (unseen c.loop-seen.seen.items c.loop-seen.name c.index.result.now (name_within c.args.taken.now c.args.links.now c.loop-seen.seen.items c.loop-seen.path.items c.loop-seen.name c.loop-seen.invariant c.requires.count) c.index.ensures c.loop-seen-test.true)

pub loop-seen-preserved : goal.loop-seen-preserved
loop-seen-preserved c = rw c.in_ok-push.ensures.items (path_onward c.args.taken.now c.args.links.now c.loop-seen.seen.items c.loop-seen.path.items c.loop-seen.name c.items-mentioned.result.now c.index-links-name.result c.passed.result c.index.result.now c.loop-seen.invariant c.requires.count c.requires.stuck c.index.ensures c.loop-seen-test.true c.items-mentioned.ensures c.index-links-name.is c.passed.ensures.within c.passed.ensures.before c.passed.ensures.here)

pub returns : goal.returns
returns c =
    let v = name_within c.args.taken.now c.args.links.now c.loop-seen.seen.items c.loop-seen.path.items c.loop-seen.name c.loop-seen.invariant c.requires.count in
    let s : get_or c.loop-seen.seen.items c.loop-seen.name true ≡ true = seen_at c.loop-seen.seen.items c.loop-seen.name c.index.result.now v (sym c.index.ensures ∙ c.loop-seen-test.false) in
    let w = found_within c.args.taken.now c.args.links.now c.loop-seen.seen.items c.loop-seen.path.items c.loop-seen.name c.place_of-from.result c.requires.count c.loop-seen.invariant s (rw c.as_slice.ensures.value at c.place_of-from.ensures.within) (rw c.as_slice.ensures.value at c.place_of-from.ensures.before) in
    rw (c.in_ok-round.ensures, c.as_slice-2.ensures.value) (path_end c.args.taken.now c.args.links.now c.loop-seen.seen.items c.loop-seen.path.items c.loop-seen.name c.place_of-from.result c.loop-seen.invariant w (rw c.as_slice.ensures.value at (c.place_of-from.ensures.here (rw c.as_slice.ensures.value w))))
