use Rattle.std.proofs.Common.{rules, ◌≡◌, ◌+◌, ◌-◌, ◌<◌, ◌∙◌, ap, subst, arith, length}
use Rattle.hys_number.specs.Ops.{fits}
use Rattle.hys_lagrange.proofs.Gathering.{AreFactorsFrom, factors_begin, factor_written, column_within}
use Rattle.hys_lagrange.proofs.gather.factors.Goals as goal

pub loop-left-init : goal.loop-left-init
loop-left-init c = factors_begin c.args.terms.now c.args.columns c.in_ok-list.list.items c.whole.result (c.in_ok-list.ensures.items_if_clones_equal (λ y e. e)) (search rules) c.whole.ensures

pub index_mut-requires : goal.index_mut-requires
index_mut-requires c =
    let l : c.index-terms-left.result.column < c.args.columns =
    column_within c.args.columns c.args.terms.now (c.loop-left.left - 1) c.index-terms-left.result c.index-terms-left.result c.requires (omega (arith, c.loop-left.invariant.within, c.loop-left-test.true)) c.index-terms-left.is in
    omega (arith, l, c.loop-left.invariant.long)

pub loop-left-preserved : goal.loop-left-preserved
loop-left-preserved c =
    let m : c.loop-left.left - 1 < length c.args.terms.now = omega (arith, c.loop-left.invariant.within, c.loop-left-test.true) in
    let l : c.index-terms-left.result.column < c.args.columns =
    column_within c.args.columns c.args.terms.now (c.loop-left.left - 1) c.index-terms-left.result c.index-terms-left.result c.requires m c.index-terms-left.is in
    let back : c.loop-left.left ≡ (c.loop-left.left - 1) + 1 = omega (arith, c.loop-left-test.true) in
    factor_written c.args.terms.now (c.loop-left.left - 1) c.args.columns c.loop-left.list.items c.index-terms-left.result c.index-terms-left.result c.kept.result (omega (arith, m)) c.index-terms-left.is l c.kept.ensures.same (ap fits c.kept.ensures.same ∙ c.kept.ensures.fits)
    (subst (λ z. AreFactorsFrom c.args.terms.now z c.args.columns c.loop-left.list.items) back c.loop-left.invariant)
