use Rattle.std.proofs.Common.{map, sym, ◌∙◌, arith, []}
use Rattle.hys_ast.specs.Seen.{item_of}
use Rattle.hys_type.specs.Walks.{walk}
use Rattle.hys_type.specs.Checks.{scoped, item_checks, HasItemLiterals}
use Rattle.hys_type.specs.Operands.{seen}
use Rattle.hys_type.proofs.Firsts.{handed}
use Rattle.hys_type.proofs.Walks.{goes_on, stops, ends}
use Rattle.hys_type.proofs.Items.{each_item}
use Rattle.hys_type.proofs.item.check_items.Goals as goal

pub check_item-requires : goal.check_item-requires
check_item-requires c = each_item HasItemLiterals c.args.items.now c.loop-at.at c.index-items-at.result c.loop-at-test.true c.index-items-at.is c.requires

pub loop-at-preserved : goal.loop-at-preserved
loop-at-preserved c =
    let checks = item_checks (scoped (map seen c.args.scope.now) c.args.known.now) in
    c.loop-at.invariant ∙ goes_on item_of checks c.args.items.now c.loop-at.at c.index-items-at.result c.loop-at-test.true c.index-items-at.is c.in_ok-check_item.ensures

pub returns-in_err-check_item : goal.returns-in_err-check_item
returns-in_err-check_item c =
    let checks = item_checks (scoped (map seen c.args.scope.now) c.args.known.now) in
    handed c.from_residual.result _ (walk checks [] (map item_of c.args.items.now)) c.from_residual.ensures
    (λ n. stops item_of checks c.args.items.now c.loop-at.at c.index-items-at.result _ c.loop-at-test.true c.index-items-at.is (c.in_err-check_item.ensures n) ∙ sym c.loop-at.invariant)

pub returns : goal.returns
returns c =
    let checks = item_checks (scoped (map seen c.args.scope.now) c.args.known.now) in
    ends item_of checks c.args.items.now c.loop-at.at (omega (arith, c.loop-at-test.false)) ∙ sym c.loop-at.invariant
