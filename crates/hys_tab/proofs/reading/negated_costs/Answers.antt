use Rattle.std.proofs.Common.{rules, ◌∙◌, ◌+◌, refl, arith, ap, length, slice_index_or}
use Rattle.std.proofs.lemmas.List.{get_or_default, get_or-replicate}
use Rattle.hys_number.specs.Ops.{whole}
use Rattle.hys_tab.proofs.Multiplied.{first_cost, next_costs}
use Rattle.hys_tab.proofs.reading.negated_costs.Goals as goal

pub loop-j-init : goal.loop-j-init
loop-j-init c = (
  search rules,
  λ i l. first_cost c.args.cells.now c.args.outside.now c.args.rows i (slice_index_or c.in_ok-list.list.items i (whole 0))
      (ap (λ xs. slice_index_or xs i (whole 0)) (c.in_ok-list.ensures.items_if_clones_equal (λ y e. e)) ∙ get_or-replicate c.args.rows i c.whole.result (whole 0) l ∙ c.whole.ensures),
)

pub loop-j-preserved : goal.loop-j-preserved
loop-j-preserved c = (
  c.put_negated.ensures.long ∙ c.loop-j.invariant.0,
  next_costs c.args.cells.now c.loop-j.list.items c.put_negated.new.list.items c.args.outside.now c.args.rows c.loop-j.j _ (length c.args.outside.now + c.args.rows) c.index-cells-rows.result c.requires.places c.loop-j-test.true
      refl (c.index-cells-rows.is ∙ get_or_default c.args.cells.now _ c.index-cells-rows.result (whole 0) (omega (arith, c.requires.shape, c.loop-j-test.true))) (λ i l e. c.put_negated.ensures.there i (omega (arith, l, c.put_negated.ensures.long, c.loop-j.invariant.0)) e) c.put_negated.ensures.others c.loop-j.invariant.1,
)
