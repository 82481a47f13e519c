use Rattle.std.proofs.Common.{◌≡◌, ◌+◌, ◌*◌, ◌∙◌, sym, subst, arith, length}
use Rattle.std.proofs.lemmas.List.{with_items_is}
use Rattle.std.specs.Vec.{with_items}
use Rattle.hys_tab.specs.Table.{IsTable}
use Rattle.hys_tab.proofs.Tables.{begins}
use Rattle.hys_tab.proofs.tableau.start.Goals as goal

pub invariant_of-result : goal.invariant_of-result
invariant_of-result c =
    let v = c.in_ok-cells-in-Some.cells in
    let long : length c.fill.new.cells ≡ v.len = omega (arith, c.fill.ensures.shape, c.as_mut_slice.ensures.len) in
    let written : (with_items v c.fill.new.cells).items ≡ c.fill.new.cells = with_items_is v c.fill.new.cells long in
    let size : v.len ≡ (length c.items-rows.result.now + 1) * (length c.items-columns.result.now + 1) = c.in_ok-cells-in-Some.ensures.len ∙ c.in-Some.ensures.1 in
    subst (λ ys. IsTable (record { cells = ys; basics = c.in_ok-basic-in-Some.basic.items; outsides = c.in_ok-outside-in-Some.outside.items })) (sym written)
    (begins c.fill.new.cells c.in_ok-basic-in-Some.basic.items c.in_ok-outside-in-Some.outside.items (length c.items-rows.result.now) (length c.items-columns.result.now) (long ∙ size)
    (omega (arith, c.if-rows-ge-MOST.false)) (omega (arith, c.if-columns-ge-MOST.false)) c.in_ok-basic-in-Some.ensures.length c.in_ok-basic-in-Some.ensures.each
    c.in_ok-outside-in-Some.ensures.length c.in_ok-outside-in-Some.ensures.each (rw (c.items-rows.ensures, c.items-columns.ensures) c.fill.ensures.fit))
