use Rattle.std.proofs.Common.{arith, subst, length}
use Rattle.hys_tab.specs.Table.{tableau_of}
use Rattle.std.proofs.Common.{refl}
use Rattle.hys_dual.proofs.Standings.{RowsStand, all_stand}
use Rattle.hys_dual.proofs.stand.stands.Goals as goal

pub returns-clause-each : goal.returns-clause-each
returns-clause-each c = all_stand (tableau_of c.args.tableau.now) (length c.args.tableau.now.outsides) (length c.args.tableau.now.basics) c.loop-column.column c.loop-column.list.items c.requires.placed refl refl
    (omega (arith, c.columns-columns.ensures.value, c.loop-column-test.false, c.loop-column.auto.column-end))
    (subst (λ z. RowsStand (tableau_of c.args.tableau.now) z c.loop-column.list.items) c.rows-rows.ensures.value c.loop-column.invariant.rows) c.loop-column.invariant.columns
