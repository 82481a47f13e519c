use Rattle.std.proofs.Common.{◌≡◌, ◌∙◌, arith, subst}
use Rattle.hys_tab.specs.Table.{Table, IsTable, tableau_of, multipliers_of}
use Rattle.hys_tab.proofs.Multiplied.{pairs_in, read_few, read_rise}
use Rattle.hys_tab.proofs.tableau.Tableau.multipliers.Goals as goal

pub returns-clause-value : goal.returns-clause-value
returns-clause-value c =
    let t : Table = record { cells = c.self.inside.cells.items; basics = c.self.inside.basic.items; outsides = c.self.inside.outside.items } in
    subst (λ z. c.of.result ≡ multipliers_of (tableau_of z)) c.self.view_is
    (pairs_in t c.of.result c.as_slice.result.now c.as_slice-2.result.now c.as_slice-3.result.now c.in_ok-costs.costs.items c.len-rows.result (omega (arith, c.len-rows.ensures)) c.as_slice.ensures.value c.as_slice-2.ensures.value
    c.as_slice-3.ensures.value (omega (arith, c.in_ok-costs.ensures.long)) c.in_ok-costs.ensures.each (c.of.ensures ∙ c.in_ok-pairs.ensures))

pub returns-clause-rise : goal.returns-clause-rise
returns-clause-rise c = read_rise c.args.self.now c.of.result (returns-clause-value c)

pub returns-clause-few : goal.returns-clause-few
returns-clause-few c = read_few c.args.self.now c.of.result (subst IsTable c.self.view_is c.self.invariant) (returns-clause-value c)
