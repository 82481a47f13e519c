use Rattle.std.proofs.Common.{◌≡◌, ◌∙◌, arith, subst, sym, length, slice_set, slice_index_or, ◌<◌}
use Rattle.std.proofs.lemmas.Grind.{get_or_default_zero}
use Rattle.std.proofs.lemmas.List.{with_items_is}
use Rattle.std.specs.Vec.{with_items}
use Rattle.hys_simplex.specs.Tableau.{pivot as pivot_of}
use Rattle.hys_simplex.specs.Alike.{IsAlike}
use Rattle.hys_tab.specs.Table.{Table, IsTable, tableau_of}
use Rattle.hys_tab.specs.Fits.{IsFirstUnfit}
use Rattle.hys_tab.proofs.Tables.{first_in, pivot_in, pivoted_table}
use Rattle.hys_tab.proofs.tableau.Tableau.pivot.Goals as goal

pub returns-in-Some-clause-first : goal.returns-in-Some-clause-first
returns-in-Some-clause-first c =
    let t : Table = record { cells = c.self.inside.cells.items; basics = c.self.inside.basic.items; outsides = c.self.inside.outside.items } in
    let em : c.len.result ≡ length c.self.inside.basic.items = omega (arith, c.len.ensures) in
    let en : c.len-2.result ≡ length c.self.inside.outside.items = omega (arith, c.len-2.ensures) in
    subst (λ z. IsFirstUnfit (tableau_of z) c.args.row c.args.col c.in-Some.i c.in-Some.j) c.self.view_is
    (first_in t c.as_slice.result.now c.len.result c.len-2.result c.args.row c.args.col c.in-Some.i c.in-Some.j em en c.as_slice.ensures.value c.in-Some.ensures)

pub returns-in-None-clause-done : goal.returns-in-None-clause-done
returns-in-None-clause-done c =
    let t : Table = record { cells = c.self.inside.cells.items; basics = c.self.inside.basic.items; outsides = c.self.inside.outside.items } in
    let em : c.len.result ≡ length c.self.inside.basic.items = omega (arith, c.len.ensures) in
    let en : c.len-2.result ≡ length c.self.inside.outside.items = omega (arith, c.len-2.ensures) in
    let lr : c.args.row < length c.self.inside.basic.items = subst (λ z. c.args.row < length z.basics) (sym c.self.view_is) c.requires.row in
    let lc : c.args.col < length c.self.inside.outside.items = subst (λ z. c.args.col < length z.outsides) (sym c.self.view_is) c.requires.col in
    let written : (with_items c.self.inside.cells c.write_rows.new.cells).items ≡ c.write_rows.new.cells = with_items_is c.self.inside.cells c.write_rows.new.cells (omega (arith, c.write_rows.ensures.shape, c.as_mut_slice.ensures.len)) in
    subst (λ ys. IsAlike (tableau_of (record { cells = ys; basics = slice_set t.basics c.args.row c.index.result.now; outsides = slice_set t.outsides c.args.col c.index-leaving.result.now })) (pivot_of (tableau_of c.args.self.now) c.args.row c.args.col)) (sym written)
    (subst (λ z. IsAlike (tableau_of (record { cells = c.write_rows.new.cells; basics = slice_set t.basics c.args.row c.index.result.now; outsides = slice_set t.outsides c.args.col c.index-leaving.result.now })) (pivot_of (tableau_of z) c.args.row c.args.col)) c.self.view_is
    (pivot_in t c.as_mut_slice.result.now c.write_rows.new.cells c.len.result c.len-2.result c.args.row c.args.col c.index.result.now c.index-leaving.result.now em en c.as_mut_slice.ensures.value
    lr lc
    (c.index.ensures ∙ get_or_default_zero c.self.inside.outside.items c.args.col c.index.result.now lc) (c.index-leaving.ensures ∙ get_or_default_zero c.self.inside.basic.items c.args.row c.index-leaving.result.now lr) c.write_rows.ensures.done))

pub invariant_of-self : goal.invariant_of-self
invariant_of-self c =
    let t : Table = record { cells = c.self.inside.cells.items; basics = c.self.inside.basic.items; outsides = c.self.inside.outside.items } in
    let em : c.len.result ≡ length c.self.inside.basic.items = omega (arith, c.len.ensures) in
    let en : c.len-2.result ≡ length c.self.inside.outside.items = omega (arith, c.len-2.ensures) in
    let lr : c.args.row < length c.self.inside.basic.items = subst (λ z. c.args.row < length z.basics) (sym c.self.view_is) c.requires.row in
    let lc : c.args.col < length c.self.inside.outside.items = subst (λ z. c.args.col < length z.outsides) (sym c.self.view_is) c.requires.col in
    let ex : c.index.result.now ≡ slice_index_or t.outsides c.args.col 0 = c.index.ensures ∙ get_or_default_zero c.self.inside.outside.items c.args.col c.index.result.now lc in
    let ey : c.index-leaving.result.now ≡ slice_index_or t.basics c.args.row 0 = c.index-leaving.ensures ∙ get_or_default_zero c.self.inside.basic.items c.args.row c.index-leaving.result.now lr in
    let written : (with_items c.self.inside.cells c.write_rows.new.cells).items ≡ c.write_rows.new.cells = with_items_is c.self.inside.cells c.write_rows.new.cells (omega (arith, c.write_rows.ensures.shape, c.as_mut_slice.ensures.len)) in
    subst (λ ys. IsTable (record { cells = ys; basics = slice_set t.basics c.args.row c.index.result.now; outsides = slice_set t.outsides c.args.col c.index-leaving.result.now })) (sym written)
    (pivoted_table t c.as_mut_slice.result.now c.write_rows.new.cells c.as_slice.result.now c.len.result c.len-2.result c.args.row c.args.col c.index.result.now c.index-leaving.result.now em en c.as_mut_slice.ensures.value
    lr lc ex ey c.self.invariant c.write_rows.ensures.shape c.as_slice.ensures.value c.in-None.ensures c.write_rows.ensures.done)
