use Rattle.std.proofs.Common.{◌≡◌, ◌<◌, subst, sym, refl, length, arith}
use Rattle.hys_formula.specs.Formulas.{FormulaTree, tree_of, joined}
use Rattle.hys_logic.specs.Literals.{column_in}
use Rattle.hys_logic.specs.Tables.{Collects}
use Rattle.hys_logic.proofs.Tabled.{collect_stop, collect_join}
use Rattle.hys_logic.proofs.table.+add_names.Goals as goal

pub returns-then-len-gt4 : goal.returns-then-len-gt4
returns-then-len-gt4 t c = let l : 4 < length c.args.settings.now.items = omega (arith, c.args.settings.now.ok) in collect_stop (column_in c.args.columns.now) (tree_of c.args.formula.now) c.args.settings.now.items l

pub returns-in_ok-add_names-in-Join-2 : goal.returns-in_ok-add_names-in-Join-2
returns-in_ok-add_names-in-Join-2 t c =
    let e : tree_of c.args.formula.now ≡ joined c.in-Join.field-0 (tree_of c.deref-in-Join.result.now) (tree_of c.deref-in-Join-2.result.now) = rw (c.in-Join.is, c.deref-in-Join.ensures, c.deref-in-Join-2.ensures) refl in
    subst (λ (f : FormulaTree). Collects (column_in c.args.columns.now) f c.args.settings.now.items c.add_names-in-Join-2.new.settings.items) (sym e)
    (collect_join (column_in c.args.columns.now) c.in-Join.field-0 (tree_of c.deref-in-Join.result.now) (tree_of c.deref-in-Join-2.result.now) c.args.settings.now.items c.add_names-in-Join.new.settings.items c.add_names-in-Join-2.new.settings.items
    c.in_ok-add_names-in-Join.ensures c.in_ok-add_names-in-Join-2.ensures)
