use Rattle.std.proofs.Common.{◌≡◌, ◌+◌, ◌*◌}
use Rattle.std.proofs.lemmas.List.{get_or-set_other}
use Rattle.hys_number.specs.Ops.{whole}
use Rattle.hys_tab.proofs.Steps.{far}
use Rattle.hys_tab.proofs.cells.write_cell.Goals as goal

pub returns-in-Some-clause-others : goal.returns-in-Some-clause-others
returns-in-Some-clause-others c = λ a b l m d.
    let e : (a * c.args.pivot.width + b ≡ c.args.i * c.args.pivot.width + c.args.j → ⊥) = far c.args.i c.args.j a b c.args.pivot.width c.requires.column_j m d in
    get_or-set_other c.args.cells.now (c.args.i * c.args.pivot.width + c.args.j) (a * c.args.pivot.width + b) c.in-Some.x (whole 0) e
