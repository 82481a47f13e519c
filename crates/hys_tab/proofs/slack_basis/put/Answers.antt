use Rattle.std.proofs.Common.{◌≡◌, ◌+◌, ◌*◌}
use Rattle.std.proofs.lemmas.List.{get_or-set_other}
use Rattle.hys_number.specs.Ops.{whole}
use Rattle.hys_tab.proofs.Steps.{far}
use Rattle.hys_tab.proofs.slack_basis.put.Goals as goal

pub returns-clause-others : goal.returns-clause-others
returns-clause-others c = λ a b l m d.
    let e : (a * c.args.width + b ≡ c.args.i * c.args.width + c.args.j → ⊥) = far c.args.i c.args.j a b c.args.width c.requires.column m d in
    get_or-set_other c.args.cells.now (c.args.i * c.args.width + c.args.j) (a * c.args.width + b) c.fitting.result (whole 0) e
