use Rattle.std.proofs.Common.{◌≤◌, arith}
use Rattle.hys_rows.proofs.Trying.{form_boxed, form_apart, literal_apart}
use Rattle.hys_rows.proofs.tests.choice_body.Goals as goal

pub returns-clause-placed : goal.returns-clause-placed
returns-clause-placed c =
    let l : 5 ≤ 6000 = omega arith in (
      c.requires.names,
      literal_apart c.args.when c.requires.names c.requires.few,
      c.in_ok-hit.ensures.placed,
      form_boxed c.args.boxes.now c.in_ok-hit.hit c.requires.long c.in_ok-hit.ensures.names,
      form_apart 6000 c.in_ok-hit.hit l c.in_ok-hit.ensures.columns,
      c.in_ok-other.ensures.placed,
      form_boxed c.args.boxes.now c.in_ok-other.other c.requires.long c.in_ok-other.ensures.names,
      form_apart 6000 c.in_ok-other.other l c.in_ok-other.ensures.columns,
    )
