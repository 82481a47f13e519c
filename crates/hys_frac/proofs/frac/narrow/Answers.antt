use Rattle.std.proofs.Common.{unsigned_abs}
use Rattle.hys_number.specs.Number.{make}
use Rattle.hys_frac.proofs.Fracs.{narrow_yes, narrow_no_num, narrow_no_den, some_fits, none_fits}
use Rattle.hys_frac.proofs.frac.narrow.Goals as goal
use Rattle.hys_frac.proofs.frac.narrow.Goals.{else-unsigned_abs-via-then-unsigned_abs+else-den, else-unsigned_abs-via-else-unsigned_abs}

pub returns-then-den-clause-fits : goal.returns-then-den-clause-fits
returns-then-den-clause-fits c = some_fits (make c.args.num (unsigned_abs c.args.den)) (make c.args.num (unsigned_abs c.args.den))
    (narrow_yes c.args.num c.args.den _ c.requires.positive c.requires.reduced c.ranges.num c.ranges.den c.unsigned_abs.ensures.value c.if-unsigned_abs.true c.if-den.true)

pub returns-else-unsigned_abs-clause-fits : goal.returns-else-unsigned_abs-clause-fits
returns-else-unsigned_abs-clause-fits c = elim c.else-unsigned_abs.branch [
  | else-unsigned_abs-via-then-unsigned_abs+else-den w ↦ none_fits _ (narrow_no_den c.args.num c.args.den c.requires.positive c.requires.reduced c.ranges.den w.if-den.false)
  | else-unsigned_abs-via-else-unsigned_abs w ↦ none_fits _ (narrow_no_num c.args.num c.args.den _ c.requires.positive c.requires.reduced c.ranges.num c.unsigned_abs.ensures.value w.if-unsigned_abs.false)
]
