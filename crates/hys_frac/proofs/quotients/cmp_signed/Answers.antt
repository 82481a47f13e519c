use Rattle.hys_frac.proofs.SignedOrder.{both_below, both_above, apart}
use Rattle.hys_frac.proofs.quotients.cmp_signed.Goals as goal
use Rattle.hys_frac.proofs.quotients.cmp_signed.Goals.{else-x-lt0-via-then-x-lt0+else-z-lt0, else-x-lt0-via-else-x-lt0}

pub returns-then-z-lt0 : goal.returns-then-z-lt0
returns-then-z-lt0 c = both_below c.args.x c.args.z c.args.y c.args.w _ _ c.cmp_ratios.result c.requires.left c.requires.right c.ranges.x c.ranges.z c.if-x-lt0.true c.if-z-lt0.true c.unsigned_abs.ensures.value c.unsigned_abs-then-z-lt0.ensures.value c.cmp_ratios.ensures

pub returns-then-x-lt0-2 : goal.returns-then-x-lt0-2
returns-then-x-lt0-2 c = elim c.else-x-lt0.branch [
  | else-x-lt0-via-then-x-lt0+else-z-lt0 w ↦ apart c.args.x c.args.z c.args.y c.args.w c.requires.left c.requires.right c.ranges.x c.ranges.z c.if-x-lt0-2.true w.if-z-lt0.false
  | else-x-lt0-via-else-x-lt0 w ↦ absurd (cc)
]

pub returns-then-z-lt0-2 : goal.returns-then-z-lt0-2
returns-then-z-lt0-2 c = apart c.args.z c.args.x c.args.w c.args.y c.requires.right c.requires.left c.ranges.z c.ranges.x c.if-z-lt0-2.true c.if-x-lt0-2.false

pub returns-else-z-lt0-2 : goal.returns-else-z-lt0-2
returns-else-z-lt0-2 c = both_above c.args.x c.args.z c.args.y c.args.w _ _ c.cmp_ratios-else-z-lt0-2.result c.requires.left c.requires.right c.ranges.x c.ranges.z c.if-x-lt0-2.false c.if-z-lt0-2.false c.unsigned_abs-else-z-lt0-2.ensures.value c.unsigned_abs-else-z-lt0-2-2.ensures.value c.cmp_ratios-else-z-lt0-2.ensures
