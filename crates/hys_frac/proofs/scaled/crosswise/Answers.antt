use Rattle.hys_frac.proofs.Fracs.{value_along, fits_along}
use Rattle.hys_frac.proofs.Crosswise.{Crossed, crossed}
use Rattle.hys_frac.proofs.scaled.crosswise.Goals as goal

pub nonzero_div-num : goal.nonzero_div-num
nonzero_div-num c = let x : Crossed c.args.num c.args.den c.args.up c.args.down c.gcd-left.result c.gcd-right.result = crossed c.args.num c.args.den c.args.up c.args.down c.gcd-left.result c.gcd-right.result c.requires.above c.requires.below c.requires.up c.requires.down c.requires.left c.requires.right c.gcd-left.ensures c.gcd-right.ensures in x.left_some

pub nonzero_div-up : goal.nonzero_div-up
nonzero_div-up c = let x : Crossed c.args.num c.args.den c.args.up c.args.down c.gcd-left.result c.gcd-right.result = crossed c.args.num c.args.den c.args.up c.args.down c.gcd-left.result c.gcd-right.result c.requires.above c.requires.below c.requires.up c.requires.down c.requires.left c.requires.right c.gcd-left.ensures c.gcd-right.ensures in x.right_some

pub nonzero_div-den : goal.nonzero_div-den
nonzero_div-den c = let x : Crossed c.args.num c.args.den c.args.up c.args.down c.gcd-left.result c.gcd-right.result = crossed c.args.num c.args.den c.args.up c.args.down c.gcd-left.result c.gcd-right.result c.requires.above c.requires.below c.requires.up c.requires.down c.requires.left c.requires.right c.gcd-left.ensures c.gcd-right.ensures in x.right_some

pub nonzero_div-down : goal.nonzero_div-down
nonzero_div-down c = let x : Crossed c.args.num c.args.den c.args.up c.args.down c.gcd-left.result c.gcd-right.result = crossed c.args.num c.args.den c.args.up c.args.down c.gcd-left.result c.gcd-right.result c.requires.above c.requires.below c.requires.up c.requires.down c.requires.left c.requires.right c.gcd-left.ensures c.gcd-right.ensures in x.left_some

pub narrow_products-requires-clause-above : goal.narrow_products-requires-clause-above
narrow_products-requires-clause-above c = let x : Crossed c.args.num c.args.den c.args.up c.args.down c.gcd-left.result c.gcd-right.result = crossed c.args.num c.args.den c.args.up c.args.down c.gcd-left.result c.gcd-right.result c.requires.above c.requires.below c.requires.up c.requires.down c.requires.left c.requires.right c.gcd-left.ensures c.gcd-right.ensures in x.above

pub narrow_products-requires-clause-first : goal.narrow_products-requires-clause-first
narrow_products-requires-clause-first c = let x : Crossed c.args.num c.args.den c.args.up c.args.down c.gcd-left.result c.gcd-right.result = crossed c.args.num c.args.den c.args.up c.args.down c.gcd-left.result c.gcd-right.result c.requires.above c.requires.below c.requires.up c.requires.down c.requires.left c.requires.right c.gcd-left.ensures c.gcd-right.ensures in x.first

pub narrow_products-requires-clause-second : goal.narrow_products-requires-clause-second
narrow_products-requires-clause-second c = let x : Crossed c.args.num c.args.den c.args.up c.args.down c.gcd-left.result c.gcd-right.result = crossed c.args.num c.args.den c.args.up c.args.down c.gcd-left.result c.gcd-right.result c.requires.above c.requires.below c.requires.up c.requires.down c.requires.left c.requires.right c.gcd-left.ensures c.gcd-right.ensures in x.second

pub narrow_products-requires-clause-reduced : goal.narrow_products-requires-clause-reduced
narrow_products-requires-clause-reduced c = let x : Crossed c.args.num c.args.den c.args.up c.args.down c.gcd-left.result c.gcd-right.result = crossed c.args.num c.args.den c.args.up c.args.down c.gcd-left.result c.gcd-right.result c.requires.above c.requires.below c.requires.up c.requires.down c.requires.left c.requires.right c.gcd-left.ensures c.gcd-right.ensures in x.reduced

pub returns-clause-value : goal.returns-clause-value
returns-clause-value c = let x : Crossed c.args.num c.args.den c.args.up c.args.down c.gcd-left.result c.gcd-right.result = crossed c.args.num c.args.den c.args.up c.args.down c.gcd-left.result c.gcd-right.result c.requires.above c.requires.below c.requires.up c.requires.down c.requires.left c.requires.right c.gcd-left.ensures c.gcd-right.ensures in value_along _ _ c.narrow_products.result x.same c.narrow_products.ensures.value

pub returns-clause-fits : goal.returns-clause-fits
returns-clause-fits c = let x : Crossed c.args.num c.args.den c.args.up c.args.down c.gcd-left.result c.gcd-right.result = crossed c.args.num c.args.den c.args.up c.args.down c.gcd-left.result c.gcd-right.result c.requires.above c.requires.below c.requires.up c.requires.down c.requires.left c.requires.right c.gcd-left.ensures c.gcd-right.ensures in fits_along _ _ c.narrow_products.result x.same c.narrow_products.ensures.fits
