use Rattle.hys_search.proofs.pick.BestBoundPicker.pick.Goals as goal
use Rattle.hys_search.proofs.Picking.{least_one}

pub loop-i-init : goal.loop-i-init
loop-i-init c = least_one c.args.waiting.now
