use Rattle.std.proofs.Common.{◌++◌, arith, map}
use Rattle.hys_sys.specs.Exact.{fresh_variables}
use Rattle.hys_exact.specs.Columns.{fresh_column}
use Rattle.hys_mld.proofs.FreshColumns.{fresh_more}
use Rattle.hys_mld.proofs.columns.add_fresh.Goals as goal

pub loop-k-preserved : goal.loop-k-preserved
loop-k-preserved c =
    fresh_more c.loop-k.columns.items (c.args.columns.now.items ++ map fresh_column (fresh_variables 1 c.args.count)) c.push.new.self.items c.loop-k.k c.args.count c.in_ok-fresh.field-0 c.loop-k.invariant (omega arith) c.in_ok-fresh.ensures c.in_ok-push.ensures.items
