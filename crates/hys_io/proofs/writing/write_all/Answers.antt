use Rattle.std.proofs.Common.{◌∙◌, arith}
use Rattle.std.proofs.lemmas.List.{take_rest}
use Rattle.hys_io.proofs.Fronts.{appends}
use Rattle.hys_io.proofs.writing.write_all.Goals as goal

pub loop-done-preserved : goal.loop-done-preserved
loop-done-preserved g c = record {
  within = omega (arith, c.in_ok-done.ensures.bound);
  written = appends _ _ _ _ _ _ c.loop-done.invariant.written (rw (take_rest c.args.text.now c.loop-done.done) at c.in_ok-done.ensures.appended);
  calm = c.in_ok-done.ensures.calm ∙ c.loop-done.invariant.calm;
}
