use Rattle.std.specs.Fmt.{decimal}
use Rattle.hys_sim.specs.Written.{numbers_text}
use Rattle.hys_sim.proofs.Texting.{six_parts}
use Rattle.hys_sim.proofs.writing.write_transition.Goals as goal

pub returns : goal.returns
returns c =
    six_parts c.args.out.now.items _ _ _ _ _ _ (decimal c.args.number) (numbers_text c.args.state.now) (numbers_text c.args.input.now) (numbers_text c.args.stepped.now.aux) (numbers_text c.args.stepped.now.outputs)
    c.in_ok-write_number.ensures c.in_ok-write_values.ensures c.in_ok-write_values-2.ensures (rw c.items.ensures at c.in_ok-write_values-3.ensures) (rw c.items-2.ensures at c.in_ok-write_values-4.ensures) c.in_ok-push.ensures.items
