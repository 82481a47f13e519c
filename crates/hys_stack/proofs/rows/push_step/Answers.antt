use Rattle.std.proofs.Common.{rules}
use Rattle.hys_stack.proofs.Stacked.{behind_few}
use Rattle.hys_stack.proofs.rows.push_step.Goals as goal

pub push_equations-requires-clause-room_behind : goal.push_equations-requires-clause-room_behind
push_equations-requires-clause-room_behind c = behind_few c.args.system.now c.args.columns c.args.step _ _ c.requires.system c.requires.columns c.requires.room (search rules) (search rules)
