use Rattle.std.proofs.Common.{◌≡◌, ◌++◌, ◌+◌, drop}
use Rattle.hys_stack.specs.Stacking.{equations}
use Rattle.hys_stack.proofs.rows.push_equations.Given as goal

abbrev pub invariant-loop-form : goal.invariant-loop-form
invariant-loop-form l = (l.out.items ++ equations l.offset l.column (drop l.form-index l.forms) ≡ l.fn.out.items ++ equations l.offset l.next l.forms) × (l.column ≡ l.next + l.form-index)
