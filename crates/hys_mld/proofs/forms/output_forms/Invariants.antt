use Rattle.std.proofs.Common.{◌≡◌, ◌++◌, drop}
use Rattle.hys_exact.specs.Built.{is_output_name}
use Rattle.hys_exact.specs.Columns.{of_each}
use Rattle.hys_mld.specs.Forms.{output_at}
use Rattle.hys_mld.proofs.forms.output_forms.Given as goal

abbrev pub invariant-loop-n : goal.invariant-loop-n
invariant-loop-n l = l.outputs.items ++ of_each is_output_name (output_at l.places l.forms) l.n (drop l.n l.names) ≡ of_each is_output_name (output_at l.places l.forms) 0 l.names
