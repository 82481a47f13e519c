use Rattle.std.proofs.Common.{◌≡◌, ◌++◌, map, drop}
use Rattle.hys_base.specs.Differ.{Differ}
use Rattle.hys_file.specs.Reading.{output_name}
use Rattle.hys_file.proofs.rules.meet_outputs.Given as goal

abbrev pub invariant-loop-output : goal.invariant-loop-output
invariant-loop-output l =
    (l.met ++ map output_name (drop l.output-index l.outputs) ≡ l.fn.met ++ map output_name l.outputs) × (Differ l.fn.met → Differ l.met)
