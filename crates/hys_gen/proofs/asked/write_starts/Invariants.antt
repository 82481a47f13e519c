use Rattle.std.proofs.Common.{◌≡◌, ◌++◌, drop, string_bytes}
use Rattle.hys_gen.specs.Requested.{further_starts}
use Rattle.hys_gen.proofs.asked.write_starts.Given as goal

abbrev pub invariant-loop-tank : goal.invariant-loop-tank
invariant-loop-tank l =
    string_bytes l.text ++ further_starts l.tanks (drop l.tank-index l.further) ≡
    string_bytes l.initial.text ++ further_starts l.tanks l.further
