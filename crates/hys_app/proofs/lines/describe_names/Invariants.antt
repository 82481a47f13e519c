use Rattle.std.proofs.Common.{◌≡◌, ◌++◌, drop, string_bytes}
use Rattle.hys_app.specs.Lines.{names_text}
use Rattle.hys_app.proofs.lines.describe_names.Given as goal

abbrev pub invariant-loop-name : goal.invariant-loop-name
invariant-loop-name l = string_bytes l.text ++ names_text (drop l.name-index l.names) ≡ names_text l.names
