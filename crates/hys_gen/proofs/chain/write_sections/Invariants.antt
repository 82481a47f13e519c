use Rattle.std.proofs.Common.{◌≡◌, ◌++◌, drop, string_bytes}
use Rattle.hys_gen.specs.Tanks.{sections_text}
use Rattle.hys_gen.proofs.chain.write_sections.Given as goal

abbrev pub invariant-loop-section : goal.invariant-loop-section
invariant-loop-section l =
    string_bytes l.text ++ sections_text l.tanks (drop l.section-index l.sections) ≡
    string_bytes l.initial.text ++ sections_text l.tanks l.sections
