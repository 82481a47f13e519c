use Rattle.std.proofs.Common.{◌≡◌, ℕ, ◌+◌, ◌++◌, string_bytes}
use Rattle.hys_gen.specs.Tanks.{draw, items_text}
use Rattle.hys_gen.proofs.chain.write_items.Given as goal

abbrev pub invariant-loop-tank : goal.invariant-loop-tank
invariant-loop-tank l = (done : ℕ) → l.tank ≡ done + 1 →
    (l.draw ≡ draw l.tanks done) ×
    (string_bytes l.text ≡ string_bytes l.initial.text ++ items_text l.section l.tanks done)
