-- What a section says of one tank more.
use Rattle.std.proofs.Common.{◌≡◌, ℕ, suc, ◌+◌, ◌++◌, refl, arith}
use Rattle.hys_gen.specs.declared.section.Section.{Section}
use Rattle.hys_gen.specs.Tanks.{draw, draw_after, tenths, item_text, items_text}

pub draw_next : (k i : ℕ) → draw k (i + 1) ≡ draw_after (draw k i)
draw_next k i = let e : i + 1 ≡ suc i = omega arith in rw e refl

pub items_next : (s : Section) (k i : ℕ) →
    items_text s k (i + 1) ≡ items_text s k i ++ item_text s (i + 1) (tenths (draw k (i + 1)))
items_next s k i = let e : i + 1 ≡ suc i = omega arith in rw e refl
