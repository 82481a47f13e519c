use Rattle.std.proofs.Common.{◌≡◌, ℕ, List, true, ◌∙◌, sym, ap, slice_index, Ok, Result}
use Rattle.hys_number.specs.Number.{Number}
use Rattle.hys_frac.specs.Read.{unsigned_reading, turned, without_sign, reading}
use Rattle.hys_frac.specs.declared.read.FracFault.{FracFault}
use Rattle.hys_number.proofs.Bools.{eq_true, eq_false}
use Rattle.hys_frac.proofs.frac.Frac.read.Goals as goal

plain : (text u : List ℕ) (k : ℕ) (r : Result Number FracFault) → k ≡ slice_index text 0 → (k ≡ 45 → ⊥) → u ≡ without_sign text → r ≡ unsigned_reading u → r ≡ reading text
unfolding reading
plain text u k r e h i f = rw (eq_false (slice_index text 0) 45 (λ x. h (e ∙ x)), ← i) f

minus : (text u : List ℕ) (k : ℕ) (r q : Result Number FracFault) → k ≡ slice_index text 0 → k ≡ 45 → u ≡ without_sign text → r ≡ unsigned_reading u → q ≡ turned true r → q ≡ reading text
unfolding reading
minus text u k r q e h i f g = rw (eq_true (slice_index text 0) 45 (sym e ∙ h), ← i, ← f) g

pub returns-then-byte_at-ne45 : goal.returns-then-byte_at-ne45
returns-then-byte_at-ne45 c = plain _ _ _ _ c.byte_at.ensures c.if-byte_at-ne45.true c.unsigned.ensures c.read_unsigned-number.ensures

pub returns-in-Ok : goal.returns-in-Ok
returns-in-Ok c = minus _ _ _ _ _ c.byte_at.ensures c.if-byte_at-ne45.false c.unsigned.ensures c.read_unsigned-number.ensures (ap Ok c.neg.ensures ∙ ap (turned true) (sym c.in-Ok.is))

pub returns-in-Err : goal.returns-in-Err
returns-in-Err c = minus _ _ _ _ _ c.byte_at.ensures c.if-byte_at-ne45.false c.unsigned.ensures c.read_unsigned-number.ensures (ap (turned true) (sym c.in-Err.is))
