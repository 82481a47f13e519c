use Rattle.std.proofs.Common.{◌≡◌, ◌+◌, ◌-◌, ℕ, List, length, take, drop, arith, ◌∙◌, sym, ap, slice_index, Result}
use Rattle.std.specs.Float.Numeral.{digits_len}
use Rattle.hys_number.specs.Number.{Number}
use Rattle.hys_frac.specs.Read.{literal_reading, ratio_reading, unsigned_reading}
use Rattle.hys_frac.specs.declared.read.FracFault.{FracFault}
use Rattle.hys_frac.proofs.Numerals.{digits_at_front}
use Rattle.hys_number.proofs.Bools.{eq_true, eq_false}
use Rattle.hys_frac.proofs.Readings.{front}
use Rattle.std.proofs.lemmas.List.{take_all}
use Rattle.std.proofs.Common.{length-drop}
use Rattle.hys_frac.proofs.read.read_unsigned.Goals as goal

pub read_ratio-requires : goal.read_ratio-requires
read_ratio-requires c = digits_at_front c.args.text.now c.digits_end-end.result (omega (arith, c.digits_end-end.ensures.end))

slash : (text : List ℕ) (n k : ℕ) (r : Result Number FracFault) → n ≡ digits_len text → k ≡ slice_index text n → k ≡ 47 → r ≡ ratio_reading (take n text) (take (length text - (n + 1)) (drop (n + 1) text)) → r ≡ unsigned_reading text
unfolding unsigned_reading
slash text n k r e f g h = rw (← e, eq_true (slice_index text n) 47 (sym f ∙ g)) (h ∙ ap (ratio_reading (take n text)) (take_all (length text - (n + 1)) (drop (n + 1) text) (omega (arith, length-drop (n + 1) text))))

none : (text : List ℕ) (n k : ℕ) (r : Result Number FracFault) → n ≡ digits_len text → k ≡ slice_index text n → (k ≡ 47 → ⊥) → r ≡ literal_reading text → r ≡ unsigned_reading text
unfolding unsigned_reading
none text n k r e f g h = rw (← e, eq_false (slice_index text n) 47 (λ i. g (f ∙ i))) h

pub returns-then-byte_at-eq47 : goal.returns-then-byte_at-eq47
returns-then-byte_at-eq47 c = slash _ _ _ _ (front _ c.args.text.now c.digits_end-end.ensures.end) c.byte_at.ensures c.if-byte_at-eq47.true c.read_ratio.ensures

pub returns-else-byte_at-eq47 : goal.returns-else-byte_at-eq47
returns-else-byte_at-eq47 c = none _ _ _ _ (front _ c.args.text.now c.digits_end-end.ensures.end) c.byte_at.ensures c.if-byte_at-eq47.false c.read_literal.ensures
