use Rattle.std.proofs.Common.{arith, sym, ◌∙◌}
use Rattle.std.proofs.lemmas.List.Sums.{prefix_len_is}
use Rattle.hys_lex.specs.Bytes.{is_name_byte}
use Rattle.hys_lex.proofs.piece.word_len.Goals as goal

pub returns-then-not-is_name_byte : goal.returns-then-not-is_name_byte
returns-then-not-is_name_byte c = record {
  value = sym (prefix_len_is is_name_byte c.args.text.now c.loop-n.n 0 (omega arith) c.loop-n.invariant (λ h. sym c.is_name_byte.ensures ∙ c.if-not-is_name_byte.true));
  within = omega arith;
}

pub returns : goal.returns
returns c = record {
  value = sym (prefix_len_is is_name_byte c.args.text.now _ 0 (omega arith) (λ k h. c.loop-n.invariant k (omega arith)) (λ h. absurd (omega arith)));
  within = omega arith;
}
