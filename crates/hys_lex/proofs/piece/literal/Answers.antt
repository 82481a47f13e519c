use Rattle.std.proofs.Common.{arith, inr}
use Rattle.hys_lex.proofs.Matches.{literal_match, no_literal}
use Rattle.hys_lex.proofs.piece.literal.Goals as goal

pub returns-then-len-eq0 : goal.returns-then-len-eq0
returns-then-len-eq0 c = no_literal c.args.text.now c.requires (rw c.if-len-eq0.true at c.literal_len-len.ensures)

pub returns-then-len-gt-LITERAL_LIMIT : goal.returns-then-len-gt-LITERAL_LIMIT
returns-then-len-gt-LITERAL_LIMIT c = inr (c.literal_len-len.result, c.if-len-gt-LITERAL_LIMIT.true, literal_match c.args.text.now _ c.requires c.literal_len-len.ensures (omega arith))

pub returns : goal.returns
returns c = (literal_match c.args.text.now _ c.requires c.literal_len-len.ensures (omega arith), c.if-len-gt-LITERAL_LIMIT.false)
