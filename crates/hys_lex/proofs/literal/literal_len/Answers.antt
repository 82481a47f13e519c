use Rattle.std.proofs.Common.{arith, drop}
use Rattle.std.proofs.lemmas.List.{take_rest}
use Rattle.hys_lex.specs.Pieces.{IsLongest, IsExponent}
use Rattle.hys_lex.proofs.Literals.{literal_none, literal_joined}
use Rattle.hys_lex.proofs.literal.literal_len.Goals as goal

pub returns-then-mantissa-eq0 : goal.returns-then-mantissa-eq0
returns-then-mantissa-eq0 c = literal_none c.args.text.now (rw c.if-mantissa-eq0.true at c.mantissa_len-mantissa.ensures)

pub returns : goal.returns
returns c = let e : IsLongest IsExponent (drop c.mantissa_len-mantissa.result c.args.text.now) c.exponent_len.result = rw take_rest at c.exponent_len.ensures in
    literal_joined c.args.text.now _ _ c.mantissa_len-mantissa.ensures (omega arith) e
