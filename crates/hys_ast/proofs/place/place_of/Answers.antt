use Rattle.std.proofs.Common.{ap, sym, ◌∙◌, arith}
use Rattle.hys_ast.specs.Places.{place_at}
use Rattle.hys_ast.proofs.place.place_of.Goals as goal

pub advance-requires-clause-known : goal.advance-requires-clause-known
advance-requires-clause-known c = c.start.ensures.place ∙ ap (place_at c.args.text.now) (sym c.start.ensures.first)

pub advance-requires-clause-ahead : goal.advance-requires-clause-ahead
advance-requires-clause-ahead c = omega (arith, c.start.ensures.first)
