use Rattle.hys_ast.proofs.LexemeSteps.{adds}
use Rattle.hys_ast.proofs.lexeme.lexemes.Goals as goal

pub loop-token-preserved : goal.loop-token-preserved
loop-token-preserved c =
    adds c.args.text.now c.args.tokens.now c.loop-token.token-index _ c.loop-token.found.items _ c.loop-token.place c.advance-place.result c.in_ok-text.text c.spans.ensures.each c.spans.ensures.rising c.loop-token-test.true c.loop-token.invariant
    c.in_ok-push.ensures.items c.in_ok-text.ensures c.advance-place.ensures
