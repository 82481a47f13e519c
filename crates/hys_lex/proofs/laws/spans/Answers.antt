use Rattle.hys_lex.proofs.Fronts.{cut_each, cut_rising}
use Rattle.hys_lex.proofs.Spacing.{token_spelled, token_ascii}
use Rattle.hys_lex.proofs.laws.spans.Goals as goal

pub returns : goal.returns
returns c = record {
  each = cut_each c.args.text.now c.args.tokens.now c.requires;
  rising = cut_rising c.args.text.now c.args.tokens.now c.requires;
  ascii = λ k d h. token_ascii c.args.text.now _ (cut_each c.args.text.now c.args.tokens.now c.requires k d h);
  spelled = λ k d h. token_spelled c.args.text.now _ (cut_each c.args.text.now c.args.tokens.now c.requires k d h);
}
