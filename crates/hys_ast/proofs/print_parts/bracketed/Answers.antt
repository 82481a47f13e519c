use Rattle.std.proofs.Common.{List, ◌∷◌, codes, refl, ◌∙◌}
use Rattle.std.proofs.lemmas.Result.{IfOk-weaker}
use Rattle.hys_lex.specs.declared.sign.TheConstants as sign
use Rattle.hys_lex.specs.Spaced.{Spelling}
use Rattle.hys_ast.specs.Seen.{tree_of}
use Rattle.hys_ast.specs.Printed.{mark, expr_words}
use Rattle.hys_ast.proofs.print_parts.bracketed.Goals as goal

pub returns : goal.returns
returns c = IfOk-weaker c.put-3.result _ _ (λ u e rest.
    let r4 : List Spelling = mark sign.CLOSE_BRACKET (codes "]") ∷ rest in
    let r3 : List Spelling = expr_words (tree_of c.args.high.now) r4 in
    let r2 : List Spelling = mark sign.COMMA (codes ",") ∷ r3 in
    let r1 : List Spelling = expr_words (tree_of c.args.low.now) r2 in
    e (mark sign.CLOSE_BRACKET (codes "]")) rest refl ∙ c.in_ok-expression-2.ensures r4 ∙ c.in_ok-put-2.ensures (mark sign.COMMA (codes ",")) r3 refl ∙ c.in_ok-expression.ensures r2 ∙ c.in_ok-put.ensures (mark sign.OPEN_BRACKET (codes "[")) r1 refl) c.put-3.ensures
