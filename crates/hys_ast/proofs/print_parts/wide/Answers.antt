use Rattle.std.proofs.Common.{List, ◌∷◌, codes, refl, ◌∙◌}
use Rattle.std.proofs.lemmas.Result.{IfOk-weaker}
use Rattle.hys_lex.specs.declared.sign.TheConstants as sign
use Rattle.hys_lex.specs.Spaced.{Spelling}
use Rattle.hys_ast.specs.Seen.{tree_of}
use Rattle.hys_ast.specs.Printed.{mark, expr_words}
use Rattle.hys_ast.proofs.print_parts.wide.Goals as goal

pub returns : goal.returns
returns c = IfOk-weaker c.put-2.result _ _ (λ u e rest.
    let r3 : List Spelling = mark sign.CLOSE_BRACKET (codes "]") ∷ rest in
    let r2 : List Spelling = expr_words (tree_of c.args.tolerance.now) r3 in
    let r1 : List Spelling = mark sign.OPEN_BRACKET (codes "[") ∷ r2 in
    e (mark sign.CLOSE_BRACKET (codes "]")) rest refl ∙ c.in_ok-expression-2.ensures r3 ∙ c.in_ok-put.ensures (mark sign.OPEN_BRACKET (codes "[")) r2 refl ∙ c.in_ok-expression.ensures r1) c.put-2.ensures
