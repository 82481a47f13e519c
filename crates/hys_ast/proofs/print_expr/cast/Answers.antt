use Rattle.std.proofs.Common.{refl, ◌∙◌, ◌∷◌, codes, List}
use Rattle.std.proofs.lemmas.Result.{IfOk-weaker}
use Rattle.hys_lex.specs.declared.sign.TheConstants as sign
use Rattle.hys_lex.specs.declared.keyword.TheConstants as keyword
use Rattle.hys_lex.specs.Spaced.{Spelling}
use Rattle.hys_ast.specs.Printed.{mark, word, name}
use Rattle.hys_ast.proofs.print_expr.cast.Goals as goal

pub returns : goal.returns
returns c = IfOk-weaker c.put-3.result _ _ (λ u e rest.
    let end : List Spelling = mark sign.CLOSE_PARENTHESIS (codes ")") ∷ rest in
    let named : List Spelling = name c.args.name.now ∷ end in
    e (mark sign.CLOSE_PARENTHESIS (codes ")")) rest refl ∙ c.in_ok-put_text.ensures (name c.args.name.now) end refl
    ∙ c.in_ok-put-2.ensures (word keyword.REAL (codes "REAL")) named refl ∙ c.in_ok-put.ensures (mark sign.OPEN_PARENTHESIS (codes "(")) (word keyword.REAL (codes "REAL") ∷ named) refl) c.put-3.ensures
