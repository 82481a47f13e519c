use Rattle.std.proofs.Common.{List, codes, refl, ◌∙◌}
use Rattle.std.proofs.lemmas.Result.{IfOk-weaker}
use Rattle.hys_lex.specs.declared.sign.TheConstants as sign
use Rattle.hys_lex.specs.Spaced.{Spelling}
use Rattle.hys_ast.specs.Seen.{tree_of}
use Rattle.hys_ast.specs.Printed.{mark, expr_words}
use Rattle.hys_ast.proofs.print_parts.value.Goals as goal

pub returns-in_ok-put-in-Some : goal.returns-in_ok-put-in-Some
returns-in_ok-put-in-Some c = rw c.in-Some.is (IfOk-weaker c.expression.result _ _ (λ u e rest.
    let r1 : List Spelling = expr_words (tree_of c.in-Some.value) rest in
    e rest ∙ c.in_ok-put-in-Some.ensures (mark sign.EQUALS (codes "=")) r1 refl) c.expression.ensures)
