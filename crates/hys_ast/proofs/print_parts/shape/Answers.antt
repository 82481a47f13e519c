use Rattle.std.proofs.Common.{List, ◌∷◌, codes, refl, ◌∙◌}
use Rattle.std.proofs.lemmas.Result.{IfOk-weaker}
use Rattle.hys_lex.specs.declared.keyword.TheConstants as keyword
use Rattle.hys_lex.specs.Spaced.{Spelling}
use Rattle.hys_ast.specs.Seen.{tree_of, maybe_tree_of}
use Rattle.hys_ast.specs.Printed.{word, expr_words, else_words}
use Rattle.hys_ast.proofs.print_parts.shape.Goals as goal

pub returns-in_ok-expression-in-Choice-2 : goal.returns-in_ok-expression-in-Choice-2
returns-in_ok-expression-in-Choice-2 c = rw c.in-Choice.is (IfOk-weaker c.other.result _ _ (λ u e rest.
    let r4 : List Spelling = else_words (maybe_tree_of c.in-Choice.miss) rest in
    let r3 : List Spelling = expr_words (tree_of c.in-Choice.hit) r4 in
    let r2 : List Spelling = word keyword.THEN (codes "THEN") ∷ r3 in
    let r1 : List Spelling = expr_words (tree_of c.in-Choice.when) r2 in
    e rest ∙ c.in_ok-expression-in-Choice-2.ensures r4 ∙ c.in_ok-put-in-Choice-2.ensures (word keyword.THEN (codes "THEN")) r3 refl ∙ c.in_ok-expression-in-Choice.ensures r2 ∙ c.in_ok-put-in-Choice.ensures (word keyword.IF (codes "IF")) r1 refl) c.other.ensures)
