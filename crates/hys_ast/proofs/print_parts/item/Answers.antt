use Rattle.std.proofs.Common.{List, ◌∷◌, refl, ◌∙◌}
use Rattle.std.proofs.lemmas.Result.{IfOk-weaker}
use Rattle.hys_lex.specs.Spaced.{Spelling}
use Rattle.hys_ast.specs.Seen.{shape_of}
use Rattle.hys_ast.specs.Printed.{semicolon, shape_words}
use Rattle.hys_ast.proofs.print_parts.item.Goals as goal

pub returns : goal.returns
returns c = IfOk-weaker c.put.result _ _ (λ u e rest.
    let r2 : List Spelling = semicolon ∷ rest in
    let r1 : List Spelling = shape_words (shape_of c.args.item.now.shape) r2 in
    e (semicolon) rest refl ∙ c.in_ok-shape.ensures r2 ∙ c.in_ok-target.ensures r1) c.put.ensures
