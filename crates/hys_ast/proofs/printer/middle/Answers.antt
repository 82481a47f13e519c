use Rattle.std.proofs.Common.{List, ◌∷◌, codes, refl, ◌∙◌}
use Rattle.std.proofs.lemmas.Result.{IfOk-weaker}
use Rattle.hys_lex.specs.declared.keyword.TheConstants as keyword
use Rattle.hys_lex.specs.Spaced.{Spelling}
use Rattle.hys_ast.specs.Printed.{word, opening, closing}
use Rattle.hys_ast.proofs.printer.middle.Goals as goal

pub returns : goal.returns
returns c = IfOk-weaker c.put-3.result _ _ (λ u e rest.
    let r2 : List Spelling = opening ∷ rest in
    let r1 : List Spelling = word keyword.IMPLEMENTATION (codes "IMPLEMENTATION") ∷ r2 in
    e (opening) rest refl ∙ c.in_ok-put-2.ensures (word keyword.IMPLEMENTATION (codes "IMPLEMENTATION")) r2 refl ∙ c.in_ok-put.ensures (closing) r1 refl) c.put-3.ensures
