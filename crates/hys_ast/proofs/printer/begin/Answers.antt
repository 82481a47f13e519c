use Rattle.std.proofs.Common.{List, ◌∷◌, refl, sym, ◌∙◌}
use Rattle.std.proofs.lemmas.Result.{IfOk-weaker}
use Rattle.hys_lex.specs.Spaced.{Spelling}
use Rattle.hys_ast.specs.Printed.{opening, section_word}
use Rattle.hys_ast.proofs.printer.begin.Goals as goal

pub returns : goal.returns
returns c = rw (sym c.if-is_open.ensures) (IfOk-weaker c.put-2.result _ _ (λ u e rest.
    let r2 : List Spelling = opening ∷ rest in
    let r1 : List Spelling = section_word c.args.section ∷ r2 in
    e (opening) rest refl ∙ c.in_ok-put.ensures (section_word c.args.section) r2 (sym c.section_word.ensures) ∙ c.in_ok-end.ensures r1) c.put-2.ensures)
