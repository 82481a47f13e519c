use Rattle.std.proofs.Common.{List, ◌∷◌, codes, refl, ◌∙◌}
use Rattle.std.proofs.lemmas.Result.{IfOk-weaker}
use Rattle.hys_lex.specs.declared.keyword.TheConstants as keyword
use Rattle.hys_lex.specs.Spaced.{Spelling}
use Rattle.hys_ast.specs.Printed.{word, name, opening}
use Rattle.hys_ast.proofs.printer.head.Goals as goal

pub returns : goal.returns
returns c = IfOk-weaker c.put-4.result _ _ (λ u e rest.
    let r4 : List Spelling = opening ∷ rest in
    let r3 : List Spelling = word keyword.INTERFACE (codes "INTERFACE") ∷ r4 in
    let r2 : List Spelling = opening ∷ r3 in
    let r1 : List Spelling = name c.args.system.now ∷ r2 in
    e (opening) rest refl ∙ c.in_ok-put-3.ensures (word keyword.INTERFACE (codes "INTERFACE")) r4 refl ∙ c.in_ok-put-2.ensures (opening) r3 refl ∙ c.in_ok-put_text.ensures (name c.args.system.now) r2 refl ∙ c.in_ok-put.ensures (word keyword.SYSTEM (codes "SYSTEM")) r1 refl) c.put-4.ensures
