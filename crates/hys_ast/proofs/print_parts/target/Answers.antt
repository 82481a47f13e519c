use Rattle.std.proofs.Common.{List, ◌∷◌, codes, refl, ◌∙◌}
use Rattle.std.proofs.lemmas.Result.{IfOk-weaker}
use Rattle.hys_lex.specs.declared.sign.TheConstants as sign
use Rattle.hys_lex.specs.Spaced.{Spelling}
use Rattle.hys_ast.specs.Printed.{mark, name}
use Rattle.hys_ast.proofs.print_parts.target.Goals as goal

pub returns-in_ok-put_text-in-Some : goal.returns-in_ok-put_text-in-Some
returns-in_ok-put_text-in-Some c = rw c.in-Some.is (IfOk-weaker c.put.result _ _ (λ u e rest.
    let r1 : List Spelling = mark sign.EQUALS (codes "=") ∷ rest in
    e (mark sign.EQUALS (codes "=")) rest refl ∙ c.in_ok-put_text-in-Some.ensures (name c.in-Some.name) r1 refl) c.put.ensures)
