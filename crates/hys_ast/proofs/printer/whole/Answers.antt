use Rattle.std.proofs.Common.{List, ◌∷◌, None, true, false, map, refl, ◌∙◌}
use Rattle.std.proofs.lemmas.Result.{IfOk-weaker}
use Rattle.hys_lex.specs.Spaced.{Spelling}
use Rattle.hys_ast.specs.Seen.{decl_of, item_of}
use Rattle.hys_ast.specs.Printed.{closing, decls_words, items_words, declared, middle_words}
use Rattle.hys_ast.proofs.printer.whole.Goals as goal

pub returns : goal.returns
returns c =
    let first = rw c.items.ensures at c.in_ok-declarations.ensures in
    let second = rw c.items-2.ensures at c.in_ok-declarations-2.ensures in
    let third = rw c.items-3.ensures at c.in_ok-items.ensures in
    IfOk-weaker c.put-2.result _ _ (λ u e rest.
    let inner : List Spelling = closing ∷ rest in
    let outer : List Spelling = closing ∷ inner in
    let rules : List Spelling = items_words None (map item_of c.args.source.now.items) outer in
    let aux : List Spelling = decls_words None (declared true (map decl_of c.args.source.now.decls)) rules in
    let middle : List Spelling = middle_words aux in
    e closing rest refl ∙ c.in_ok-put.ensures closing inner refl ∙ third outer ∙ second rules ∙ c.in_ok-middle.ensures aux ∙ first middle
    ∙ c.in_ok-head.ensures (decls_words None (declared false (map decl_of c.args.source.now.decls)) middle)) c.put-2.ensures
