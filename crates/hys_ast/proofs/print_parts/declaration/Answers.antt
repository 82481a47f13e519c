use Rattle.std.proofs.Common.{List, ◌∷◌, refl, sym, ◌∙◌}
use Rattle.std.proofs.lemmas.Result.{IfOk-weaker}
use Rattle.hys_lex.specs.Spaced.{Spelling}
use Rattle.hys_ast.specs.Seen.{maybe_tree_of}
use Rattle.hys_ast.specs.Printed.{name, semicolon, bounds_words, value_words, kind_word}
use Rattle.hys_ast.proofs.print_parts.declaration.Goals as goal

pub returns : goal.returns
returns c = IfOk-weaker c.put-2.result _ _ (λ u e rest.
    let r4 : List Spelling = semicolon ∷ rest in
    let r3 : List Spelling = value_words (maybe_tree_of c.args.decl.now.value) r4 in
    let r2 : List Spelling = bounds_words (maybe_tree_of c.args.decl.now.low) (maybe_tree_of c.args.decl.now.high) r3 in
    let r1 : List Spelling = name c.args.decl.now.name ∷ r2 in
    e (semicolon) rest refl ∙ c.in_ok-value.ensures r4 ∙ c.in_ok-bounds.ensures r3 ∙ c.in_ok-put_text.ensures (name c.args.decl.now.name) r2 refl ∙ c.in_ok-put.ensures (kind_word c.args.decl.now.kind) r1 (sym c.kind.ensures)) c.put-2.ensures
