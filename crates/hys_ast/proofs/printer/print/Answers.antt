use Rattle.std.proofs.Common.{◌≡◌, List, ℕ, [], ◌++◌, ap, sym, subst, ◌∙◌}
use Rattle.std.proofs.lemmas.List.{append-nil}
use Rattle.hys_lex.specs.Spaced.{spaced}
use Rattle.hys_ast.specs.Seen.{source_of}
use Rattle.hys_ast.specs.Bare.{PrintOf}
use Rattle.hys_ast.specs.Printed.{source_words}
use Rattle.hys_ast.proofs.SourceAgain.{printed}
use Rattle.hys_ast.proofs.printer.print.Goals as goal

pub returns : goal.returns
returns c =
    let text : spaced (source_words (source_of c.args.source.now) []) ≡ c.whole.new.out.items =
    sym (sym (append-nil c.whole.new.out.items) ∙ c.in_ok-whole.ensures [] ∙ ap (λ (xs : List ℕ). xs ++ spaced (source_words (source_of c.args.source.now) [])) c.new-out.ensures.items) in
    let P : List ℕ → Type 0 = λ t. PrintOf t (source_of c.args.source.now) in
    record { print = subst P text (printed (source_of c.args.source.now) c.requires); text = sym text }
