use Rattle.std.proofs.Common.{◌≡◌, ◌++◌, List, refl, ap, ap₂, ◌∙◌}
use Rattle.hys_lex.specs.Spaced.{Spelling, spaced}
use Rattle.hys_ast.specs.Operators.{level_of}
use Rattle.hys_ast.specs.Seen.{tree_of}
use Rattle.hys_ast.specs.Printed.{left_strength, is_loose, open_words}
use Rattle.hys_ast.proofs.Spines.{down_turn}
use Rattle.hys_ast.proofs.print_expr.left_spine.Goals as goal

pub loop-first-preserved : goal.loop-first-preserved
loop-first-preserved c =
    let needed : c.is_loose.result ≡ is_loose (left_strength (level_of c.in-Binary.op)) (tree_of c.in-Binary.left.value) =
    c.is_loose.ensures ∙ ap₂ is_loose (c.left_strength.ensures ∙ ap left_strength c.level.ensures) (ap tree_of c.deref.ensures) in
    let put : (rest : List Spelling) → c.begin_group.new.out.items ++ spaced rest ≡ c.loop-first.out.items ++ spaced (open_words (is_loose (left_strength (level_of c.in-Binary.op)) (tree_of c.in-Binary.left.value)) rest) =
    λ rest. c.in_ok-begin_group.ensures rest ∙ ap (λ t. c.loop-first.out.items ++ spaced (open_words t rest)) needed in
    rw c.deref-first.ensures
    (down_turn (λ e. tree_of e.now) c.in-Binary.op (tree_of c.in-Binary.left.value) _ c.in-Binary.field-3 (tree_of c.args.expr.now) (tree_of c.loop-first.first.now) c.loop-first.spine.items _ c.loop-first.first
    c.args.out.now.items c.loop-first.out.items c.begin_group.new.out.items (ap tree_of c.in-Binary.is) refl c.in_ok-push.ensures.items put c.loop-first.invariant)
