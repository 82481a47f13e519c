use Rattle.std.proofs.Common.{[], map, sym, ◌∙◌}
use Rattle.hys_ast.specs.Seen.{decl_of, item_of}
use Rattle.hys_type.specs.Walks.{walk}
use Rattle.hys_type.specs.Checks.{missing_checks}
use Rattle.hys_type.proofs.Firsts.{handed}
use Rattle.hys_type.proofs.Walks.{goes_on, stops}
use Rattle.hys_type.proofs.missing.check_all_defined.Goals as goal

pub returns-in_err-check_defined : goal.returns-in_err-check_defined
returns-in_err-check_defined c =
    handed _ _ (walk (λ before d. missing_checks (map item_of c.args.items.now) d) [] (map decl_of c.args.decls.now)) c.from_residual.ensures (λ n.
    stops decl_of (λ before d. missing_checks (map item_of c.args.items.now) d) c.args.decls.now c.loop-decl.decl-index c.decl-item.result _ c.loop-decl-test.true c.decl-item.is (c.in_err-check_defined.ensures n) ∙ sym c.loop-decl.invariant)

pub loop-decl-preserved : goal.loop-decl-preserved
loop-decl-preserved c = c.loop-decl.invariant ∙ goes_on decl_of (λ before d. missing_checks (map item_of c.args.items.now) d) c.args.decls.now c.loop-decl.decl-index c.decl-item.result c.loop-decl-test.true c.decl-item.is c.in_ok-check_defined.ensures
