use Rattle.std.proofs.Common.{sym, ◌∙◌, arith}
use Rattle.hys_ast.specs.Seen.{decl_of}
use Rattle.hys_type.specs.Declarations.{name_checks}
use Rattle.hys_type.proofs.Firsts.{failed}
use Rattle.hys_type.proofs.Walks.{goes_on, stops, ends}
use Rattle.hys_type.proofs.declared.check_names.Goals as goal

pub loop-at-preserved : goal.loop-at-preserved
loop-at-preserved c = c.loop-at.invariant ∙ goes_on decl_of name_checks c.args.decls.now c.loop-at.at c.index-decls-at.result c.loop-at-test.true c.index-decls-at.is (c.in_ok-check_name.ensures)

pub returns-in_err-check_name : goal.returns-in_err-check_name
returns-in_err-check_name c = failed _ _ c.from_residual.ensures ∙ stops decl_of name_checks c.args.decls.now c.loop-at.at c.index-decls-at.result _ c.loop-at-test.true c.index-decls-at.is (c.in_err-check_name.ensures) ∙ sym c.loop-at.invariant

pub returns : goal.returns
returns c = ends decl_of name_checks c.args.decls.now c.loop-at.at (omega (arith, c.loop-at-test.false)) ∙ sym c.loop-at.invariant
