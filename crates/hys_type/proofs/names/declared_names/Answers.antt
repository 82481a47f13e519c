use Rattle.std.proofs.Common.{[], map, sym, ◌∙◌}
use Rattle.hys_ast.specs.Seen.{decl_of}
use Rattle.hys_type.specs.Walks.{walk}
use Rattle.hys_type.specs.Declarations.{box_checks, HasBoundLiterals}
use Rattle.hys_type.specs.Made.{program_name}
use Rattle.hys_type.proofs.Firsts.{handed}
use Rattle.hys_type.proofs.Walks.{goes_on, stops}
use Rattle.hys_type.proofs.Operands.{made_more}
use Rattle.hys_type.proofs.Knowing.{each_has}
use Rattle.hys_type.proofs.names.declared_names.Goals as goal

pub declared_name-requires : goal.declared_name-requires
declared_name-requires c = each_has HasBoundLiterals c.args.decls.now c.loop-decl.decl-index c.decl-item.result c.loop-decl-test.true c.decl-item.is c.requires

pub returns-in_err-declared_name-clause-fault : goal.returns-in_err-declared_name-clause-fault
returns-in_err-declared_name-clause-fault c =
    handed _ _ (walk (λ before d. box_checks c.args.known.now d) [] (map decl_of c.args.decls.now)) c.from_residual.ensures (λ n.
    stops decl_of (λ before d. box_checks c.args.known.now d) c.args.decls.now c.loop-decl.decl-index c.decl-item.result _ c.loop-decl-test.true c.decl-item.is (c.in_err-declared_name.ensures.fault n) ∙ sym c.loop-decl.invariant.0)

pub loop-decl-preserved : goal.loop-decl-preserved
loop-decl-preserved c = (
  c.loop-decl.invariant.0 ∙ goes_on decl_of (λ before d. box_checks c.args.known.now d) c.args.decls.now c.loop-decl.decl-index c.decl-item.result c.loop-decl-test.true c.decl-item.is c.in_ok-declared_name.ensures.fault,
  made_more decl_of (program_name c.args.known.now) c.args.decls.now c.loop-decl.decl-index c.decl-item.result c.loop-decl.names.items _ c.in_ok-declared_name.field-0 c.loop-decl-test.true c.decl-item.is c.loop-decl.invariant.1 c.in_ok-declared_name.ensures.name c.in_ok-push.ensures.items,
)
