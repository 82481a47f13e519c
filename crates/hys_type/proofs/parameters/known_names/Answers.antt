use Rattle.std.proofs.Common.{[], map, sym, ap, ◌∙◌}
use Rattle.hys_ast.specs.Seen.{decl_of}
use Rattle.hys_type.specs.Faults.{first_fault}
use Rattle.hys_type.specs.Walks.{walk}
use Rattle.hys_type.specs.Declarations.{parameter_checks, value_checks, HasValueLiterals}
use Rattle.hys_type.proofs.Firsts.{handed}
use Rattle.hys_type.proofs.Walks.{goes_on, stops}
use Rattle.hys_type.proofs.Knowing.{one_known, each_has}
use Rattle.hys_type.proofs.parameters.known_names.Goals as goal

pub add_parameter-requires : goal.add_parameter-requires
add_parameter-requires c = each_has HasValueLiterals c.args.decls.now c.loop-decl.decl-index c.decl-item.result c.loop-decl-test.true c.decl-item.is c.requires

pub returns-in_err-add_parameter-clause-fault : goal.returns-in_err-add_parameter-clause-fault
returns-in_err-add_parameter-clause-fault c =
    let all = map decl_of c.args.decls.now in
    handed _ _ (walk (value_checks all) [] all) c.from_residual-in_err-add_parameter.ensures (λ n.
    stops decl_of (value_checks all) c.args.decls.now c.loop-decl.decl-index c.decl-item.result _ c.loop-decl-test.true c.decl-item.is
    (c.in_err-add_parameter.ensures.fault n ∙ ap (λ ks. first_fault (parameter_checks ks (decl_of c.decl-item.result))) c.loop-decl.invariant.1) ∙ sym c.loop-decl.invariant.0)

pub loop-decl-preserved : goal.loop-decl-preserved
loop-decl-preserved c =
    let all = map decl_of c.args.decls.now in (
      c.loop-decl.invariant.0 ∙ goes_on decl_of (value_checks all) c.args.decls.now c.loop-decl.decl-index c.decl-item.result c.loop-decl-test.true c.decl-item.is
          (c.in_ok-add_parameter.ensures.fault ∙ ap (λ ks. first_fault (parameter_checks ks (decl_of c.decl-item.result))) c.loop-decl.invariant.1),
      one_known c.loop-decl.known.items c.add_parameter.new.known.items c.args.decls.now c.loop-decl.decl-index c.decl-item.result c.loop-decl-test.true c.decl-item.is c.loop-decl.invariant.1 c.in_ok-add_parameter.ensures.known,
    )
