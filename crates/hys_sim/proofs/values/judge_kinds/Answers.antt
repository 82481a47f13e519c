use Rattle.std.proofs.Common.{◌≡◌, true, get_or, rules, add-one}
use Rattle.std.proofs.lemmas.Bool.{not-false}
use Rattle.csv.specs.Records.{fields_of}
use Rattle.hys_ast.specs.declared.source.Kind.TheVariants.{Real}
use Rattle.hys_frac.specs.Read.{reading}
use Rattle.hys_sim.specs.Fields.{suits}
use Rattle.hys_sim.proofs.Columning.{kind_more}
use Rattle.hys_sim.proofs.values.judge_kinds.Goals as goal

pub loop-place-preserved : goal.loop-place-preserved
loop-place-preserved c =
    let e : suits (get_or c.args.kinds.now c.loop-place.place Real) (reading c.field_at.result.now) ≡ true = search (rules, not-false) in
    let f = rw (c.field_at.ensures, add-one) at e in
    rw add-one (kind_more c.args.which c.args.number (fields_of c.args.row.now) c.args.kinds.now c.loop-place.place Real _ c.loop-place-test.true c.loop-place.invariant f)
