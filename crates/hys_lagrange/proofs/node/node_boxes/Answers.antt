use Rattle.std.proofs.Common.{◌≡◌, ◌<◌, ◌-◌, ◌∙◌, suc, subst, arith, length, drop, false, slice_index_or, refl}
use Rattle.std.proofs.lemmas.List.{length-set}
use Rattle.hys_relax.specs.declared.fixing.Fixing.{Fixing}
use Rattle.hys_lagrange.proofs.Written.{IsWrittenFrom, fixing_there, one_written}
use Rattle.hys_lagrange.proofs.node.node_boxes.Goals as goal

abbrev zero_fixing : Fixing
zero_fixing = record { column = 0; one = false }

pub index_mut-requires : goal.index_mut-requires
index_mut-requires c =
    let l : (slice_index_or c.args.fixings.now (c.loop-left.left - 1) zero_fixing).column < length c.args.problem.now.boxes =
    fixing_there (length c.args.problem.now.boxes) c.args.fixings.now (c.loop-left.left - 1) zero_fixing c.requires.fixings (omega (arith, c.loop-left.invariant.within, c.loop-left-test.true)) in
    omega (arith, l, c.loop-left.invariant.long)

pub loop-left-preserved : goal.loop-left-preserved
loop-left-preserved c =
    let l : (slice_index_or c.args.fixings.now (c.loop-left.left - 1) zero_fixing).column < length c.args.problem.now.boxes =
    fixing_there (length c.args.problem.now.boxes) c.args.fixings.now (c.loop-left.left - 1) zero_fixing c.requires.fixings (omega (arith, c.loop-left.invariant.within, c.loop-left-test.true)) in
    let back : c.loop-left.left ≡ suc (c.loop-left.left - 1) = omega (arith, c.loop-left-test.true) in
    record {
      within = omega (arith, c.loop-left.invariant.within);
      long = length-set c.loop-left.boxes.items (slice_index_or c.args.fixings.now (c.loop-left.left - 1) zero_fixing).column c.fixed.result ∙ c.loop-left.invariant.long;
      written = one_written c.args.problem.now c.args.fixings.now (c.loop-left.left - 1) (slice_index_or c.args.fixings.now (c.loop-left.left - 1) zero_fixing) zero_fixing c.loop-left.boxes.items c.fixed.result
          (omega (arith, c.loop-left.invariant.within, c.loop-left-test.true)) refl (omega (arith, l, c.loop-left.invariant.long)) c.fixed.ensures
          (subst (λ z. IsWrittenFrom c.args.problem.now (drop z c.args.fixings.now) c.loop-left.boxes.items) back c.loop-left.invariant.written);
    }
