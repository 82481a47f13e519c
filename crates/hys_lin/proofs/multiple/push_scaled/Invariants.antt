use Rattle.std.proofs.Common.{◌≡◌, ◌++◌, drop}
use Rattle.hys_lin.specs.Operations.{first_lost}
use Rattle.hys_lin.specs.Scaled.{scaling, scaled}
use Rattle.hys_lin.proofs.multiple.push_scaled.Given as goal

-- what is still to be made completes the terms, and loses first what the whole does
abbrev pub invariant-loop-term : goal.invariant-loop-term
invariant-loop-term l = record {
  items : l.out.items ++ scaled l.by (drop l.term-index l.terms) ≡ l.fn.out.items ++ scaled l.by l.terms;
  lost : first_lost (scaling l.by l.terms) ≡ first_lost (scaling l.by (drop l.term-index l.terms));
}
