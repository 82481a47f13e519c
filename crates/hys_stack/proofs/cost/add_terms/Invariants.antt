use Rattle.std.proofs.Common.{◌≡◌, drop, length}
use Rattle.hys_lin.specs.Operations.{first_lost}
use Rattle.hys_lin.specs.Over.{AreTermsOver}
use Rattle.hys_stack.specs.Numbers.{term_operations, add_form}
use Rattle.hys_stack.proofs.cost.add_terms.Given as goal

-- what is still to be added gives the same sums, and loses first what the whole does
abbrev pub invariant-loop-term : goal.invariant-loop-term
invariant-loop-term l = record {
  sums : add_form l.weight (drop l.term-index l.terms) 0 l.sums.items ≡ add_form l.weight l.terms 0 l.fn.sums.items;
  over : AreTermsOver (length l.sums.items) (drop l.term-index l.terms);
  lost : first_lost (term_operations l.weight l.sums.items (drop l.term-index l.terms)) ≡ first_lost (term_operations l.weight l.fn.sums.items l.terms);
}
