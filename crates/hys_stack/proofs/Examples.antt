-- The worked problem is the stacked one of the worked system and request.
use Rattle.std.proofs.Common.{[], ◌∷◌, refl, sym, ◌∙◌, ap, arith}
use Rattle.hys_number.specs.Ops.{neg}
use Rattle.hys_number.proofs.Inverse.{zero_not_one}
use Rattle.hys_number.proofs.Ring.{by_ring, v, k, minus, ◌⊕◌, ◌⊗◌}
use Rattle.hys_lin.specs.Sums.{value}
use Rattle.hys_relax.specs.Worked.{worked}
use Rattle.hys_stack.specs.Stacking.{IsStacked}
use Rattle.hys_stack.specs.Worked.{worked_system, worked_request}

pub worked_is_stacked : IsStacked worked_system worked_request worked
unfolding value
worked_is_stacked = record {
  boxes = refl;
  rows = refl;
  branch = refl;
  terms = record { rise = (λ e. zero_not_one (sym (by_ring [] (k 1) (minus (minus (k 1))) refl ∙ ap neg e ∙ by_ring [] (minus (k 0)) (k 0) refl)), tt, tt); below = (omega arith, tt) };
  cost = λ f. by_ring (f 0 ∷ f 1 ∷ f 2 ∷ f 3 ∷ []) (minus (k 1) ⊗ v 3 ⊕ k 0 ⊕ k 0)
      (k 0 ⊕ (k 0 ⊗ v 0 ⊕ (k 0 ⊗ v 1 ⊕ (k 0 ⊗ v 2 ⊕ k 0)) ⊕ k 0) ⊕ (minus (k 1) ⊗ v 3 ⊕ k 0)) refl;
}
