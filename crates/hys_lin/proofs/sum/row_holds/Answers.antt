use Rattle.std.proofs.Common.{◌≡◌, ◌<◌, List, length, IsTrue, ◌↔◌, ℕ, ◌∙◌, ap, sym, subst}
use Rattle.hys_number.specs.Number.{Number}
use Rattle.hys_lin.specs.Sums.{sum_of, EachColumn, at, Holds}
use Rattle.hys_lin.specs.declared.form.Term.{Term}
use Rattle.std.proofs.Common.{Bool, true, false}
use Rattle.hys_number.specs.Ops.{◌≤ₙ◌}
use Rattle.hys_lin.specs.Sums.{compared}
use Rattle.hys_frac.specs.Compare.{eq_is}
use Rattle.hys_frac.proofs.Comparisons.{is_le-cmp}
use Rattle.hys_lin.proofs.sum.row_holds.Goals.{then-row, else-row}
use Rattle.hys_lin.proofs.sum.row_holds.Goals as goal

pub dot-requires : goal.dot-requires
dot-requires c = subst (EachColumn (λ (i : ℕ). i < length c.args.point.now.values)) (sym c.items.ensures) c.requires

equal : (e t t' : Bool) (s s' b : Number) → e ≡ true → t ≡ t' → s ≡ s' → (IsTrue t' ↔ (s ≡ b)) → IsTrue t ↔ compared e s' b
equal e t t' s s' b h i j k = rw (h, i, ← j) k

below : (e t t' : Bool) (s s' b : Number) → e ≡ false → t ≡ t' → s ≡ s' → (IsTrue t' ↔ (s ≤ₙ b)) → IsTrue t ↔ compared e s' b
below e t t' s s' b h i j k = rw (h, i, ← j) k

pub returns-clause-value : goal.returns-clause-value
unfolding Holds
returns-clause-value c =
    let s : c.in_ok-sum.sum ≡ sum_of c.args.row.now.terms (at c.args.point.now.values) = c.in_ok-sum.ensures.value ∙ ap (λ (ts : List Term). sum_of ts (at c.args.point.now.values)) c.items.ensures in
    elim c.if-row.branch [
      | then-row w ↦ equal _ _ _ _ _ _ w.if-row.true w.result-is s (eq_is _ _ _ w.eq.ensures)
      | else-row w ↦ below _ _ _ _ _ _ w.if-row.false (w.result-is ∙ w.le.ensures) s (is_le-cmp _ _)
    ]
