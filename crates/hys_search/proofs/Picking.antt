-- One more place for a picker.
use Rattle.std.proofs.Common.{◌≡◌, ℕ, ◌+◌, ◌<◌, ◌≤◌, List, sym, subst, arith, inl, inr}
use Rattle.hys_number.specs.Ops.{◌≤ₙ◌, ◌<ₙ◌}
use Rattle.hys_number.proofs.Order.{le_refl', le_trans, le_of_lt, lt_of_lt-le}
use Rattle.hys_search.proofs.Changes.{node_cases}
use Rattle.hys_search.specs.Picks.{IsDeepestOf, IsLeastOf, bound_in, depth_in}
use Rattle.hys_search.specs.declared.nodes.Waiting.{Waiting}

pub least_one : (ws : List Waiting) → IsLeastOf ws 1 0
least_one ws = record { there = omega arith; least = λ k l. let e : 0 ≡ k = omega arith in subst (λ k. bound_in ws 0 ≤ₙ bound_in ws k) e (le_refl' (bound_in ws 0)); first = λ k l. absurd (omega arith) }

pub least_stays : (ws : List Waiting) (n b : ℕ) → IsLeastOf ws n b → bound_in ws b ≤ₙ bound_in ws n → IsLeastOf ws (n + 1) b
least_stays ws n b h e = record {
  there = (let t = h.there in omega arith);
  least = λ k l. elim (node_cases k n) [ inl q ↦ subst (λ k. bound_in ws b ≤ₙ bound_in ws k) (sym q) e | inr q ↦ h.least k (omega arith) ];
  first = h.first;
}

pub least_new : (ws : List Waiting) (n b : ℕ) → IsLeastOf ws n b → bound_in ws n <ₙ bound_in ws b → IsLeastOf ws (n + 1) n
least_new ws n b h e = record {
  there = omega arith;
  least = λ k l. elim (node_cases k n) [ inl q ↦ subst (λ k. bound_in ws n ≤ₙ bound_in ws k) (sym q) (le_refl' (bound_in ws n)) | inr q ↦ le_trans (bound_in ws n) (bound_in ws b) (bound_in ws k) (le_of_lt (bound_in ws n) (bound_in ws b) e) (h.least k (omega arith)) ];
  first = λ k l. lt_of_lt-le (bound_in ws n) (bound_in ws b) (bound_in ws k) e (h.least k l);
}

pub deepest_one : (ws : List Waiting) → IsDeepestOf ws 1 0
deepest_one ws = record { there = omega arith; deepest = λ k l. let e : 0 ≡ k = omega arith in subst (λ k. depth_in ws k ≤ depth_in ws 0) e (omega arith); last = λ k l m. absurd (omega arith) }

pub deepest_stays : (ws : List Waiting) (n d : ℕ) → IsDeepestOf ws n d → depth_in ws n < depth_in ws d → IsDeepestOf ws (n + 1) d
deepest_stays ws n d h e = record {
  there = (let t = h.there in omega arith);
  deepest = λ k l. elim (node_cases k n) [ inl q ↦ subst (λ k. depth_in ws k ≤ depth_in ws d) (sym q) (omega arith) | inr q ↦ h.deepest k (omega arith) ];
  last = λ k m l. elim (node_cases k n) [ inl q ↦ subst (λ k. depth_in ws k < depth_in ws d) (sym q) e | inr q ↦ h.last k m (omega arith) ];
}

pub deepest_new : (ws : List Waiting) (n d : ℕ) → IsDeepestOf ws n d → depth_in ws d ≤ depth_in ws n → IsDeepestOf ws (n + 1) n
deepest_new ws n d h e = record {
  there = omega arith;
  deepest = λ k l. elim (node_cases k n) [ inl q ↦ subst (λ k. depth_in ws k ≤ depth_in ws n) (sym q) (omega arith) | inr q ↦ (let g = h.deepest k (omega arith) in omega arith) ];
  last = λ k m l. absurd (omega arith);
}
