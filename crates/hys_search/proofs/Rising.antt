-- The lower bound doesn't fall: leaves that stay keep their bounds, and what comes of the picked node isn't below it.
use Rattle.std.proofs.Common.{◌≡◌, ℕ, zero, suc, ◌⊎◌, List, ◌+◌, ◌<◌, ◌≤◌, true, false, length, sym, ◌∙◌, ap, subst, arith, inl, inr, Option, Some, None}
use Rattle.hys_number.specs.Number.{Number}
use Rattle.hys_number.specs.Ops.{◌≤ₙ◌}
use Rattle.hys_number.proofs.Order.{le_trans}
use Rattle.hys_search.specs.declared.expand.Expanded.TheVariants.{Never as never_it, Closed as closed_it, Found as found_it, Branched as branched_it, Kept as kept_it}
use Rattle.hys_search.specs.declared.nodes.Standing.TheVariants.{Waits, Inner, Never, Closed, Kept}
use Rattle.hys_lin.specs.declared.problem.Problem.{Problem}
use Rattle.hys_relax.specs.declared.fixing.Fixing.{Fixing}
use Rattle.hys_relax.specs.declared.range.RangeAt.{RangeAt}
use Rattle.hys_search.proofs.Changes.{node_cases, picked_in}
use Rattle.hys_search.specs.Answers.{Answered, IsExpanded, IsRisen, KeepsLower, added}
use Rattle.hys_search.specs.Core.{Core, Holds, picked_of}
use Rattle.hys_search.specs.Nodes.{node_at, path}
use Rattle.hys_search.specs.Places.{IsLower, is_cost}
use Rattle.hys_search.specs.Standings.{Stands, bound_of, certificate_at}
use Rattle.hys_search.specs.declared.expand.Expanded.{Expanded}
use Rattle.hys_search.specs.declared.nodes.Certificate.{Certificate}
use Rattle.hys_search.specs.declared.nodes.Node.{Node}
use Rattle.hys_search.specs.declared.nodes.Standing.{Standing}
use Rattle.hys_tree.specs.declared.answer.Best.{Best}

-- a leaf with a bound holds a certificate
cost_held : (P : Problem) (cs : List Certificate) (rs : List RangeAt) (b : Option Best) (ns : List Node) (j held : ℕ) (fs : List Fixing) → (s : Standing) → is_cost s ≡ true → Stands P cs rs b ns j held fs s → held < length cs
cost_held P cs rs b ns j held fs Waits e h = h.0
cost_held P cs rs b ns j held fs (Inner c k) e h = cc
cost_held P cs rs b ns j held fs Never e h = cc
cost_held P cs rs b ns j held fs Closed e h = h.0.0
cost_held P cs rs b ns j held fs (Kept a) e h = h.0.0

-- a leaf that stays keeps its bound
stays : (C : Core) (which : ℕ) (D : Core) (e : Expanded) (z : Number) → Holds C → IsExpanded C which D e → IsLower C (Some z) → (j : ℕ) → j < length C.nodes → (j ≡ picked_of C which → ⊥) → is_cost (node_at D.nodes j).standing ≡ true → z ≤ₙ bound_of D.nodes D.certificates j
stays C which D e z h x l j t ne c =
    let same : node_at D.nodes j ≡ node_at C.nodes j = x.others j t ne in
    let d : is_cost (node_at C.nodes j).standing ≡ true = sym (ap (λ (n : Node). is_cost n.standing) same) ∙ c in
    let k = cost_held C.problem C.certificates C.faults C.found C.nodes j (node_at C.nodes j).held (path C.nodes j) (node_at C.nodes j).standing d (h.each j t) in
    let b : bound_of D.nodes D.certificates j ≡ bound_of C.nodes C.certificates j = ap (λ (n : Node). (certificate_at D.certificates n.held).bound) same ∙ ap (λ (z : Certificate). z.bound) (x.lasting (node_at C.nodes j).held k).1 in
    subst (λ (y : Number). z ≤ₙ y) (sym b) (l.0 j t d)

-- the picked node, where it still has a bound
picked_rises : (C : Core) (which : ℕ) (D : Core) (e : Expanded) → Answered C which D e → is_cost (node_at D.nodes (picked_of C which)).standing ≡ true → IsRisen C which D
picked_rises C which D never_it a c = let s = ap is_cost a.0 in cc
picked_rises C which D closed_it a c = a.2
picked_rises C which D found_it a c = a.1.risen
picked_rises C which D branched_it a c = let s = ap is_cost a.1.inner in cc
picked_rises C which D kept_it a c = a.1.risen

-- a new node
new_rises : (C : Core) (which : ℕ) (D : Core) (e : Expanded) (j : ℕ) → Answered C which D e → length C.nodes ≤ j → j < length C.nodes + added e → bound_of C.nodes C.certificates (picked_of C which) ≤ₙ bound_of D.nodes D.certificates j
new_rises C which D never_it j a l m = absurd (omega arith)
new_rises C which D closed_it j a l m = absurd (omega arith)
new_rises C which D found_it j a l m = absurd (omega arith)
new_rises C which D kept_it j a l m = absurd (omega arith)
new_rises C which D branched_it j a l m = elim (node_cases j (length C.nodes)) [
  | inl e ↦ subst (λ (k : ℕ). bound_of C.nodes C.certificates (picked_of C which) ≤ₙ bound_of D.nodes D.certificates k) (sym e) (subst (λ (k : ℕ). bound_of C.nodes C.certificates (picked_of C which) ≤ₙ (certificate_at D.certificates k).bound) (sym a.1.heirs.first) a.1.risen)
  | inr ne ↦ let e : j ≡ suc (length C.nodes) = omega arith in subst (λ (k : ℕ). bound_of C.nodes C.certificates (picked_of C which) ≤ₙ bound_of D.nodes D.certificates k) (sym e) (subst (λ (k : ℕ). bound_of C.nodes C.certificates (picked_of C which) ≤ₙ (certificate_at D.certificates k).bound) (sym a.1.heirs.second) a.1.risen)
]

old_or_new : (j n : ℕ) → (j < n) ⊎ (n ≤ j)
old_or_new zero zero = inr (omega arith)
old_or_new zero (suc n) = inl (omega arith)
old_or_new (suc j) zero = inr (omega arith)
old_or_new (suc j) (suc n) = elim (old_or_new j n) [ inl a ↦ inl (omega arith) | inr a ↦ inr (omega arith) ]

-- each leaf with a bound after the step
each_above : (C : Core) (which : ℕ) (D : Core) (e : Expanded) (z : Number) → Holds C → which < length C.queue → IsExpanded C which D e → IsLower C (Some z) → (j : ℕ) → j < length D.nodes → is_cost (node_at D.nodes j).standing ≡ true → z ≤ₙ bound_of D.nodes D.certificates j
each_above C which D e z h w x l j t c =
    let q = picked_in C which h w in
    let g = x.grown in
    let i : ℕ = picked_of C which in
    let below : z ≤ₙ bound_of C.nodes C.certificates i = l.0 i q.there (ap is_cost q.waiting) in
    elim (node_cases j i) [
      | inl s ↦ subst (λ (k : ℕ). z ≤ₙ bound_of D.nodes D.certificates k) (sym s) (le_trans z (bound_of C.nodes C.certificates i) (bound_of D.nodes D.certificates i) below (picked_rises C which D e x.answered (subst (λ (k : ℕ). is_cost (node_at D.nodes k).standing ≡ true) s c)))
      | inr ne ↦ elim (old_or_new j (length C.nodes)) [
        | inl u ↦ stays C which D e z h x l j u ne c
        | inr u ↦ le_trans z (bound_of C.nodes C.certificates i) (bound_of D.nodes D.certificates j) below (new_rises C which D e j x.answered u (omega arith))
      ]
    ]

pub keeps_lower : (C : Core) (which : ℕ) (D : Core) (e : Expanded) → Holds C → which < length C.queue → IsExpanded C which D e → KeepsLower C D
keeps_lower C which D e h w x None None l m = tt
keeps_lower C which D e h w x (Some a) None l m = tt
keeps_lower C which D e h w x None (Some b) l m = let q = picked_in C which h w in let c : is_cost (node_at C.nodes (picked_of C which)).standing ≡ true = ap is_cost q.waiting in let d : is_cost (node_at C.nodes (picked_of C which)).standing ≡ false = l (picked_of C which) q.there in cc
keeps_lower C which D e h w x (Some a) (Some b) l m = subst (λ (z : Number). a ≤ₙ z) m.1.3 (each_above C which D e a h w x l m.1.0 m.1.1 m.1.2)
