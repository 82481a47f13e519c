-- What follows when no open node waits, or all nodes are spent.
use Rattle.std.proofs.Common.{◌≡◌, ℕ, zero, suc, ◌+◌, ◌^◌, ◌<◌, ◌≤◌, Bool, true, false, List, ◌∷◌, length, get_or, refl, sym, ◌∙◌, ap, subst, arith, ◌⊎◌, inl, inr, Option, Some, None, if◌then◌else◌}
use Rattle.std.specs.Prelude.{MatchOption, IfOk, Result, Ok, Err}
use Rattle.std.specs.declared.alloc.AllocError.{AllocError}
use Rattle.hys_lin.specs.declared.problem.Problem.{Problem}
use Rattle.hys_tree.specs.declared.answer.Answer.{Answer}
use Rattle.hys_number.proofs.Order.{lt_irrefl, lt_of_lt-le}
use Rattle.hys_search.specs.declared.nodes.Standing.TheVariants.{Waits, Inner, Never, Closed, Kept}
use Rattle.hys_tree.specs.declared.answer.Why.TheVariants.{Spent, Range}
use Rattle.hys_number.specs.Number.{Number}
use Rattle.hys_plan.specs.Answer.{IsNotSpentWhy}
use Rattle.hys_plan.specs.Planned.{AllAtLeast, IsAnswerOf, IsPlanned, IsOpenAt, NoneOpen, WhyHolds}
use Rattle.hys_search.proofs.Changes.{node_cases}
use Rattle.hys_search.proofs.Conclusions.{IsAmong, among_behind, among_first, in_tree}
use Rattle.hys_search.proofs.Sizes.{few_nodes}
use Rattle.hys_search.proofs.Walk.{as_many, entry_is}
use Rattle.hys_search.specs.Core.{Core, Holds, IsNotOpenKept, NoneKept}
use Rattle.hys_search.specs.Nodes.{labels, node_at, path, shape, waits, waits_below}
use Rattle.hys_search.specs.Picks.{no_entry}
use Rattle.hys_search.specs.Places.{IsKeptCause, IsLower, is_cost}
use Rattle.hys_search.specs.Standings.{Beats, IsSettledBy, Stands, bound_of}
use Rattle.hys_search.specs.declared.nodes.Node.{Node}
use Rattle.hys_search.specs.declared.nodes.Standing.{Standing}
use Rattle.hys_search.specs.declared.nodes.Waiting.{Waiting}
use Rattle.hys_tree.specs.declared.answer.Best.{Best}
use Rattle.hys_tree.specs.declared.answer.Why.{Why}

-- ---- a waiting node stands in the list of those that wait
among_if : (b : Bool) (i j : ℕ) (xs : List ℕ) → IsAmong j xs → IsAmong j (if b then i ∷ xs else xs)
among_if true i j xs h = among_behind j i xs h
among_if false i j xs h = h

queue_first : (b : Bool) (i j : ℕ) (xs : List ℕ) → b ≡ true → i ≡ j → IsAmong j (if b then i ∷ xs else xs)
queue_first true i j xs e f = among_first j i xs f
queue_first false i j xs e f = cc

queue_place : (ns : List Node) (n k : ℕ) → k < n → waits (node_at ns k).standing ≡ true → IsAmong k (waits_below ns n)
queue_place ns zero k l w = absurd (omega arith)
queue_place ns (suc n) k l w = elim (node_cases k n) [
  | inl e ↦ queue_first (waits (node_at ns n).standing) n k (waits_below ns n) (subst (λ z. waits (node_at ns z).standing ≡ true) e w) (sym e)
  | inr ne ↦ among_if (waits (node_at ns n).standing) n k (waits_below ns n) (queue_place ns n k (omega arith) w)
]

pub waiting_settled : (C : Core) → Holds C → NoneOpen C → (j : ℕ) → j < length C.nodes → waits (node_at C.nodes j).standing ≡ true → IsSettledBy C.found (bound_of C.nodes C.certificates j)
waiting_settled C h n j l w =
    let q : IsAmong j C.queue = subst (IsAmong j) (sym h.queued) (queue_place C.nodes (length C.nodes) j l w) in
    let m = as_many C h in let t = q.there in
    let b : (get_or C.waiting q.place no_entry).bound ≡ bound_of C.nodes C.certificates j = ap (λ (x : Waiting). x.bound) (entry_is C q.place no_entry h t) ∙ ap (bound_of C.nodes C.certificates) q.is in
    subst (λ (z : Number). IsSettledBy C.found z) b (n q.place (omega arith))

settled_cases : (C : Core) → Holds C → NoneOpen C → NoneKept C → (j : ℕ) → j < length C.nodes → (s : Standing) → (node_at C.nodes j).standing ≡ s → is_cost s ≡ true → IsSettledBy C.found (bound_of C.nodes C.certificates j)
settled_cases C h n k j l Waits e c = waiting_settled C h n j l (ap waits e)
settled_cases C h n k j l (Inner d m) e c = cc
settled_cases C h n k j l Never e c = cc
settled_cases C h n k j l Closed e c = (subst (λ s. Stands C.problem C.certificates C.faults C.found C.nodes j (node_at C.nodes j).held (path C.nodes j) s) e (h.each j l)).1
settled_cases C h n k j l (Kept a) e c = let p : IsAmong j (labels (shape C.nodes)) = in_tree C h j l in subst (IsNotOpenKept C) p.is (k p.place p.there) a e

pub all_settled : (C : Core) → Holds C → NoneOpen C → NoneKept C → (j : ℕ) → j < length C.nodes → is_cost (node_at C.nodes j).standing ≡ true → IsSettledBy C.found (bound_of C.nodes C.certificates j)
all_settled C h n k j l c = settled_cases C h n k j l (node_at C.nodes j).standing refl c

-- ---- the claims
pub least_claims : (C : Core) (b : Best) → Holds C → NoneOpen C → NoneKept C → C.found ≡ Some b → (C.found ≡ Some b) × AllAtLeast C b.cost
least_claims C b h n k e = (e, λ j l c. subst (λ (o : Option Best). IsSettledBy o (bound_of C.nodes C.certificates j)) e (all_settled C h n k j l c))

pub not_all_settled : (C : Core) (z : Number) → Holds C → NoneOpen C → NoneKept C → C.found ≡ None → IsLower C (Some z) → ⊥
not_all_settled C z h n k e l = subst (λ o. IsSettledBy o (bound_of C.nodes C.certificates l.1.0)) e (all_settled C h n k l.1.0 l.1.1 l.1.2)

not_both : (o : Option Best) (z : Number) → Beats o z → IsSettledBy o z → ⊥
not_both None z b s = s
not_both (Some x) z b s = lt_irrefl z (lt_of_lt-le z x.cost z b s)

pub spent_is : (C : Core) → (k : ℕ) → IsOpenAt C k → NoneOpen C ⊎ (C.expanded ≡ C.limit) → C.expanded ≡ C.limit
spent_is C k o (inl n) = absurd (not_both C.found (get_or C.waiting k no_entry).bound o.1 (n k o.0))
spent_is C k o (inr e) = e

pub not_spent : (C : Core) → Holds C → (k : ℕ) → IsOpenAt C k → C.expanded ≡ C.limit → 2 ^ (length C.problem.branch + 1) ≤ C.limit + 1 → ⊥
not_spent C h k o e l =
    let f = few_nodes C h in
    let a : length C.problem.branch + 1 ≡ suc (length C.problem.branch) = omega arith in
    let g : 2 ^ suc (length C.problem.branch) ≤ C.limit + 1 = subst (λ n. 2 ^ n ≤ C.limit + 1) a l in
    let m = as_many C h in let c = h.counted in let t = o.0 in
    omega arith

-- ---- why it ended
pub kept_why : (C : Core) (w : Why) → NoneOpen C → IsKeptCause C w → WhyHolds C w
kept_why C (Spent n) o h = absurd h
kept_why C (Range i r) o h = (o, h)

pub kept_not_spent : (C : Core) (w : Why) → IsKeptCause C w → IsNotSpentWhy w
kept_not_spent C (Spent n) h = h
kept_not_spent C (Range i r) h = tt

pub kept_none : (C : Core) (o : Option Why) → o ≡ None → MatchOption o (NoneKept C) (λ w. IsKeptCause C w) → NoneKept C
kept_none C o e h = subst (λ o. MatchOption o (NoneKept C) (λ w. IsKeptCause C w)) e h

pub kept_some : (C : Core) (o : Option Why) (w : Why) → o ≡ Some w → MatchOption o (NoneKept C) (λ w. IsKeptCause C w) → IsKeptCause C w
kept_some C o w e h = subst (λ o. MatchOption o (NoneKept C) (λ w. IsKeptCause C w)) e h

-- what a search answers at its end is planned
pub planned_of : (C : Core) (p : Problem) (n : ℕ) (x : Result Answer AllocError) → Holds C → C.problem ≡ p → C.limit ≡ n →
    IfOk x (λ a. IsAnswerOf C a) → IfOk x (λ a. IsPlanned p n a)
planned_of C p n (Ok a) h e f k = record { end = C; holds = h; problem = e; limit = f; answer = k }
planned_of C p n (Err m) h e f k = tt
