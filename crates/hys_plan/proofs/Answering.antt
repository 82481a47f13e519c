-- From what holds of the nodes to what an answer says of its tree.
use Rattle.std.proofs.Common.{◌≡◌, ℕ, zero, suc, ◌+◌, ◌<◌, ◌≤◌, Bool, true, false, List, [], ◌∷◌, ◌++◌, length, get_or, map, refl, sym, ◌∙◌, ap, subst, arith, inl, inr, Option, Some, None, if◌then◌else◌}
use Rattle.std.proofs.lemmas.List.{map-append, length-map}
use Rattle.hys_tree.specs.Certificate.{Certificate as Tree}
use Rattle.hys_search.specs.declared.nodes.Standing.TheVariants.{Waits, Inner as inner, Never as never, Closed, Kept}
use Rattle.hys_tree.specs.declared.answer.Claim.TheVariants.{Least, NoneExists, AtLeast}
use Rattle.hys_tree.specs.declared.answer.Why.TheVariants.{Range, Spent}
use Rattle.hys_lin.specs.declared.problem.Problem.{Problem}
use Rattle.hys_number.specs.Number.{Number}
use Rattle.hys_plan.proofs.Ending.{waiting_settled}
use Rattle.hys_plan.specs.Answer.{EndShown, HasCause, HasRising, IsAnswered, IsCostOf, IsOpen, IsSettled, IsSettledCost, IsShut, IsStranded, Reaches, WhyShown, best_of, count, is_inner_or_never, marked, one_if}
use Rattle.hys_plan.specs.Planned.{AllAtLeast, EndClaims, IsAnswerOf, IsOpenAt, IsPlanned, NoneOpen, WhyHolds}
use Rattle.hys_relax.specs.declared.range.RangeAt.{RangeAt}
use Rattle.hys_search.proofs.Certified.{IsShown, shown_tree}
use Rattle.hys_search.proofs.Changes.{picked_in, rising_of}
use Rattle.hys_search.proofs.Conclusions.{IsAmong, in_tree, none_found, same_fits, shows_lower}
use Rattle.hys_search.proofs.Preorder.{each_at, labels_below}
use Rattle.hys_search.proofs.Walk.{as_many, entry_is, get_or-map}
use Rattle.hys_search.specs.Branching.{IsUnfit}
use Rattle.hys_search.specs.Core.{Core, Holds, IsFirstKept, IsNotOpenKept, IsOpenKept, picked_of}
use Rattle.hys_search.specs.Nodes.{Shape, fork, labels, node_at, path, shape, sum_below, tip, waits, waits_below, weigh}
use Rattle.hys_search.specs.Picks.{no_entry}
use Rattle.hys_search.specs.Places.{IsLower, Visit, is_cost, no_visit, place_at, place_of, places_of, visit, visit_at, walk}
use Rattle.hys_search.specs.Standings.{Beats, FoundHolds, IsSettledBy, Stands, bound_of, certificate_at, no_fault}
use Rattle.hys_search.specs.declared.nodes.Certificate.{Certificate}
use Rattle.hys_search.specs.declared.nodes.Node.{Node}
use Rattle.hys_search.specs.declared.nodes.Standing.{Standing}
use Rattle.hys_search.specs.declared.nodes.Waiting.{Waiting}
use Rattle.hys_tree.specs.Fits.{Fits}
use Rattle.hys_tree.specs.Shows.{Shows, at_least}
use Rattle.hys_tree.specs.declared.answer.Answer.{Answer}
use Rattle.hys_tree.specs.declared.answer.Best.{Best}
use Rattle.hys_tree.specs.declared.answer.Claim.{Claim}
use Rattle.hys_tree.specs.declared.answer.Why.{Why}
use Rattle.hys_tree.specs.declared.tree.TreePlace.{TreePlace}

-- ---- at a node, by what became of it
abbrev At : Core → ℕ → ℕ → Standing → Type 0
At C j held s = Stands C.problem C.certificates C.faults C.found C.nodes j held (path C.nodes j) s

cause_at : (C : Core) (j held : ℕ) (s : Standing) → At C j held s → HasCause C.problem (path C.nodes j) (place_of (certificate_at C.certificates held) s)
cause_at C j held Waits h = tt
cause_at C j held (inner c k) h = h.1
cause_at C j held never h = tt
cause_at C j held Closed h = tt
cause_at C j held (Kept a) h = tt

rising_at : (C : Core) (j held : ℕ) (s : Standing) → At C j held s → HasRising (place_of (certificate_at C.certificates held) s)
rising_at C j held Waits h = h.1.rise
rising_at C j held (inner c k) h = tt
rising_at C j held never h = h.1.rise
rising_at C j held Closed h = h.0.1.rise
rising_at C j held (Kept a) h = h.0.1.rise

cost_of_at : (C : Core) (j held : ℕ) (s : Standing) → At C j held s → is_cost s ≡ true → IsCostOf C.problem (certificate_at C.certificates held).bound (path C.nodes j) (place_of (certificate_at C.certificates held) s)
cost_of_at C j held Waits h e = sym h.1.bound
cost_of_at C j held (inner c k) h e = cc
cost_of_at C j held never h e = cc
cost_of_at C j held Closed h e = sym h.0.1.bound
cost_of_at C j held (Kept a) h e = sym h.0.1.bound

open_at : (C : Core) (j held : ℕ) (s : Standing) → At C j held s → is_cost s ≡ true → Beats C.found (certificate_at C.certificates held).bound → IsOpen C.problem C.found (path C.nodes j) (place_of (certificate_at C.certificates held) s)
open_at C j held Waits h e b = subst (Beats C.found) h.1.bound b
open_at C j held (inner c k) h e b = cc
open_at C j held never h e b = cc
open_at C j held Closed h e b = subst (Beats C.found) h.0.1.bound b
open_at C j held (Kept a) h e b = subst (Beats C.found) h.0.1.bound b

shut_at : (C : Core) (j held : ℕ) (s : Standing) → At C j held s → (is_cost s ≡ true → IsSettledBy C.found (certificate_at C.certificates held).bound) → IsShut C.problem C.found (path C.nodes j) (place_of (certificate_at C.certificates held) s)
shut_at C j held Waits h b = subst (IsSettledBy C.found) h.1.bound (b refl)
shut_at C j held (inner c k) h b = tt
shut_at C j held never h b = tt
shut_at C j held Closed h b = subst (IsSettledBy C.found) h.0.1.bound (b refl)
shut_at C j held (Kept a) h b = subst (IsSettledBy C.found) h.0.1.bound (b refl)

-- settled, where those that wait are
settled_at : (C : Core) (j held : ℕ) (s : Standing) → At C j held s → (waits s ≡ true → IsSettledBy C.found (certificate_at C.certificates held).bound) → IsSettled C.problem C.found (path C.nodes j) (place_of (certificate_at C.certificates held) s)
settled_at C j held Waits h b = inl (subst (IsSettledBy C.found) h.1.bound (b refl))
settled_at C j held (inner c k) h b = inl tt
settled_at C j held never h b = inl tt
settled_at C j held Closed h b = inl (subst (IsSettledBy C.found) h.0.1.bound h.1)
settled_at C j held (Kept a) h b = inr (get_or C.faults a no_fault, (h.2, h.3))

-- ---- by places of the walk
pub record IsWalked (C : Core) (t : Tree) : Type 0 where
  pub walked : walk [] t ≡ map (visit_at C) (labels (shape C.nodes))

walk_length : (C : Core) (t : Tree) → IsWalked C t → length (walk [] t) ≡ length (labels (shape C.nodes))
walk_length C t w = ap length w.walked ∙ length-map (labels (shape C.nodes)) (visit_at C)

pub visit_is : (C : Core) (t : Tree) (i : ℕ) → IsWalked C t → i < length (labels (shape C.nodes)) → visit t i ≡ visit_at C (get_or (labels (shape C.nodes)) i 0)
visit_is C t i w l = ap (λ (vs : List Visit). get_or vs i no_visit) w.walked ∙ get_or-map (visit_at C) (labels (shape C.nodes)) i 0 no_visit l

label_below : (C : Core) → Holds C → (i : ℕ) → i < length (labels (shape C.nodes)) → get_or (labels (shape C.nodes)) i 0 < length C.nodes
label_below C h i l = each_at (length C.nodes) (labels (shape C.nodes)) i (labels_below C.nodes (rising_of C h) h.rooted) l

pub causes_hold : (C : Core) (t : Tree) → Holds C → IsWalked C t → (i : ℕ) → i < length (walk [] t) → HasCause C.problem (visit t i).fixings (visit t i).place
causes_hold C t h w i l =
    let m : i < length (labels (shape C.nodes)) = let e = walk_length C t w in omega arith in
    let j : ℕ = get_or (labels (shape C.nodes)) i 0 in
    subst (λ (v : Visit). HasCause C.problem v.fixings v.place) (sym (visit_is C t i w m)) (cause_at C j (node_at C.nodes j).held (node_at C.nodes j).standing (h.each j (label_below C h i m)))

pub rising_hold : (C : Core) (t : Tree) → Holds C → IsWalked C t → (i : ℕ) → i < length (walk [] t) → HasRising (visit t i).place
rising_hold C t h w i l =
    let m : i < length (labels (shape C.nodes)) = let e = walk_length C t w in omega arith in
    let j : ℕ = get_or (labels (shape C.nodes)) i 0 in
    subst (λ (v : Visit). HasRising v.place) (sym (visit_is C t i w m)) (rising_at C j (node_at C.nodes j).held (node_at C.nodes j).standing (h.each j (label_below C h i m)))

-- a node's visit
pub record IsVisited (C : Core) (t : Tree) (j : ℕ) : Type 0 where
  pub place : ℕ
  pub there : place < length (walk [] t)
  pub is : visit t place ≡ visit_at C j

pub visited : (C : Core) (t : Tree) → Holds C → IsWalked C t → (j : ℕ) → j < length C.nodes → IsVisited C t j
visited C t h w j l =
    let p : IsAmong j (labels (shape C.nodes)) = in_tree C h j l in
    let e = walk_length C t w in let u = p.there in
    record { place = p.place; there = omega arith; is = visit_is C t p.place w p.there ∙ ap (visit_at C) p.is }

pub lowest_visit : (C : Core) (t : Tree) (z : Number) → Holds C → IsWalked C t → IsLower C (Some z) → (i : ℕ) × (i < length (walk [] t)) × IsCostOf C.problem z (visit t i).fixings (visit t i).place
lowest_visit C t z h w l =
    let j : ℕ = l.1.0 in
    let v : IsVisited C t j = visited C t h w j l.1.1 in
    (v.place, v.there, subst (λ (v : Visit). IsCostOf C.problem z v.fixings v.place) (sym v.is) (subst (λ z. IsCostOf C.problem z (path C.nodes j) (place_at C.nodes C.certificates j)) l.1.3 (cost_of_at C j (node_at C.nodes j).held (node_at C.nodes j).standing (h.each j l.1.1) l.1.2)))

-- ---- why it ended
pub spent_visit : (C : Core) (t : Tree) → Holds C → IsWalked C t → (k : ℕ) → IsOpenAt C k → (i : ℕ) × (i < length (walk [] t)) × IsOpen C.problem C.found (visit t i).fixings (visit t i).place
spent_visit C t h w k o =
    let m = as_many C h in let u = o.0 in
    let l : k < length C.queue = omega arith in
    let j : ℕ = picked_of C k in
    let q = picked_in C k h l in
    let v : IsVisited C t j = visited C t h w j q.there in
    let b : Beats C.found (bound_of C.nodes C.certificates j) = subst (λ (z : Waiting). Beats C.found z.bound) (entry_is C k no_entry h l) o.1 in
    (v.place, v.there, subst (λ (v : Visit). IsOpen C.problem C.found v.fixings v.place) (sym v.is) (open_at C j (node_at C.nodes j).held (node_at C.nodes j).standing (h.each j q.there) (ap is_cost q.waiting) b))

pub settled_visits : (C : Core) (t : Tree) → Holds C → IsWalked C t → NoneOpen C → (i : ℕ) → i < length (walk [] t) → IsSettled C.problem C.found (visit t i).fixings (visit t i).place
settled_visits C t h w n i l =
    let m : i < length (labels (shape C.nodes)) = let e = walk_length C t w in omega arith in
    let j : ℕ = get_or (labels (shape C.nodes)) i 0 in
    let u : j < length C.nodes = label_below C h i m in
    subst (λ (v : Visit). IsSettled C.problem C.found v.fixings v.place) (sym (visit_is C t i w m)) (settled_at C j (node_at C.nodes j).held (node_at C.nodes j).standing (h.each j u) (waiting_settled C h n j u))

shut_cases : (C : Core) → Holds C → NoneOpen C → (j : ℕ) → j < length C.nodes → IsNotOpenKept C j → (s : Standing) → (node_at C.nodes j).standing ≡ s → is_cost s ≡ true → IsSettledBy C.found (bound_of C.nodes C.certificates j)
shut_cases C h n j l k Waits e c = waiting_settled C h n j l (ap waits e)
shut_cases C h n j l k (inner d m) e c = cc
shut_cases C h n j l k never e c = cc
shut_cases C h n j l k Closed e c = (subst (At C j (node_at C.nodes j).held) e (h.each j l)).1
shut_cases C h n j l k (Kept a) e c = k a e

pub shut_visit : (C : Core) (t : Tree) → Holds C → IsWalked C t → NoneOpen C → (i : ℕ) → i < length (labels (shape C.nodes)) → IsNotOpenKept C (get_or (labels (shape C.nodes)) i 0) → IsShut C.problem C.found (visit t i).fixings (visit t i).place
shut_visit C t h w n i m k =
    let j : ℕ = get_or (labels (shape C.nodes)) i 0 in
    let u : j < length C.nodes = label_below C h i m in
    subst (λ (v : Visit). IsShut C.problem C.found v.fixings v.place) (sym (visit_is C t i w m)) (shut_at C j (node_at C.nodes j).held (node_at C.nodes j).standing (h.each j u) (shut_cases C h n j u k (node_at C.nodes j).standing refl))

kept_at : (C : Core) (t : Tree) → Holds C → IsWalked C t → (i a : ℕ) (r : RangeAt) → i < length (labels (shape C.nodes)) → IsOpenKept C (get_or (labels (shape C.nodes)) i 0) a → r ≡ get_or C.faults a no_fault → IsOpen C.problem C.found (visit t i).fixings (visit t i).place × IsStranded C.problem (visit t i).fixings r
kept_at C t h w i a r m k e =
    let j : ℕ = get_or (labels (shape C.nodes)) i 0 in
    let u : j < length C.nodes = label_below C h i m in
    let s : At C j (node_at C.nodes j).held (Kept a) = subst (At C j (node_at C.nodes j).held) k.0 (h.each j u) in
    subst (λ (v : Visit). IsOpen C.problem C.found v.fixings v.place × IsStranded C.problem v.fixings r) (sym (visit_is C t i w m))
    (open_at C j (node_at C.nodes j).held (node_at C.nodes j).standing (h.each j u) (ap is_cost k.0) k.1, (s.2, subst (IsUnfit C.problem (path C.nodes j)) (sym e) s.3))

pub range_shown : (C : Core) (t : Tree) (nodes expanded i : ℕ) (r : RangeAt) → Holds C → IsWalked C t → NoneOpen C → IsFirstKept C i r → WhyShown C.problem nodes expanded C.found t (Range i r)
range_shown C t nodes expanded i r h w n f =
    let e = walk_length C t w in let u = f.there in
    let g = kept_at C t h w i f.fault r f.there f.is_kept f.is in
    (settled_visits C t h w n, record { there = omega arith; is_open = g.0; stranded = g.1; first = λ j l. shut_visit C t h w n j (omega arith) (f.first j l) })

-- ---- how many places
count-append : (xs ys : List TreePlace) → count (xs ++ ys) ≡ count xs + count ys
count-append [] ys = omega arith
count-append (x ∷ xs) ys = let e = count-append xs ys in omega arith

count_labels : (f : ℕ → TreePlace) (s : Shape) → count (map f (labels s)) ≡ weigh (λ j. one_if (is_inner_or_never (f j))) s
count_labels f (tip i) = omega arith
count_labels f (fork i a b) =
    let p = count_labels f a in let q = count_labels f b in
    let m : count (map f (labels a ++ labels b)) ≡ count (map f (labels a)) + count (map f (labels b)) = ap count (map-append f (labels a) (labels b)) ∙ count-append (map f (labels a)) (map f (labels b)) in
    omega arith

waits_if : (b : Bool) (i : ℕ) (xs : List ℕ) → length (if b then i ∷ xs else xs) ≡ length xs + one_if b
waits_if true i xs = omega arith
waits_if false i xs = omega arith

waits_count : (ns : List Node) (n : ℕ) → length (waits_below ns n) ≡ sum_below (λ j. one_if (waits (node_at ns j).standing)) n
waits_count ns zero = refl
waits_count ns (suc n) = waits_if (waits (node_at ns n).standing) n (waits_below ns n) ∙ ap (λ k. k + one_if (waits (node_at ns n).standing)) (waits_count ns n)

two_sums : (f g : ℕ → ℕ) (n : ℕ) → ((j : ℕ) → f j + g j ≤ 1) → sum_below f n + sum_below g n ≤ n
two_sums f g zero h = omega arith
two_sums f g (suc n) h = let e = two_sums f g n h in let k = h n in omega arith

at_most_one : (c : Certificate) (s : Standing) → one_if (is_inner_or_never (place_of c s)) + one_if (waits s) ≤ 1
at_most_one c Waits = omega arith
at_most_one c (inner d k) = omega arith
at_most_one c never = omega arith
at_most_one c Closed = omega arith
at_most_one c (Kept a) = omega arith

pub few_places : (C : Core) → Holds C → count (places_of C) ≤ C.expanded
few_places C h =
    let f : ℕ → ℕ = λ j. one_if (is_inner_or_never (place_at C.nodes C.certificates j)) in
    let g : ℕ → ℕ = λ j. one_if (waits (node_at C.nodes j).standing) in
    let a : count (places_of C) ≡ sum_below f (length C.nodes) = count_labels (place_at C.nodes C.certificates) (shape C.nodes) ∙ h.once f in
    let b : length C.queue ≡ sum_below g (length C.nodes) = ap length h.queued ∙ waits_count C.nodes (length C.nodes) in
    let d : sum_below f (length C.nodes) + sum_below g (length C.nodes) ≤ length C.nodes = two_sums f g (length C.nodes) (λ j. at_most_one (certificate_at C.certificates (node_at C.nodes j).held) (node_at C.nodes j).standing) in
    let c = h.counted in
    omega arith

-- ---- marks at the leaves that don't wait and have a bound
is_done : Standing → Bool
is_done Waits = false
is_done (inner d k) = false
is_done never = false
is_done Closed = true
is_done (Kept a) = true

done_at : (C : Core) (j held : ℕ) (s : Standing) → At C j held s → is_done s ≡ true → IsSettledCost C.problem C.found (path C.nodes j) (place_of (certificate_at C.certificates held) s)
unfolding is_done
done_at C j held Waits h e = cc
done_at C j held (inner d k) h e = cc
done_at C j held never h e = cc
done_at C j held Closed h e = inl (subst (IsSettledBy C.found) h.0.1.bound h.1)
done_at C j held (Kept a) h e = inr (get_or C.faults a no_fault, (h.2, h.3))

marked-append : (xs ys : List Bool) → marked (xs ++ ys) ≡ marked xs + marked ys
marked-append [] ys = omega arith
marked-append (x ∷ xs) ys = let e = marked-append xs ys in omega arith

marked_labels : (f : ℕ → Bool) (s : Shape) → marked (map f (labels s)) ≡ weigh (λ j. one_if (f j)) s
marked_labels f (tip i) = omega arith
marked_labels f (fork i a b) =
    let p = marked_labels f a in let q = marked_labels f b in
    let m : marked (map f (labels a ++ labels b)) ≡ marked (map f (labels a)) + marked (map f (labels b)) = ap marked (map-append f (labels a) (labels b)) ∙ marked-append (map f (labels a)) (map f (labels b)) in
    omega arith

three_sums : (f g h : ℕ → ℕ) (n : ℕ) → ((j : ℕ) → 1 ≤ (f j + g j) + h j) → n ≤ (sum_below f n + sum_below g n) + sum_below h n
three_sums f g h zero e = omega arith
three_sums f g h (suc n) e = let r = three_sums f g h n e in let k = e n in omega arith

one_at_least : (c : Certificate) (s : Standing) → 1 ≤ (one_if (is_inner_or_never (place_of c s)) + one_if (is_done s)) + one_if (waits s)
unfolding is_done
one_at_least c Waits = omega arith
one_at_least c (inner d k) = omega arith
one_at_least c never = omega arith
one_at_least c Closed = omega arith
one_at_least c (Kept a) = omega arith

reaches : (C : Core) (t : Tree) → Holds C → IsWalked C t → Reaches C.problem C.found t (places_of C) C.expanded
reaches C t h w =
    let d : ℕ → Bool = λ j. is_done (node_at C.nodes j).standing in
    let f : ℕ → ℕ = λ j. one_if (is_inner_or_never (place_at C.nodes C.certificates j)) in
    let g : ℕ → ℕ = λ j. one_if (waits (node_at C.nodes j).standing) in
    let k : ℕ → ℕ = λ j. one_if (d j) in
    let xs : List ℕ = labels (shape C.nodes) in
    let a : count (places_of C) ≡ sum_below f (length C.nodes) = count_labels (place_at C.nodes C.certificates) (shape C.nodes) ∙ h.once f in
    let b : length C.queue ≡ sum_below g (length C.nodes) = ap length h.queued ∙ waits_count C.nodes (length C.nodes) in
    let m : marked (map d xs) ≡ sum_below k (length C.nodes) = marked_labels d (shape C.nodes) ∙ h.once k in
    let s : length C.nodes ≤ (sum_below f (length C.nodes) + sum_below k (length C.nodes)) + sum_below g (length C.nodes) = three_sums f k g (length C.nodes) (λ j. one_at_least (certificate_at C.certificates (node_at C.nodes j).held) (node_at C.nodes j).standing) in
    let c = h.counted in
    let n : length (map d xs) ≡ length xs = length-map xs d in
    record {
      marks = map d xs;
      as_many = n ∙ sym (walk_length C t w);
      settled = λ i l e.
          let u : i < length xs = omega arith in
          let j : ℕ = get_or xs i 0 in
          let r : d j ≡ true = sym (get_or-map d xs i 0 false u) ∙ e in
          subst (λ (v : Visit). IsSettledCost C.problem C.found v.fixings v.place) (sym (visit_is C t i w u)) (done_at C j (node_at C.nodes j).held (node_at C.nodes j).standing (h.each j (label_below C h i u)) r);
      enough = omega arith;
    }

reaches_as : (C : Core) (t : Tree) (b : Option Best) (ps : List TreePlace) (n : ℕ) → Holds C → IsWalked C t → b ≡ C.found → ps ≡ places_of C → n ≡ C.expanded → Reaches C.problem b t ps n
reaches_as C t b ps n h w e f g = subst (λ b. Reaches C.problem b t ps n) (sym e) (subst (λ ps. Reaches C.problem C.found t ps n) (sym f) (subst (λ n. Reaches C.problem C.found t (places_of C) n) (sym g) (reaches C t h w)))

-- ---- the whole answer
why_shown : (C : Core) (nodes expanded : ℕ) (t : Tree) (why : Why) → Holds C → IsWalked C t → C.limit ≡ nodes → expanded ≡ C.expanded → WhyHolds C why → WhyShown C.problem nodes expanded C.found t why
why_shown C nodes expanded t (Spent n) h w m e k = (k.0 ∙ m, k.1 ∙ sym e, spent_visit C t h w k.2.0 k.2.1)
why_shown C nodes expanded t (Range i r) h w m e k = range_shown C t nodes expanded i r h w k.0 k.1

best_is : (C : Core) (c : Claim) → Holds C → EndClaims C c → best_of c ≡ C.found
best_is C (Least b) h k = sym k.0
best_is C NoneExists h k = sym (none_found C h k)
best_is C (AtLeast z best why) h k = k.1

end_shown : (C : Core) (nodes expanded : ℕ) (t : Tree) (c : Claim) → Holds C → IsWalked C t → C.limit ≡ nodes → expanded ≡ C.expanded → EndClaims C c → EndShown C.problem nodes expanded t c
end_shown C nodes expanded t (Least b) h w m e k = tt
end_shown C nodes expanded t NoneExists h w m e k = tt
end_shown C nodes expanded t (AtLeast z best why) h w m e k =
    (lowest_visit C t z h w k.0, subst (λ (b : Option Best). WhyShown C.problem nodes expanded b t why) (sym k.1) (why_shown C nodes expanded t why h w m e k.2))

answered_by : (C : Core) (nodes : ℕ) (a : Answer) → Holds C → C.limit ≡ nodes → IsAnswerOf C a → IsAnswered C.problem nodes a
answered_by C nodes a h m k =
    let t : Tree = k.tree.tree in
    let w : IsWalked C t = record { walked = k.tree.walked } in
    let f = few_places C h in let l = h.kept_to in let e = k.expanded in
    let n : count a.tree.places ≡ count (places_of C) = ap count k.tree.placed in
    record {
      tree = t;
      preordered = k.tree.preordered;
      causes = causes_hold C t h w;
      rising = rising_hold C t h w;
      within = omega arith;
      fewest = omega arith;
      most = reaches_as C t (best_of a.claim) a.tree.places a.expanded h w (best_is C a.claim h k.claim) k.tree.placed k.expanded;
      ended = end_shown C nodes a.expanded t a.claim h w m k.expanded k.claim;
    }

pub answered : (P : Problem) (nodes : ℕ) (a : Answer) → IsPlanned P nodes a → IsAnswered P nodes a
answered P nodes a h = subst (λ P. IsAnswered P nodes a) h.problem (answered_by h.end nodes a h.holds h.limit h.answer)

-- ---- the tree shows the claim
least_shown : (C : Core) (ps : List TreePlace) (b : Best) → Holds C → ps ≡ places_of C → C.found ≡ Some b → AllAtLeast C b.cost → Shows C.problem ps (Least b) × Fits C.problem ps (Least b)
least_shown C ps b h e f k =
    let s : IsShown C (at_least b.cost) [] (labels (shape C.nodes)) = shown_tree C (at_least b.cost) h k in
    let g : FoundHolds C.problem C.nodes C.certificates (Some b) = subst (FoundHolds C.problem C.nodes C.certificates) f h.best in (
      record { tree = s.tree; preordered = s.places_are ∙ sym e; shows = s.shows; claim = record { solution = g.solution; cost = g.cost } },
      record { tree = s.tree; preordered = s.places_are ∙ sym e; fits = s.tree_fits; claim = same_fits C.problem b.point.values g.point_fits },
    )

claim_shown : (C : Core) (ps : List TreePlace) (c : Claim) → Holds C → ps ≡ places_of C → EndClaims C c → Shows C.problem ps c × Fits C.problem ps c
claim_shown C ps (Least b) h e k = least_shown C ps b h e k.0 k.1
claim_shown C ps NoneExists h e k = shows_lower C ps h e None (Spent 0) k
claim_shown C ps (AtLeast z best why) h e k = subst (λ (b : Option Best). Shows C.problem ps (AtLeast z b why) × Fits C.problem ps (AtLeast z b why)) (sym k.1) (shows_lower C ps h e (Some z) why k.0)

shown_by : (C : Core) (a : Answer) → Holds C → IsAnswerOf C a → Shows C.problem a.tree.places a.claim × Fits C.problem a.tree.places a.claim
shown_by C a h k = claim_shown C a.tree.places a.claim h k.tree.placed k.claim

pub shows : (P : Problem) (nodes : ℕ) (a : Answer) → IsPlanned P nodes a → Shows P a.tree.places a.claim
shows P nodes a h = subst (λ P. Shows P a.tree.places a.claim) h.problem (shown_by h.end a h.holds h.answer).0

pub all_fit : (P : Problem) (nodes : ℕ) (a : Answer) → IsPlanned P nodes a → Fits P a.tree.places a.claim
all_fit P nodes a h = subst (λ P. Fits P a.tree.places a.claim) h.problem (shown_by h.end a h.holds h.answer).1
