-- The tree of the nodes shows its claim.
use Rattle.std.proofs.Common.{◌≡◌, ℕ, zero, suc, ◌+◌, ◌<◌, ◌≤◌, Bool, true, false, List, [], ◌∷◌, ◌++◌, length, map, refl, sym, ◌∙◌, ap, ap₂, subst, arith, inl, inr, Option, Some, None}
use Rattle.std.proofs.lemmas.List.{map-append}
use Rattle.hys_number.specs.Ops.{◌≤ₙ◌, ◌<ₙ◌}
use Rattle.hys_search.specs.declared.nodes.Standing.TheVariants.{Waits, Inner as inner, Never as never, Closed, Kept}
use Rattle.hys_tree.specs.declared.tree.TreePlace.TheVariants.{Inner, Cost, Never as Never_place}
use Rattle.hys_relax.specs.Laws.{child as below}
use Rattle.hys_tree.specs.Certificate.{Certificate as Tree, cost as cost_leaf_of, never as never_leaf_of, fork as joined}
use Rattle.hys_number.proofs.Order.{le_refl', le_trans, le_of_lt}
use Rattle.hys_number.specs.Number.{Number}
use Rattle.hys_relax.specs.declared.fixing.Fixing.{Fixing}
use Rattle.hys_search.proofs.Changes.{node_cases}
use Rattle.hys_search.proofs.Paths.{path-parent, path-root}
use Rattle.hys_search.specs.Core.{Core, Holds}
use Rattle.hys_search.specs.Nodes.{AreParents, Shape, first_child, grow, labels, node_at, path, shape, shape_at}
use Rattle.hys_search.specs.Places.{IsLesser, IsLower, IsLowest, Visit, goal_by, is_cost, place_at, place_of, visit_at, walk}
use Rattle.hys_search.specs.Standings.{IsCertified, IsExcluded, Stands, bound_of, certificate_at}
use Rattle.hys_search.specs.declared.nodes.Certificate.{Certificate}
use Rattle.hys_search.specs.declared.nodes.Node.{Node}
use Rattle.hys_search.specs.declared.nodes.Standing.{Standing}
use Rattle.hys_tree.specs.Certificate.{preorder}
use Rattle.hys_tree.specs.Fits.{TreeFits}
use Rattle.hys_tree.specs.Shows.{CostShows, Goal, InnerHolds, Keeps, NeverShows, TreeShows}
use Rattle.hys_tree.specs.declared.tree.TreePlace.{TreePlace}

-- a tree below a node with these nodes in preorder, that shows the goal, and the numbers of whose sums fit
pub record IsShown (C : Core) (g : Goal) (fs : List Fixing) (js : List ℕ) : Type 0 where
  pub tree : Tree
  pub places_are : preorder tree ≡ map (place_at C.nodes C.certificates) js
  pub walked : walk fs tree ≡ map (visit_at C) js
  pub shows : TreeShows C.problem g fs tree
  pub tree_fits : TreeFits C.problem fs tree

abbrev pub KeptAbove : List Node → List Certificate → Goal → Type 0
KeptAbove ns cs g = (j : ℕ) → j < length ns → is_cost (node_at ns j).standing ≡ true → Keeps g (bound_of ns cs j)

leaf_shown : (C : Core) (g : Goal) (j : ℕ) (t : Tree) (p : TreePlace) → preorder t ≡ p ∷ [] → walk (path C.nodes j) t ≡ record { fixings = path C.nodes j; place = p } ∷ [] → place_at C.nodes C.certificates j ≡ p → TreeShows C.problem g (path C.nodes j) t → TreeFits C.problem (path C.nodes j) t → IsShown C g (path C.nodes j) (j ∷ [])
leaf_shown C g j t p a b e h f = record {
  tree = t;
  places_are = a ∙ ap (λ (p : TreePlace). p ∷ []) (sym e);
  walked = b ∙ ap (λ (p : TreePlace). record { fixings = path C.nodes j; place = p } ∷ []) (sym e);
  shows = h;
  tree_fits = f;
}

cost_shown : (C : Core) (g : Goal) (j held : ℕ) → place_at C.nodes C.certificates j ≡ Cost (certificate_at C.certificates held).multipliers (certificate_at C.certificates held).depth → IsCertified C.problem C.certificates held (path C.nodes j) → Keeps g (certificate_at C.certificates held).bound → IsShown C g (path C.nodes j) (j ∷ [])
cost_shown C g j held e h k =
    let c : Certificate = certificate_at C.certificates held in
    let s : CostShows C.problem g (path C.nodes j) c.multipliers c.depth = record { depth = h.1.within; lawful = h.1.lawful; keeps = subst (λ z. Keeps g z) h.1.bound k } in
    leaf_shown C g j (cost_leaf_of c.multipliers c.depth) (Cost c.multipliers c.depth) refl refl e s h.1.sum_fits

never_shown : (C : Core) (g : Goal) (j held : ℕ) → place_at C.nodes C.certificates j ≡ Never_place (certificate_at C.certificates held).multipliers (certificate_at C.certificates held).depth → IsExcluded C.problem C.certificates held (path C.nodes j) → IsShown C g (path C.nodes j) (j ∷ [])
never_shown C g j held e h =
    let c : Certificate = certificate_at C.certificates held in
    let s : NeverShows C.problem (path C.nodes j) c.multipliers c.depth = record { depth = h.1.within; lawful = h.1.lawful; above = h.1.above } in
    leaf_shown C g j (never_leaf_of c.multipliers c.depth) (Never_place c.multipliers c.depth) refl refl e s h.1.sum_fits

fork_shown : (C : Core) (g : Goal) (j c : ℕ) (xs ys : List ℕ) → place_at C.nodes C.certificates j ≡ Inner c → InnerHolds C.problem (path C.nodes j) c → IsShown C g (below (path C.nodes j) c false) xs → IsShown C g (below (path C.nodes j) c true) ys → IsShown C g (path C.nodes j) (j ∷ (xs ++ ys))
fork_shown C g j c xs ys e f a b = record {
  tree = joined c a.tree b.tree;
  places_are = ap₂ (λ p ps. p ∷ ps) (sym e) (ap₂ (λ x y. x ++ y) a.places_are b.places_are ∙ sym (map-append (place_at C.nodes C.certificates) xs ys));
  walked = ap₂ (λ (p : TreePlace) (vs : List Visit). record { fixings = path C.nodes j; place = p } ∷ vs) (sym e) (ap₂ (λ x y. x ++ y) a.walked b.walked ∙ sym (map-append (visit_at C) xs ys));
  shows = (f, a.shows, b.shows);
  tree_fits = (a.tree_fits, b.tree_fits);
}

-- the path of a child
pub child_path : (ns : List Node) (i k c : ℕ) (one : Bool) → AreParents ns → i < k → k < length ns → (node_at ns k).parent ≡ i → (node_at ns k).fixing ≡ record { column = c; one = one } → path ns k ≡ below (path ns i) c one
child_path ns i k c one up l t p f = path-parent ns k (omega arith) t (up k (omega arith) t) ∙ ap₂ (λ (x : ℕ) (y : Fixing). path ns x ++ (y ∷ [])) p f

shown_at : (C : Core) (g : Goal) (j : ℕ) (below_it : ℕ → Shape) → AreParents C.nodes → ((k : ℕ) → j < k → k < length C.nodes → IsShown C g (path C.nodes k) (labels (below_it k))) →
    (held : ℕ) → (s : Standing) → Stands C.problem C.certificates C.faults C.found C.nodes j held (path C.nodes j) s → (is_cost s ≡ true → Keeps g (certificate_at C.certificates held).bound) → place_at C.nodes C.certificates j ≡ place_of (certificate_at C.certificates held) s →
    IsShown C g (path C.nodes j) (labels (grow j (first_child s) below_it))
shown_at C g j b up rest held Waits h k e = cost_shown C g j held e h (k refl)
shown_at C g j b up rest held (inner d m) h k e =
    let w = h.2 in
    let l : j < m = w.later in
    let t : suc m < length C.nodes = w.there in
    let a : IsShown C g (below (path C.nodes j) d false) (labels (b m)) = subst (λ fs. IsShown C g fs (labels (b m))) (child_path C.nodes j m d false up l (omega arith) w.parent_0 w.fixing_0) (rest m l (omega arith)) in
    let o : IsShown C g (below (path C.nodes j) d true) (labels (b (suc m))) = subst (λ fs. IsShown C g fs (labels (b (suc m)))) (child_path C.nodes j (suc m) d true up (omega arith) t w.parent_1 w.fixing_1) (rest (suc m) (omega arith) t) in
    fork_shown C g j d (labels (b m)) (labels (b (suc m))) e h.0 a o
shown_at C g j b up rest held never h k e = never_shown C g j held e h
shown_at C g j b up rest held Closed h k e = cost_shown C g j held e h.0 (k refl)
shown_at C g j b up rest held (Kept a) h k e = cost_shown C g j held e h.0 (k refl)

shown_from : (C : Core) (g : Goal) → Holds C → KeptAbove C.nodes C.certificates g → (turns j : ℕ) → j < length C.nodes → length C.nodes ≤ turns + j → IsShown C g (path C.nodes j) (labels (shape_at C.nodes turns j))
shown_from C g h k zero j l m = absurd (omega arith)
shown_from C g h k (suc turns) j l m = shown_at C g j (shape_at C.nodes turns) h.parents (λ x u t. shown_from C g h k turns x t (omega arith)) (node_at C.nodes j).held (node_at C.nodes j).standing (h.each j l) (k j l) refl

pub shown_tree : (C : Core) (g : Goal) → Holds C → KeptAbove C.nodes C.certificates g → IsShown C g [] (labels (shape C.nodes))
unfolding shape
shown_tree C g h k = subst (λ fs. IsShown C g fs (labels (shape C.nodes))) (path-root C.nodes) (shown_from C g h k (length C.nodes) 0 h.rooted (omega arith))

pub keeps_lower : (C : Core) (o : Option Number) → IsLower C o → KeptAbove C.nodes C.certificates (goal_by o)
keeps_lower C None h j l e = let n : is_cost (node_at C.nodes j).standing ≡ false = h j l in cc
keeps_lower C (Some z) h j l e = h.0 j l e

-- ---- one more node
pub lowest_none : (ns : List Node) (cs : List Certificate) → IsLowest ns cs 0 None
lowest_none ns cs j l = absurd (omega arith)

lowest_stays : (ns : List Node) (cs : List Certificate) (n : ℕ) (o : Option Number) → is_cost (node_at ns n).standing ≡ false → IsLowest ns cs n o → IsLowest ns cs (n + 1) o
lowest_stays ns cs n None e h = λ j l. elim (node_cases j n) as (λ _. is_cost (node_at ns j).standing ≡ false) [
  | inl q ↦ subst (λ k. is_cost (node_at ns k).standing ≡ false) (sym q) e
  | inr q ↦ h j (omega arith)
]
lowest_stays ns cs n (Some z) e h = (
  λ j l c. elim (node_cases j n) [
    | inl q ↦ let f : is_cost (node_at ns n).standing ≡ true = subst (λ k. is_cost (node_at ns k).standing ≡ true) q c in cc
    | inr q ↦ h.0 j (omega arith) c
  ],
  (h.1.0, (let u : h.1.0 < n = h.1.1 in omega arith), h.1.2, h.1.3),
)

lowest_first : (ns : List Node) (cs : List Certificate) (n : ℕ) → is_cost (node_at ns n).standing ≡ true → IsLowest ns cs n None → IsLowest ns cs (n + 1) (Some (bound_of ns cs n))
lowest_first ns cs n e h = (
  λ j l c. elim (node_cases j n) [
    | inl q ↦ subst (λ k. bound_of ns cs n ≤ₙ bound_of ns cs k) (sym q) (le_refl' (bound_of ns cs n))
    | inr q ↦ let f : is_cost (node_at ns j).standing ≡ false = h j (omega arith) in cc
  ],
  (n, omega arith, e, refl),
)

lowest_new : (ns : List Node) (cs : List Certificate) (n : ℕ) (z : Number) → is_cost (node_at ns n).standing ≡ true → bound_of ns cs n <ₙ z → IsLowest ns cs n (Some z) → IsLowest ns cs (n + 1) (Some (bound_of ns cs n))
lowest_new ns cs n z e b h = (
  λ j l c. elim (node_cases j n) [
    | inl q ↦ subst (λ k. bound_of ns cs n ≤ₙ bound_of ns cs k) (sym q) (le_refl' (bound_of ns cs n))
    | inr q ↦ le_trans (bound_of ns cs n) z (bound_of ns cs j) (le_of_lt (bound_of ns cs n) z b) (h.0 j (omega arith) c)
  ],
  (n, omega arith, e, refl),
)

lowest_old : (ns : List Node) (cs : List Certificate) (n : ℕ) (z : Number) → is_cost (node_at ns n).standing ≡ true → z ≤ₙ bound_of ns cs n → IsLowest ns cs n (Some z) → IsLowest ns cs (n + 1) (Some z)
lowest_old ns cs n z e b h = (
  λ j l c. elim (node_cases j n) [
    | inl q ↦ subst (λ k. z ≤ₙ bound_of ns cs k) (sym q) b
    | inr q ↦ h.0 j (omega arith) c
  ],
  (h.1.0, (let u : h.1.0 < n = h.1.1 in omega arith), h.1.2, h.1.3),
)

lowest_cases : (ns : List Node) (cs : List Certificate) (n : ℕ) (o r : Option Number) (b : Bool) → is_cost (node_at ns n).standing ≡ b → IsLowest ns cs n o → IsLesser o b (bound_of ns cs n) r → IsLowest ns cs (n + 1) r
lowest_cases ns cs n o r false e h l = subst (IsLowest ns cs (n + 1)) (sym l) (lowest_stays ns cs n o e h)
lowest_cases ns cs n None r true e h l = subst (IsLowest ns cs (n + 1)) (sym l) (lowest_first ns cs n e h)
lowest_cases ns cs n (Some z) r true e h (inl l) = subst (IsLowest ns cs (n + 1)) (sym l.1) (lowest_new ns cs n z e l.0 h)
lowest_cases ns cs n (Some z) r true e h (inr l) = subst (IsLowest ns cs (n + 1)) (sym l.1) (lowest_old ns cs n z e l.0 h)

pub lowest_more : (ns : List Node) (cs : List Certificate) (n : ℕ) (o r : Option Number) → IsLowest ns cs n o → IsLesser o (is_cost (node_at ns n).standing) (bound_of ns cs n) r → IsLowest ns cs (n + 1) r
lowest_more ns cs n o r h l = lowest_cases ns cs n o r (is_cost (node_at ns n).standing) refl h l

pub cost_leaf : (s : Standing) → is_cost s ≡ true → first_child s ≡ None
cost_leaf Waits e = refl
cost_leaf (inner c k) e = cc
cost_leaf never e = cc
cost_leaf Closed e = refl
cost_leaf (Kept a) e = refl

pub lesser_old : (o : Option Number) (a b d : Number) (k : Bool) → o ≡ Some a → k ≡ true → d ≡ b → a ≤ₙ b → IsLesser o k d (Some a)
lesser_old o a b d k e f g l = subst (λ o. IsLesser o k d (Some a)) (sym e) (subst (λ k. IsLesser (Some a) k d (Some a)) (sym f) (inr (subst (λ z. a ≤ₙ z) (sym g) l, refl)))
