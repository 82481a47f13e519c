-- What holds of a search holds after each step.
use Rattle.std.proofs.Common.{◌≡◌, ◌≢◌, ℕ, zero, suc, ◌+◌, ◌<◌, ◌≤◌, Bool, true, false, List, [], ◌∷◌, ◌++◌, length, get_or, set, map, refl, sym, ◌∙◌, ap, ap₂, subst, arith, ◌⊎◌, inl, inr, Option, Some, None, ◌==◌, if◌then◌else◌, length-append, append_assoc}
use Rattle.std.specs.List.{remove}
use Rattle.std.proofs.lemmas.List.{get_or_append_left, get_or_at, length-set, get_or-set_same, get_or-set_other, take-append-le}
use Rattle.std.proofs.lemmas.List.Edits.{length-remove}
use Rattle.hys_relax.proofs.Children.{node_child}
use Rattle.hys_search.specs.declared.nodes.Standing.TheVariants.{Waits, Inner, Never, Closed, Kept}
use Rattle.hys_dual.specs.Relaxing.{IsWarm}
use Rattle.hys_lin.specs.declared.problem.Problem.{Problem}
use Rattle.hys_number.specs.Number.{Number}
use Rattle.hys_relax.specs.BoundSum.{BoundFits}
use Rattle.hys_relax.specs.Node.{IsNode}
use Rattle.hys_relax.specs.declared.fixing.Fixing.{Fixing}
use Rattle.hys_relax.specs.declared.range.RangeAt.{RangeAt}
use Rattle.hys_search.proofs.Paths.{path-append, path-parent, path-set}
use Rattle.hys_search.proofs.Queue.{IsPicked, map-remove, map-waits, picked, waits-append}
use Rattle.hys_search.proofs.Shapes.{IsBranched, once_branched, once_same, other_test, same_test}
use Rattle.hys_search.specs.Branching.{IsJustified, IsUnfit, bound_at}
use Rattle.hys_search.specs.Core.{Core, Holds, IsLeaf, LastingCertificates, branched, child, child_entry, children, entry, picked_of, settled, with_standing}
use Rattle.hys_search.specs.Nodes.{IsRising, child_at, first_child, no_node, node_at, path, waits, waits_below}
use Rattle.hys_search.specs.Standings.{AreChildren, Certifies, Excludes, FoundHolds, IsCertified, IsSettledBy, NodeHolds, Stands, certificate_at, no_fault}
use Rattle.hys_search.specs.declared.nodes.Certificate.{Certificate}
use Rattle.hys_search.specs.declared.nodes.Node.{Node}
use Rattle.hys_search.specs.declared.nodes.Standing.{Standing}
use Rattle.hys_search.specs.declared.nodes.Waiting.{Waiting}
use Rattle.hys_tree.specs.Shows.{InnerHolds}
use Rattle.hys_tree.specs.declared.answer.Best.{Best}

-- ---- a list of nodes that came later: only node i changed, and its links didn't
pub record IsLater (ns ms : List Node) (i : ℕ) : Type 0 where
  pub longer : length ns ≤ length ms
  pub others : (j : ℕ) → j < length ns → j ≢ i → node_at ms j ≡ node_at ns j
  pub parents : (j : ℕ) → j < length ns → (node_at ms j).parent ≡ (node_at ns j).parent
  pub fixings : (j : ℕ) → j < length ns → (node_at ms j).fixing ≡ (node_at ns j).fixing
  pub paths : (j : ℕ) → j < length ns → path ms j ≡ path ns j

link_set : {A : Type 0} (f : Node → A) (ns : List Node) (i j : ℕ) (y : Node) → f y ≡ f (node_at ns i) → f (node_at (set ns i y) j) ≡ f (node_at ns j)
link_set f [] i j y e = refl
link_set f (n ∷ ns) zero zero y e = e
link_set f (n ∷ ns) zero (suc j) y e = refl
link_set f (n ∷ ns) (suc i) zero y e = refl
link_set f (n ∷ ns) (suc i) (suc j) y e = link_set f ns i j y e

pub later_set : (ns : List Node) (i : ℕ) (y : Node) → y.parent ≡ (node_at ns i).parent → y.fixing ≡ (node_at ns i).fixing → IsLater ns (set ns i y) i
later_set ns i y p f = record {
  longer = rw (length-set ns i y) (omega arith);
  others = λ j l ne. get_or-set_other ns i j y no_node ne;
  parents = λ j l. link_set (λ n. n.parent) ns i j y p;
  fixings = λ j l. link_set (λ n. n.fixing) ns i j y f;
  paths = λ j l. path-set ns i j y p f;
}

pub later_append : (ns ms zs : List Node) (i : ℕ) → IsLater ns ms i → IsLater ns (ms ++ zs) i
later_append ns ms zs i h =
    let same : (j : ℕ) → j < length ns → node_at (ms ++ zs) j ≡ node_at ms j = λ j l. get_or_append_left ms zs no_node j (let m = h.longer in omega arith) in
    record {
      longer = (let m = h.longer in let n = length-append ms zs in omega arith);
      others = λ j l ne. same j l ∙ h.others j l ne;
      parents = λ j l. ap (λ n. n.parent) (same j l) ∙ h.parents j l;
      fixings = λ j l. ap (λ n. n.fixing) (same j l) ∙ h.fixings j l;
      paths = λ j l. path-append ms zs j (let m = h.longer in omega arith) ∙ h.paths j l;
    }

-- ---- what a node needs lasts

abbrev pub LastingFaults : List RangeAt → List RangeAt → Type 0
LastingFaults rs qs = (a : ℕ) → a < length rs → (a < length qs) × (get_or qs a no_fault ≡ get_or rs a no_fault)

abbrev pub LastingBest : Option Best → Option Best → Type 0
LastingBest b c = (z : Number) → IsSettledBy b z → IsSettledBy c z

pub record Lasts (cs ds : List Certificate) (rs qs : List RangeAt) (b c : Option Best) : Type 0 where
  pub certificates : LastingCertificates cs ds
  pub faults : LastingFaults rs qs
  pub best : LastingBest b c

pub stands_on : (P : Problem) (cs ds : List Certificate) (rs qs : List RangeAt) (b c : Option Best) (ns ms : List Node) (j held : ℕ) (fs : List Fixing) → Lasts cs ds rs qs b c → ((d k : ℕ) → AreChildren ns j d k → AreChildren ms j d k) → (s : Standing) → Stands P cs rs b ns j held fs s → Stands P ds qs c ms j held fs s
stands_on P cs ds rs qs b c ns ms j held fs l kids Waits h = let w = l.certificates held h.0 in (w.0, subst (λ z. Certifies P z fs) (sym w.1) h.1)
stands_on P cs ds rs qs b c ns ms j held fs l kids (Inner d k) h = (h.0, h.1, kids d k h.2)
stands_on P cs ds rs qs b c ns ms j held fs l kids Never h = let w = l.certificates held h.0 in (w.0, subst (λ z. Excludes P z fs) (sym w.1) h.1)
stands_on P cs ds rs qs b c ns ms j held fs l kids Closed h = let w = l.certificates held h.0.0 in ((w.0, subst (λ z. Certifies P z fs) (sym w.1) h.0.1), subst (λ z. IsSettledBy c z.bound) (sym w.1) (l.best (certificate_at cs held).bound h.1))
stands_on P cs ds rs qs b c ns ms j held fs l kids (Kept a) h = let w = l.certificates held h.0.0 in let v = l.faults a h.1 in ((w.0, subst (λ z. Certifies P z fs) (sym w.1) h.0.1), v.0, h.2, subst (λ z. IsUnfit P fs z) (sym v.1) h.3)

children_later : (ns ms : List Node) (i : ℕ) → IsLater ns ms i → (j d k : ℕ) → AreChildren ns j d k → AreChildren ms j d k
children_later ns ms i l j d k h =
    let a : suc k < length ns = h.there in
    let b : k < length ns = omega arith in
    let m : length ns ≤ length ms = l.longer in
    record {
      later = h.later;
      there = omega arith;
      parent_0 = l.parents k b ∙ h.parent_0;
      fixing_0 = l.fixings k b ∙ h.fixing_0;
      parent_1 = l.parents (suc k) a ∙ h.parent_1;
      fixing_1 = l.fixings (suc k) a ∙ h.fixing_1;
    }

-- a node that didn't change
pub holds_on : (P : Problem) (cs ds : List Certificate) (rs qs : List RangeAt) (b c : Option Best) (ns ms : List Node) (i j : ℕ) → Lasts cs ds rs qs b c → IsLater ns ms i → j < length ns → j ≢ i → NodeHolds P cs rs b ns j → NodeHolds P ds qs c ms j
holds_on P cs ds rs qs b c ns ms i j l m t ne h =
    let e : node_at ms j ≡ node_at ns j = m.others j t ne in
    let p : path ms j ≡ path ns j = m.paths j t in
    let g : Stands P ds qs c ms j (node_at ns j).held (path ns j) (node_at ns j).standing = stands_on P cs ds rs qs b c ns ms j (node_at ns j).held (path ns j) l (children_later ns ms i m j) (node_at ns j).standing h in
    subst (λ z. Stands P ds qs c ms j (node_at ms j).held z (node_at ms j).standing) (sym p) (subst (λ (n : Node). Stands P ds qs c ms j n.held (path ns j) n.standing) (sym e) g)

-- ---- the picked node
pub waits_is : (s : Standing) → waits s ≡ true → s ≡ Waits
waits_is Waits e = refl
waits_is (Inner c k) e = cc
waits_is Never e = cc
waits_is Closed e = cc
waits_is (Kept a) e = cc

pub record IsPickedOf (C : Core) (which : ℕ) : Type 0 where
  pub there : picked_of C which < length C.nodes
  pub waiting : (node_at C.nodes (picked_of C which)).standing ≡ Waits
  pub gone : (y : Node) → waits y.standing ≡ false → waits_below (set C.nodes (picked_of C which) y) (length C.nodes) ≡ remove C.queue which

pub picked_in : (C : Core) (which : ℕ) → Holds C → which < length C.queue → IsPickedOf C which
picked_in C which h w = go (picked C.nodes (length C.nodes) which (omega arith) (subst (λ q. which < length q) h.queued w))
  where
    go : IsPicked C.nodes (length C.nodes) (waits_below C.nodes (length C.nodes)) which → IsPickedOf C which
    go p =
        let a : get_or C.queue which 0 ≡ get_or (waits_below C.nodes (length C.nodes)) which 0 = ap (λ q. get_or q which 0) h.queued in
        let e : p.place ≡ picked_of C which = sym (a ∙ p.is) in
        record {
          there = subst (λ i. i < length C.nodes) e p.there;
          waiting = waits_is (node_at C.nodes (picked_of C which)).standing (subst (λ i. waits (node_at C.nodes i).standing ≡ true) e p.waiting);
          gone = λ y f. subst (λ i. waits_below (set C.nodes i y) (length C.nodes) ≡ remove (waits_below C.nodes (length C.nodes)) which) e (p.gone y f) ∙ ap (λ q. remove q which) (sym h.queued);
        }

rises_at : (P : Problem) (cs : List Certificate) (rs : List RangeAt) (b : Option Best) (ns : List Node) (j held : ℕ) (fs : List Fixing) (k : ℕ) → (s : Standing) → Stands P cs rs b ns j held fs s → first_child s ≡ Some k → (j < k) × (suc k < length ns)
rises_at P cs rs b ns j held fs k Waits h e = cc
rises_at P cs rs b ns j held fs k (Inner c m) h e = let q : m ≡ k = cc in subst (λ k. (j < k) × (suc k < length ns)) q (h.2.later, h.2.there)
rises_at P cs rs b ns j held fs k Never h e = cc
rises_at P cs rs b ns j held fs k Closed h e = cc
rises_at P cs rs b ns j held fs k (Kept a) h e = cc

pub rising_of : (C : Core) → Holds C → IsRising C.nodes
rising_of C h = record { rises = λ j k l e. rises_at C.problem C.certificates C.faults C.found C.nodes j (node_at C.nodes j).held (path C.nodes j) k (node_at C.nodes j).standing (h.each j l) e }

-- ---- entries of the nodes that still wait
pub held_there : (P : Problem) (cs : List Certificate) (rs : List RangeAt) (b : Option Best) (ns : List Node) (j held : ℕ) (fs : List Fixing) → (s : Standing) → waits s ≡ true → Stands P cs rs b ns j held fs s → held < length cs
held_there P cs rs b ns j held fs Waits e h = h.0
held_there P cs rs b ns j held fs (Inner c k) e h = cc
held_there P cs rs b ns j held fs Never e h = cc
held_there P cs rs b ns j held fs Closed e h = cc
held_there P cs rs b ns j held fs (Kept a) e h = cc

same_entry : (ns ms : List Node) (cs : List Certificate) (i j : ℕ) → IsLater ns ms i → j < length ns → j ≢ i → entry ns cs j ≡ entry ms cs j
same_entry ns ms cs i j l t ne = ap₂ (λ (fs : List Fixing) (n : Node). record { depth = length fs; bound = (certificate_at cs n.held).bound }) (sym (l.paths j t)) (sym (l.others j t ne))

not_waiting : (ms : List Node) (i j : ℕ) → waits (node_at ms i).standing ≡ false → waits (node_at ms j).standing ≡ true → j ≢ i
not_waiting ms i j f t e = let g : waits (node_at ms j).standing ≡ false = subst (λ z. waits (node_at ms z).standing ≡ false) (sym e) f in cc

-- the list of entries without the picked node's
pub entries_left : (C : Core) (which : ℕ) (y : Node) → Holds C → which < length C.queue → y.parent ≡ (node_at C.nodes (picked_of C which)).parent → y.fixing ≡ (node_at C.nodes (picked_of C which)).fixing → waits y.standing ≡ false →
    remove C.waiting which ≡ map (entry (set C.nodes (picked_of C which) y) C.certificates) (remove C.queue which)
entries_left C which y h w p f d =
    let q = picked_in C which h w in
    let i : ℕ = picked_of C which in
    let ms : List Node = set C.nodes i y in
    let l : IsLater C.nodes ms i = later_set C.nodes i y p f in
    let same : length ms ≡ length C.nodes = length-set C.nodes i y in
    let at_i : waits (node_at ms i).standing ≡ false = subst (λ (n : Node). waits n.standing ≡ false) (sym (get_or-set_same C.nodes i y no_node q.there)) d in
    let a : remove C.waiting which ≡ remove (map (entry C.nodes C.certificates) C.queue) which = ap (λ z. remove z which) h.entered in
    let b : remove (map (entry C.nodes C.certificates) C.queue) which ≡ map (entry C.nodes C.certificates) (remove C.queue which) = map-remove (entry C.nodes C.certificates) C.queue which in
    let g : map (entry C.nodes C.certificates) (waits_below ms (length C.nodes)) ≡ map (entry ms C.certificates) (waits_below ms (length C.nodes)) = map-waits (entry C.nodes C.certificates) (entry ms C.certificates) ms (length C.nodes) (λ k t e. same_entry C.nodes ms C.certificates i k l t (not_waiting ms i k at_i e)) in
    a ∙ b ∙ subst (λ x. map (entry C.nodes C.certificates) x ≡ map (entry ms C.certificates) x) (q.gone y d) g

-- ---- the picked node becomes a leaf
same_child_set : (ns : List Node) (i : ℕ) (y : Node) → first_child y.standing ≡ child_at ns i → (j : ℕ) → child_at ns j ≡ child_at (set ns i y) j
same_child_set ns i y e j = sym (link_set (λ n. first_child n.standing) ns i j y e)

pub node_cases : (j i : ℕ) → (j ≡ i) ⊎ (j ≢ i)
node_cases j i = go (j == i) refl
  where
    go : (b : Bool) → j == i ≡ b → (j ≡ i) ⊎ (j ≢ i)
    go true e = inl (same_test j i e)
    go false e = inr (other_test j i e)

pub record CanSettle (C : Core) (which held : ℕ) (s : Standing) (found : Option Best) : Type 0 where
  pub within : which < length C.queue
  pub left : C.expanded < C.limit
  pub leaf : IsLeaf s
  pub lasts : LastingBest C.found found
  pub stands : Stands C.problem C.certificates C.faults found C.nodes (picked_of C which) held (path C.nodes (picked_of C which)) s
  pub best : FoundHolds C.problem (settled C which held s found).nodes C.certificates found

-- the paths are nodes still
node_below : (P : Problem) (fs : List Fixing) (c : ℕ) (one : Bool) → IsNode P fs → InnerHolds P fs c → IsNode P (fs ++ (record { column = c; one = one } ∷ []))
node_below P fs c one h f = node_child P fs (record { column = c; one = one }) h f.branch f.free

apart_later : (P : Problem) (ns ms : List Node) (i j : ℕ) → IsLater ns ms i → j < length ns → IsNode P (path ns j) → IsNode P (path ms j)
apart_later P ns ms i j l t h = subst (IsNode P) (sym (l.paths j t)) h

pub settled_holds : (C : Core) (which held : ℕ) (s : Standing) (found : Option Best) → Holds C → CanSettle C which held s found → Holds (settled C which held s found)
unfolding settled
settled_holds C which held s found h m =
    let q = picked_in C which h m.within in
    let i : ℕ = picked_of C which in
    let y : Node = with_standing (node_at C.nodes i) held s in
    let ms : List Node = set C.nodes i y in
    let l : IsLater C.nodes ms i = later_set C.nodes i y refl refl in
    let same : length ms ≡ length C.nodes = length-set C.nodes i y in
    let lasts : Lasts C.certificates C.certificates C.faults C.faults C.found found = record { certificates = λ a t. (t, refl); faults = λ a t. (t, refl); best = m.lasts } in
    let at_i : node_at ms i ≡ y = get_or-set_same C.nodes i y no_node q.there in
    let was : child_at C.nodes i ≡ None = ap first_child q.waiting in
    let here : NodeHolds C.problem C.certificates C.faults found ms i =
    subst (λ z. Stands C.problem C.certificates C.faults found ms i (node_at ms i).held z (node_at ms i).standing) (sym (l.paths i q.there))
    (subst (λ (n : Node). Stands C.problem C.certificates C.faults found ms i n.held (path C.nodes i) n.standing) (sym at_i)
    (stands_on C.problem C.certificates C.certificates C.faults C.faults found found C.nodes ms i held (path C.nodes i) (record { certificates = λ a t. (t, refl); faults = λ a t. (t, refl); best = λ z t. t }) (children_later C.nodes ms i l i) s m.stands)) in
    let counts : length (remove C.queue which) + 1 ≡ length C.queue = length-remove C.queue which m.within in
    let a = h.counted in let b = h.doubled in let c = h.kept_to in let d = m.left in let e = h.rooted in
    record {
      sound = h.sound;
      rooted = omega arith;
      root = l.parents 0 h.rooted ∙ h.root;
      parents = λ j z t. let u : j < length C.nodes = omega arith in subst (λ x. x < j) (sym (l.parents j u)) (h.parents j z u);
      apart = λ j t. let u : j < length C.nodes = omega arith in apart_later C.problem C.nodes ms i j l u (h.apart j u);
      each = λ j t. let u : j < length C.nodes = omega arith in elim (node_cases j i) [
        | inl e ↦ subst (λ x. NodeHolds C.problem C.certificates C.faults found ms x) (sym e) here
        | inr ne ↦ holds_on C.problem C.certificates C.certificates C.faults C.faults C.found found C.nodes ms i j lasts l u ne (h.each j u)
      ];
      once = once_same C.nodes ms same (same_child_set C.nodes i y (m.leaf.1 ∙ sym was)) h.once;
      queued = sym (ap (waits_below ms) same ∙ q.gone y m.leaf.0);
      entered = entries_left C which y h m.within refl refl m.leaf.0;
      best = m.best;
      counted = omega arith;
      doubled = omega arith;
      kept_to = omega arith;
      limited = h.limited;
      warm_there = (let w = h.warm_there in omega arith);
      warmed = subst (λ (z : List Fixing). IsWarm C.problem z C.warm) (sym (l.paths C.warm_at h.warm_there)) h.warmed;
    }

-- ---- the best, where the picked node isn't its place
pub best_later : (P : Problem) (cs : List Certificate) (ns ms : List Node) (i : ℕ) (b : Option Best) → IsLater ns ms i → (node_at ns i).standing ≡ Waits → FoundHolds P ns cs b → FoundHolds P ms cs b
best_later P cs ns ms i None l w h = tt
best_later P cs ns ms i (Some b) l w h =
    let ne : h.place ≢ i = λ e. let a : (node_at ns h.place).standing ≡ Waits = subst (λ z. (node_at ns z).standing ≡ Waits) (sym e) w in let c : (node_at ns h.place).standing ≡ Closed = h.closed in cc in
    let e : node_at ms h.place ≡ node_at ns h.place = l.others h.place h.there ne in
    let t : length ns ≤ length ms = l.longer in let u : h.place < length ns = h.there in
    record {
      solution = h.solution;
      cost = h.cost;
      point_fits = h.point_fits;
      place = h.place;
      there = omega arith;
      closed = ap (λ n. n.standing) e ∙ h.closed;
      bound = ap (λ (n : Node). (certificate_at cs n.held).bound) e ∙ h.bound;
    }

-- ---- the picked node gets two children
second_at : (xs : List Node) (a b d : Node) → get_or (xs ++ (a ∷ b ∷ [])) (suc (length xs)) d ≡ b
second_at [] a b d = refl
second_at (x ∷ xs) a b d = second_at xs a b d

longer_path : (P : Problem) (c : Certificate) (fs gs : List Fixing) → Certifies P c fs → Certifies P c (fs ++ gs)
longer_path P c fs gs h =
    let n = length-append fs gs in let w : c.depth ≤ length fs = h.within in
    record {
      within = omega arith;
      rise = h.rise;
      lawful = h.lawful;
      bound = subst (λ (z : List Fixing). c.bound ≡ bound_at P z c.multipliers) (sym (take-append-le c.depth fs gs w)) h.bound;
      sum_fits = subst (λ (z : List Fixing). BoundFits P z c.multipliers.pairs) (sym (take-append-le c.depth fs gs w)) h.sum_fits;
      least = h.least;
    }

pub record CanBranch (C : Core) (which held c : ℕ) : Type 0 where
  pub within : which < length C.queue
  pub left : C.expanded < C.limit
  pub free : InnerHolds C.problem (path C.nodes (picked_of C which)) c
  pub justified : IsJustified C.problem (path C.nodes (picked_of C which)) c
  pub certified : IsCertified C.problem C.certificates held (path C.nodes (picked_of C which))

-- the new list of nodes, seen from the old one
pub record IsFamily (ns ms : List Node) (i c held : ℕ) : Type 0 where
  pub here : i < length ns
  pub later : IsLater ns ms i
  pub longer : length ms ≡ suc (suc (length ns))
  pub parent : node_at ms i ≡ with_standing (node_at ns i) held (Inner c (length ns))
  pub first : node_at ms (length ns) ≡ child i c false held
  pub second : node_at ms (suc (length ns)) ≡ child i c true held

pub family_of : (ns : List Node) (i c held : ℕ) → i < length ns → IsFamily ns (set ns i (with_standing (node_at ns i) held (Inner c (length ns))) ++ children i c held) i c held
family_of ns i c held l =
    let y : Node = with_standing (node_at ns i) held (Inner c (length ns)) in
    let ms : List Node = set ns i y in
    let same : length ms ≡ length ns = length-set ns i y in
    record {
      here = l;
      later = later_append ns ms (children i c held) i (later_set ns i y refl refl);
      longer = (let n : length (ms ++ children i c held) ≡ length ms + 2 = length-append ms (children i c held) in omega arith);
      parent = get_or_append_left ms (children i c held) no_node i (omega arith) ∙ get_or-set_same ns i y no_node l;
      first = get_or_at ms (child i c false held) (child i c true held ∷ []) no_node (length ns) same;
      second = subst (λ n. node_at (ms ++ children i c held) (suc n) ≡ child i c true held) same (second_at ms (child i c false held) (child i c true held) no_node);
    }

family_branched : (ns ms : List Node) (i c held : ℕ) → IsFamily ns ms i c held → child_at ns i ≡ None → IsBranched ns ms i
family_branched ns ms i c held f w = record {
  here = f.here;
  was = w;
  is = ap (λ n. first_child n.standing) f.parent;
  others = λ j l ne. ap (λ n. first_child n.standing) (f.later.others j l ne);
  first = ap (λ n. first_child n.standing) f.first;
  second = ap (λ n. first_child n.standing) f.second;
  longer = f.longer;
}

family_children : (ns ms : List Node) (i c held : ℕ) → IsFamily ns ms i c held → AreChildren ms i c (length ns)
family_children ns ms i c held f = let a = f.longer in let b = f.here in record {
  later = b;
  there = omega arith;
  parent_0 = ap (λ n. n.parent) f.first;
  fixing_0 = ap (λ n. n.fixing) f.first;
  parent_1 = ap (λ n. n.parent) f.second;
  fixing_1 = ap (λ n. n.fixing) f.second;
}

-- the path of a child
path_child : (ns ms : List Node) (i c held k : ℕ) (one : Bool) → IsFamily ns ms i c held → length ns ≤ k → k < length ms → node_at ms k ≡ child i c one held → path ms k ≡ path ns i ++ (record { column = c; one = one } ∷ [])
path_child ns ms i c held k one f l m e =
    let a : i < length ns = f.here in
    let p : (node_at ms k).parent ≡ i = ap (λ n. n.parent) e in
    let g : (node_at ms k).fixing ≡ record { column = c; one = one } = ap (λ n. n.fixing) e in
    path-parent ms k (omega arith) m (omega arith)
    ∙ ap₂ (λ (x : ℕ) (y : Fixing). path ms x ++ (y ∷ [])) p g
    ∙ ap (λ z. z ++ (record { column = c; one = one } ∷ [])) (f.later.paths i a)

child_holds : (P : Problem) (cs : List Certificate) (rs : List RangeAt) (b : Option Best) (ns ms : List Node) (i c held k : ℕ) (one : Bool) → IsFamily ns ms i c held → length ns ≤ k → k < length ms → node_at ms k ≡ child i c one held → IsCertified P cs held (path ns i) → NodeHolds P cs rs b ms k
child_holds P cs rs b ns ms i c held k one f l m e h =
    let g : Stands P cs rs b ms k held (path ns i ++ (record { column = c; one = one } ∷ [])) Waits = (h.0, longer_path P (certificate_at cs held) (path ns i) (record { column = c; one = one } ∷ []) h.1) in
    subst (λ z. Stands P cs rs b ms k (node_at ms k).held z (node_at ms k).standing) (sym (path_child ns ms i c held k one f l m e))
    (subst (λ (n : Node). Stands P cs rs b ms k n.held (path ns i ++ (record { column = c; one = one } ∷ [])) n.standing) (sym e) g)

child_enters : (ns ms : List Node) (cs : List Certificate) (i c held k : ℕ) (one : Bool) → IsFamily ns ms i c held → length ns ≤ k → k < length ms → node_at ms k ≡ child i c one held → entry ms cs k ≡ record { depth = length (path ns i) + 1; bound = (certificate_at cs held).bound }
child_enters ns ms cs i c held k one f l m e =
    let p : length (path ms k) ≡ length (path ns i) + 1 = ap length (path_child ns ms i c held k one f l m e) ∙ length-append (path ns i) (record { column = c; one = one } ∷ []) in
    ap₂ (λ (x : ℕ) (n : Node). record { depth = x; bound = (certificate_at cs n.held).bound }) p e

appended_entries : (ns zs : List Node) (cs : List Certificate) (n : ℕ) → n ≤ length ns → map (entry ns cs) (waits_below ns n) ≡ map (entry (ns ++ zs) cs) (waits_below ns n)
appended_entries ns zs cs n l = map-waits (entry ns cs) (entry (ns ++ zs) cs) ns n (λ k t e.
    let u : k < length ns = omega arith in
    ap₂ (λ (fs : List Fixing) (x : Node). record { depth = length fs; bound = (certificate_at cs x.held).bound }) (sym (path-append ns zs k u)) (sym (get_or_append_left ns zs no_node k u)))

-- two nodes at the end wait
two_wait : (ms : List Node) (n : ℕ) → waits (node_at ms n).standing ≡ true → waits (node_at ms (suc n)).standing ≡ true → waits_below ms (suc (suc n)) ≡ suc n ∷ n ∷ waits_below ms n
two_wait ms n a b = ap₂ (λ x y. if x then suc n ∷ (if y then n ∷ waits_below ms n else waits_below ms n) else (if y then n ∷ waits_below ms n else waits_below ms n)) b a

data OldOrNew (n j : ℕ) : Type 0 where
  old : j < n → OldOrNew n j
  first : j ≡ n → OldOrNew n j
  second : j ≡ suc n → OldOrNew n j

old_or_new : (n j : ℕ) → j < suc (suc n) → OldOrNew n j
old_or_new n j l = elim (node_cases j n) [
  | inl e ↦ first e
  | inr ne ↦ elim (node_cases j (suc n)) [ inl e ↦ second e | inr me ↦ old (omega arith) ]
]

pub branched_holds : (C : Core) (which held c : ℕ) → Holds C → CanBranch C which held c → Holds (branched C which held c)
unfolding branched
branched_holds C which held c h m =
    let q = picked_in C which h m.within in
    let i : ℕ = picked_of C which in
    let n : ℕ = length C.nodes in
    let y : Node = with_standing (node_at C.nodes i) held (Inner c n) in
    let ms0 : List Node = set C.nodes i y in
    let zs : List Node = children i c held in
    let ms : List Node = ms0 ++ zs in
    let f : IsFamily C.nodes ms i c held = family_of C.nodes i c held q.there in
    let l : IsLater C.nodes ms i = f.later in
    let longer : length ms ≡ suc (suc n) = f.longer in
    let same : length ms0 ≡ n = length-set C.nodes i y in
    let lasts : Lasts C.certificates C.certificates C.faults C.faults C.found C.found = record { certificates = λ a t. (t, refl); faults = λ a t. (t, refl); best = λ z t. t } in
    let was : child_at C.nodes i ≡ None = ap first_child q.waiting in
    let here : NodeHolds C.problem C.certificates C.faults C.found ms i =
    subst (λ z. Stands C.problem C.certificates C.faults C.found ms i (node_at ms i).held z (node_at ms i).standing) (sym (l.paths i q.there))
    (subst (λ (x : Node). Stands C.problem C.certificates C.faults C.found ms i x.held (path C.nodes i) x.standing) (sym f.parent)
    (m.free, m.justified, family_children C.nodes ms i c held f)) in
    let kid_0 : NodeHolds C.problem C.certificates C.faults C.found ms n = child_holds C.problem C.certificates C.faults C.found C.nodes ms i c held n false f (omega arith) (omega arith) f.first m.certified in
    let kid_1 : NodeHolds C.problem C.certificates C.faults C.found ms (suc n) = child_holds C.problem C.certificates C.faults C.found C.nodes ms i c held (suc n) true f (omega arith) (omega arith) f.second m.certified in
    let apart_0 : IsNode C.problem (path ms n) = subst (IsNode C.problem) (sym (path_child C.nodes ms i c held n false f (omega arith) (omega arith) f.first)) (node_below C.problem (path C.nodes i) c false (h.apart i q.there) m.free) in
    let apart_1 : IsNode C.problem (path ms (suc n)) = subst (IsNode C.problem) (sym (path_child C.nodes ms i c held (suc n) true f (omega arith) (omega arith) f.second)) (node_below C.problem (path C.nodes i) c true (h.apart i q.there) m.free) in
    let enters_0 : entry ms C.certificates n ≡ child_entry C which held = child_enters C.nodes ms C.certificates i c held n false f (omega arith) (omega arith) f.first in
    let enters_1 : entry ms C.certificates (suc n) ≡ child_entry C which held = child_enters C.nodes ms C.certificates i c held (suc n) true f (omega arith) (omega arith) f.second in
    let counts : length (remove C.queue which) + 1 ≡ length C.queue = length-remove C.queue which m.within in
    let counts' : length (suc n ∷ n ∷ remove C.queue which) ≡ length (remove C.queue which) + 2 = omega arith in
    let gone : waits_below ms0 n ≡ remove C.queue which = q.gone y refl in
    let left : remove C.waiting which ≡ map (entry ms C.certificates) (remove C.queue which) =
    entries_left C which y h m.within refl refl refl ∙ subst (λ x. map (entry ms0 C.certificates) x ≡ map (entry ms C.certificates) x) gone (appended_entries ms0 zs C.certificates n (omega arith)) in
    let wait_0 : waits (node_at ms n).standing ≡ true = ap (λ x. waits x.standing) f.first in
    let wait_1 : waits (node_at ms (suc n)).standing ≡ true = ap (λ x. waits x.standing) f.second in
    let a = h.counted in let b = h.doubled in let k = h.kept_to in let d = m.left in let e = h.rooted in let here_is : i < n = q.there in
    let parent_0 : (node_at ms n).parent ≡ i = ap (λ x. x.parent) f.first in
    let parent_1 : (node_at ms (suc n)).parent ≡ i = ap (λ x. x.parent) f.second in
    record {
      sound = h.sound;
      rooted = omega arith;
      root = l.parents 0 h.rooted ∙ h.root;
      parents = λ j z t. elim (old_or_new n j (omega arith)) [
        | old u ↦ subst (λ x. x < j) (sym (l.parents j u)) (h.parents j z u)
        | first g ↦ subst (λ x. (node_at ms x).parent < x) (sym g) (omega arith)
        | second g ↦ subst (λ x. (node_at ms x).parent < x) (sym g) (omega arith)
      ];
      apart = λ j t. elim (old_or_new n j (omega arith)) [
        | old u ↦ apart_later C.problem C.nodes ms i j l u (h.apart j u)
        | first g ↦ subst (λ x. IsNode C.problem (path ms x)) (sym g) apart_0
        | second g ↦ subst (λ x. IsNode C.problem (path ms x)) (sym g) apart_1
      ];
      each = λ j t. elim (old_or_new n j (omega arith)) [
        | old u ↦ elim (node_cases j i) [
          | inl g ↦ subst (λ x. NodeHolds C.problem C.certificates C.faults C.found ms x) (sym g) here
          | inr ne ↦ holds_on C.problem C.certificates C.certificates C.faults C.faults C.found C.found C.nodes ms i j lasts l u ne (h.each j u)
        ]
        | first g ↦ subst (λ x. NodeHolds C.problem C.certificates C.faults C.found ms x) (sym g) kid_0
        | second g ↦ subst (λ x. NodeHolds C.problem C.certificates C.faults C.found ms x) (sym g) kid_1
      ];
      once = once_branched C.nodes ms i (rising_of C h) (family_branched C.nodes ms i c held f was) h.once;
      queued = sym (ap (waits_below ms) longer ∙ two_wait ms n wait_0 wait_1 ∙ ap (λ z. suc n ∷ n ∷ z) (waits-append ms0 zs n (omega arith) ∙ gone));
      entered = ap₂ (λ x z. x ∷ z) (sym enters_1) (ap₂ (λ x z. x ∷ z) (sym enters_0) left);
      best = best_later C.problem C.certificates C.nodes ms i C.found l q.waiting h.best;
      counted = omega arith;
      doubled = omega arith;
      kept_to = omega arith;
      limited = h.limited;
      warm_there = (let w = h.warm_there in omega arith);
      warmed = subst (λ (z : List Fixing). IsWarm C.problem z C.warm) (sym (l.paths C.warm_at h.warm_there)) h.warmed;
    }

-- ---- the steps, as the code makes them
pub settled_same : (C : Core) (which held : ℕ) (s : Standing) (i : ℕ) (n : Node) (q : List ℕ) (w : List Waiting) → i ≡ picked_of C which → n ≡ node_at C.nodes i → q ≡ remove C.queue which → w ≡ remove C.waiting which → record C { nodes = set C.nodes i (with_standing n held s); queue = q; waiting = w; expanded = C.expanded + 1 } ≡ settled C which held s C.found
unfolding settled
settled_same C which held s i n q w e f g h =
    let m : n ≡ node_at C.nodes (picked_of C which) = f ∙ ap (node_at C.nodes) e in
    ap₂ (λ (i : ℕ) (n : Node). record C { nodes = set C.nodes i (with_standing n held s); queue = q; waiting = w; expanded = C.expanded + 1 }) e m
    ∙ ap₂ (λ (q : List ℕ) (w : List Waiting). record C { nodes = set C.nodes (picked_of C which) (with_standing (node_at C.nodes (picked_of C which)) held s); queue = q; waiting = w; expanded = C.expanded + 1 }) g h

two_more : {A : Type 0} (xs : List A) (a b : A) → (xs ++ (a ∷ [])) ++ (b ∷ []) ≡ xs ++ (a ∷ b ∷ [])
two_more xs a b = append_assoc xs (a ∷ []) (b ∷ [])

pub branched_same : (C : Core) (which held c i : ℕ) (n : Node) (k depth : ℕ) (bound : Number) (ns : List Node) (q : List ℕ) (w : List Waiting) → i ≡ picked_of C which → n ≡ node_at C.nodes i → k ≡ length C.nodes → depth ≡ length (path C.nodes (picked_of C which)) + 1 → bound ≡ (certificate_at C.certificates held).bound →
    ns ≡ (set C.nodes i (with_standing n held (Inner c k)) ++ (child i c false held ∷ [])) ++ (child i c true held ∷ []) →
    q ≡ (k + 1) ∷ k ∷ remove C.queue which →
    w ≡ record { depth = depth; bound = bound } ∷ record { depth = depth; bound = bound } ∷ remove C.waiting which →
    record C { nodes = ns; queue = q; waiting = w; expanded = C.expanded + 1 } ≡ branched C which held c
unfolding branched
branched_same C which held c i n k depth bound ns q w e f g d b x y z =
    let p : ℕ = picked_of C which in
    let m : n ≡ node_at C.nodes p = f ∙ ap (node_at C.nodes) e in
    let v : Waiting = child_entry C which held in
    let nodes_are : ns ≡ set C.nodes p (with_standing (node_at C.nodes p) held (Inner c (length C.nodes))) ++ children p c held =
    x ∙ two_more (set C.nodes i (with_standing n held (Inner c k))) (child i c false held) (child i c true held)
    ∙ ap₂ (λ (i : ℕ) (n : Node). set C.nodes i (with_standing n held (Inner c k)) ++ children i c held) e m
    ∙ ap (λ (k : ℕ). set C.nodes p (with_standing (node_at C.nodes p) held (Inner c k)) ++ children p c held) g in
    let next : k + 1 ≡ suc (length C.nodes) = omega arith in
    let queue_is : q ≡ suc (length C.nodes) ∷ length C.nodes ∷ remove C.queue which = y ∙ ap₂ (λ (a b : ℕ). a ∷ b ∷ remove C.queue which) next g in
    let entry_is : record { depth = depth; bound = bound } ≡ v = ap₂ (λ (a : ℕ) (b : Number). record { depth = a; bound = b }) d b in
    let waiting_is : w ≡ v ∷ v ∷ remove C.waiting which = z ∙ ap (λ (a : Waiting). a ∷ a ∷ remove C.waiting which) entry_is in
    ap (λ (ns : List Node). record C { nodes = ns; queue = q; waiting = w; expanded = C.expanded + 1 }) nodes_are
    ∙ ap₂ (λ (q : List ℕ) (w : List Waiting). record C { nodes = set C.nodes p (with_standing (node_at C.nodes p) held (Inner c (length C.nodes))) ++ children p c held; queue = q; waiting = w; expanded = C.expanded + 1 }) queue_is waiting_is

pub two_first : {A : Type 0} (ws xs ys zs : List A) (a b d e : A) → xs ≡ ws → ys ≡ a ∷ xs → zs ≡ b ∷ ys → a ≡ d → b ≡ e → zs ≡ e ∷ d ∷ ws
two_first ws xs ys zs a b d e f g h i j = h ∙ ap₂ (λ x y. x ∷ y) j (g ∙ ap₂ (λ x y. x ∷ y) i f)

pub two_put : {A : Type 0} (ws xs ys zs : List A) (a b d e : A) → xs ≡ ws → ys ≡ xs ++ (a ∷ []) → zs ≡ ys ++ (b ∷ []) → a ≡ d → b ≡ e → zs ≡ (ws ++ (d ∷ [])) ++ (e ∷ [])
two_put ws xs ys zs a b d e f g h i j = h ∙ ap₂ (λ x y. x ++ (y ∷ [])) (g ∙ ap₂ (λ x y. x ++ (y ∷ [])) f i) j

-- a step keeps the tableau
pub settled_warm : (C : Core) (which held : ℕ) (s : Standing) (found : Option Best) → (settled C which held s found).warm ≡ C.warm
unfolding settled
settled_warm C which held s found = refl

pub branched_warm : (C : Core) (which held c : ℕ) → (branched C which held c).warm ≡ C.warm
unfolding branched
branched_warm C which held c = refl
