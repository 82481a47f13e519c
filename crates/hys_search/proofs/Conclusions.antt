-- Each node stands in the tree, which shows the lower bound.
use Rattle.std.proofs.Common.{◌≡◌, ℕ, zero, suc, ◌+◌, ◌<◌, ◌≤◌, Bool, true, false, List, [], ◌∷◌, ◌++◌, length, get_or, refl, sym, ◌∙◌, ap, subst, arith, ◌⊎◌, inl, inr, Option, Some, None, ◌==◌, if◌then◌else◌, length-append}
use Rattle.std.proofs.lemmas.List.{get_or_append_left, get_or-append-add}
use Rattle.hys_number.specs.Ops.{◌≤ₙ◌}
use Rattle.hys_search.specs.declared.nodes.Standing.TheVariants.{Waits, Inner, Never, Closed, Kept}
use Rattle.hys_tree.specs.Fits.{PointFits as PointFitsThere}
use Rattle.hys_dual.specs.Relaxing.{PointFits}
use Rattle.hys_lin.specs.declared.problem.Problem.{Problem}
use Rattle.hys_number.specs.Number.{Number}
use Rattle.hys_relax.specs.Bound.{plain_bound}
use Rattle.hys_relax.specs.declared.fixing.Fixing.{Fixing}
use Rattle.hys_relax.specs.declared.range.RangeAt.{RangeAt}
use Rattle.hys_search.proofs.Certified.{IsShown, KeptAbove, keeps_lower, shown_tree}
use Rattle.hys_search.proofs.Shapes.{is_here, same_test, sum_below-here}
use Rattle.hys_search.specs.Core.{Core, Holds}
use Rattle.hys_search.specs.Nodes.{Shape, fork, labels, node_at, path, shape, tip, weigh}
use Rattle.hys_search.specs.Places.{IsLower, IsTreeOf, NotBelowPlain, ShowsLower, is_cost, places_of}
use Rattle.hys_search.specs.Standings.{FoundHolds, Stands, certificate_at}
use Rattle.hys_search.specs.declared.nodes.Certificate.{Certificate}
use Rattle.hys_search.specs.declared.nodes.Node.{Node}
use Rattle.hys_search.specs.declared.nodes.Standing.{Standing}
use Rattle.hys_tree.specs.Fits.{BestFits}
use Rattle.hys_tree.specs.Shows.{BestHolds, at_least, none}
use Rattle.hys_tree.specs.declared.answer.Best.{Best}
use Rattle.hys_tree.specs.declared.tree.TreePlace.{TreePlace}

-- ---- each node stands somewhere in the tree
pub record IsAmong (j : ℕ) (xs : List ℕ) : Type 0 where
  pub place : ℕ
  pub there : place < length xs
  pub is : get_or xs place 0 ≡ j

pub among_behind : (j x : ℕ) (xs : List ℕ) → IsAmong j xs → IsAmong j (x ∷ xs)
among_behind j x xs h = record { place = suc h.place; there = (let t = h.there in omega arith); is = h.is }

among_left : (j : ℕ) (xs ys : List ℕ) → IsAmong j xs → IsAmong j (xs ++ ys)
among_left j xs ys h = record { place = h.place; there = (let t = h.there in let n = length-append xs ys in omega arith); is = get_or_append_left xs ys 0 h.place h.there ∙ h.is }

among_right : (j : ℕ) (xs ys : List ℕ) → IsAmong j ys → IsAmong j (xs ++ ys)
among_right j xs ys h = record { place = length xs + h.place; there = (let t = h.there in let n = length-append xs ys in omega arith); is = get_or-append-add xs ys h.place 0 ∙ h.is }

pub among_first : (j i : ℕ) (xs : List ℕ) → i ≡ j → IsAmong j (i ∷ xs)
among_first j i xs e = record { place = 0; there = omega arith; is = e }

here_is : (j i : ℕ) → 1 ≤ is_here j i → i ≡ j
here_is j i l = go (i == j) refl l
  where
    go : (b : Bool) → i == j ≡ b → 1 ≤ (if b then 1 else 0) → i ≡ j
    go true e h = same_test i j e
    go false e h = absurd (omega arith)

some_part : (x y z : ℕ) → 1 ≤ x + (y + z) → (1 ≤ x) ⊎ ((1 ≤ y) ⊎ (1 ≤ z))
some_part zero zero z h = inr (inr (omega arith))
some_part zero (suc y) z h = inr (inl (omega arith))
some_part (suc x) y z h = inl (omega arith)

among_labels : (j : ℕ) (s : Shape) → 1 ≤ weigh (is_here j) s → IsAmong j (labels s)
among_labels j (tip i) l = among_first j i [] (here_is j i l)
among_labels j (fork i a b) l = elim (some_part (is_here j i) (weigh (is_here j) a) (weigh (is_here j) b) l) [
  | inl h ↦ among_first j i (labels a ++ labels b) (here_is j i h)
  | inr (inl h) ↦ among_behind j i (labels a ++ labels b) (among_left j (labels a) (labels b) (among_labels j a h))
  | inr (inr h) ↦ among_behind j i (labels a ++ labels b) (among_right j (labels a) (labels b) (among_labels j b h))
]

pub in_tree : (C : Core) → Holds C → (j : ℕ) → j < length C.nodes → IsAmong j (labels (shape C.nodes))
in_tree C h j l = let e : weigh (is_here j) (shape C.nodes) ≡ 1 = h.once (is_here j) ∙ sum_below-here j (length C.nodes) l in among_labels j (shape C.nodes) (omega arith)

-- ---- the best isn't below the lower bound
best_cases : (C : Core) (z : Number) → IsLower C (Some z) → (f : Option Best) → FoundHolds C.problem C.nodes C.certificates f → BestHolds C.problem z f
best_cases C z l None h = tt
best_cases C z l (Some b) h = record {
  solved = record { solution = h.solution; cost = h.cost };
  above = subst (λ x. z ≤ₙ x) h.bound (l.0 h.place h.there (ap is_cost h.closed));
}

pub best_above : (C : Core) (z : Number) → Holds C → IsLower C (Some z) → BestHolds C.problem z C.found
best_above C z h l = best_cases C z l C.found h.best

-- the numbers of its sums fit
pub same_fits : (P : Problem) (v : List Number) → PointFits P v → PointFitsThere P v
same_fits P v h = record { rows = h.rows; cost = h.cost }

fits_cases : (C : Core) (f : Option Best) → FoundHolds C.problem C.nodes C.certificates f → BestFits C.problem f
fits_cases C None h = tt
fits_cases C (Some b) h = same_fits C.problem b.point.values h.point_fits

pub best_fits : (C : Core) → Holds C → BestFits C.problem C.found
best_fits C h = fits_cases C C.found h.best

-- ---- no bound is below the plain one
cost_above : (P : Problem) (cs : List Certificate) (rs : List RangeAt) (b : Option Best) (ns : List Node) (j held : ℕ) (fs : List Fixing) → (s : Standing) → is_cost s ≡ true → Stands P cs rs b ns j held fs s → plain_bound P ≤ₙ (certificate_at cs held).bound
cost_above P cs rs b ns j held fs Waits e h = h.1.least
cost_above P cs rs b ns j held fs (Inner c k) e h = cc
cost_above P cs rs b ns j held fs Never e h = cc
cost_above P cs rs b ns j held fs Closed e h = h.0.1.least
cost_above P cs rs b ns j held fs (Kept a) e h = h.0.1.least

all_above : (C : Core) → Holds C → KeptAbove C.nodes C.certificates (at_least (plain_bound C.problem))
all_above C h j l e = cost_above C.problem C.certificates C.faults C.found C.nodes j (node_at C.nodes j).held (path C.nodes j) (node_at C.nodes j).standing e (h.each j l)

pub above_plain : (C : Core) (o : Option Number) → Holds C → IsLower C o → NotBelowPlain C.problem o
above_plain C None h l = tt
above_plain C (Some z) h l = subst (λ x. plain_bound C.problem ≤ₙ x) l.1.3 (all_above C h l.1.0 l.1.1 l.1.2)

-- ---- the tree
pub tree_of : (C : Core) (ps : List TreePlace) → Holds C → ps ≡ places_of C → IsTreeOf C ps
tree_of C ps h e =
    let s : IsShown C (at_least (plain_bound C.problem)) [] (labels (shape C.nodes)) = shown_tree C (at_least (plain_bound C.problem)) h (all_above C h) in
    record { tree = s.tree; preordered = s.places_are ∙ sym e; placed = e; walked = s.walked }

pub shows_lower : (C : Core) (ps : List TreePlace) → Holds C → ps ≡ places_of C → ShowsLower C ps
shows_lower C ps h e None why l =
    let s : IsShown C none [] (labels (shape C.nodes)) = shown_tree C none h (keeps_lower C None l) in
    (record { tree = s.tree; preordered = s.places_are ∙ sym e; shows = s.shows; claim = tt }, record { tree = s.tree; preordered = s.places_are ∙ sym e; fits = s.tree_fits; claim = tt })
shows_lower C ps h e (Some z) why l =
    let s : IsShown C (at_least z) [] (labels (shape C.nodes)) = shown_tree C (at_least z) h (keeps_lower C (Some z) l) in
    (record { tree = s.tree; preordered = s.places_are ∙ sym e; shows = s.shows; claim = best_above C z h l }, record { tree = s.tree; preordered = s.places_are ∙ sym e; fits = s.tree_fits; claim = best_fits C h })

none_found_at : (C : Core) (f : Option Best) → IsLower C None → FoundHolds C.problem C.nodes C.certificates f → f ≡ None
none_found_at C None l h = refl
none_found_at C (Some b) l h = let e : is_cost (node_at C.nodes h.place).standing ≡ false = l h.place h.there in let g : is_cost (node_at C.nodes h.place).standing ≡ true = ap is_cost h.closed in cc

pub none_found : (C : Core) → Holds C → IsLower C None → C.found ≡ None
none_found C h l = none_found_at C C.found l h.best
