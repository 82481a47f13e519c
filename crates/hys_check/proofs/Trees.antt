-- The tests of a list of places all pass exactly where the list is one tree whose places hold.
use Rattle.std.proofs.Common.{◌≡◌, ℕ, suc, refl, sym, ◌∙◌, ap, subst, List, [], ◌∷◌, ◌++◌, append_assoc, append-nil, true, false}
use Rattle.hys_lin.specs.declared.problem.Problem.{Problem}
use Rattle.hys_relax.specs.Laws.{child}
use Rattle.hys_relax.specs.declared.fixing.Fixing.{Fixing}
use Rattle.hys_relax.specs.declared.multipliers.Multipliers.{Multipliers}
use Rattle.hys_tree.specs.Certificate.{Certificate, cost, never, fork, preorder}
use Rattle.hys_tree.specs.Shows.{Goal, InnerHolds, CostShows, NeverShows, TreeShows}
use Rattle.hys_tree.specs.Fits.{TreeFits}
use Rattle.hys_tree.specs.declared.tree.TreePlace.{TreePlace}
use Rattle.hys_tree.specs.declared.tree.TreePlace.TheVariants.{Inner, Cost, Never}
use Rattle.hys_check.specs.Testing.{Test, first_failing}
use Rattle.hys_check.specs.TreeTests.{place_tests, paths_below, tree_tests}
use Rattle.hys_check.specs.declared.verdict.At.TheVariants.{Node}
use Rattle.hys_check.specs.declared.verdict.CheckWhy.TheVariants.{Shape}
use Rattle.hys_check.proofs.Verdicts.{Pass, no_isnt_yes, both_pass, pass_both}
use Rattle.hys_check.proofs.Leaves.{cost_shown, cost_passes, never_shown, never_passes, inner_shown, inner_passes}

-- ---- trees one behind the other
abbrev all_places : List Certificate → List TreePlace
all_places [] = []
all_places (t ∷ ts) = preorder t ++ all_places ts

-- one tree for each path, and each holds
abbrev AllHold : Problem → Goal → List Certificate → List (List Fixing) → Type 0
AllHold p g [] [] = Unit {0}
AllHold p g [] (path ∷ paths) = ⊥
AllHold p g (t ∷ ts) [] = ⊥
AllHold p g (t ∷ ts) (path ∷ paths) = TreeShows p g path t × TreeFits p path t × AllHold p g ts paths

record Grown (p : Problem) (g : Goal) (paths : List (List Fixing)) (places : List TreePlace) : Type 0 where
  trees : List Certificate
  places_are : all_places trees ≡ places
  hold : AllHold p g trees paths

joined : (p : Problem) (g : Goal) (c : ℕ) (path : List Fixing) (paths : List (List Fixing)) (places : List TreePlace) → InnerHolds p path c →
    Grown p g (child path c false ∷ child path c true ∷ paths) places → Grown p g (path ∷ paths) (Inner c ∷ places)
joined p g c path paths places i w = go w.trees w.places_are w.hold
  where
    go : (ts : List Certificate) → all_places ts ≡ places → AllHold p g ts (child path c false ∷ child path c true ∷ paths) → Grown p g (path ∷ paths) (Inner c ∷ places)
    go [] e h = absurd h
    go (a ∷ []) e h = absurd h.2
    go (a ∷ b ∷ ts) e h = record {
      trees = fork c a b ∷ ts;
      places_are = ap (λ z. Inner c ∷ z) (append_assoc (preorder a) (preorder b) (all_places ts) ∙ e);
      hold = ((i, h.0, h.2.0), (h.1, h.2.1), h.2.2);
    }

leaf_grown : (p : Problem) (g : Goal) (t : Certificate) (place : TreePlace) (path : List Fixing) (paths : List (List Fixing)) (places : List TreePlace) → preorder t ≡ place ∷ [] → TreeShows p g path t → TreeFits p path t →
    Grown p g paths places → Grown p g (path ∷ paths) (place ∷ places)
leaf_grown p g t place path paths places e s f w = record {
  trees = t ∷ w.trees;
  places_are = ap (λ z. z ++ all_places w.trees) e ∙ ap (λ z. place ∷ z) w.places_are;
  hold = (s, f, w.hold);
}

-- where all tests pass, the places are those of trees that hold
grown : (p : Problem) (g : Goal) (n : ℕ) (paths : List (List Fixing)) (places : List TreePlace) → Pass (tree_tests p g n paths places) → Grown p g paths places
grown p g n [] [] h = record { trees = []; places_are = refl; hold = tt }
grown p g n [] (place ∷ places) h = absurd (no_isnt_yes (Node n) Shape h)
grown p g n (path ∷ paths) [] h = absurd (no_isnt_yes (Node n) Shape h)
grown p g n (path ∷ paths) (Inner c ∷ places) h =
    let w = both_pass (place_tests p g n path (Inner c)) (tree_tests p g (suc n) (child path c false ∷ child path c true ∷ paths) places) h in
    joined p g c path paths places (inner_shown p n path c w.0) (grown p g (suc n) (child path c false ∷ child path c true ∷ paths) places w.1)
grown p g n (path ∷ paths) (Cost m k ∷ places) h =
    let w = both_pass (place_tests p g n path (Cost m k)) (tree_tests p g (suc n) paths places) h in
    let s = cost_shown p g n path m k w.0 in
    leaf_grown p g (cost m k) (Cost m k) path paths places refl s.0 s.1 (grown p g (suc n) paths places w.1)
grown p g n (path ∷ paths) (Never m k ∷ places) h =
    let w = both_pass (place_tests p g n path (Never m k)) (tree_tests p g (suc n) paths places) h in
    let s = never_shown p n path m k w.0 in
    leaf_grown p g (never m k) (Never m k) path paths places refl s.0 s.1 (grown p g (suc n) paths places w.1)

-- ---- the whole list
-- one tree has these places and holds
pub record IsTree (p : Problem) (g : Goal) (places : List TreePlace) : Type 0 where
  pub tree : Certificate
  pub preordered : preorder tree ≡ places
  pub shows : TreeShows p g [] tree
  pub fits : TreeFits p [] tree

pub tree_shown : (p : Problem) (g : Goal) (places : List TreePlace) → Pass (tree_tests p g 0 ([] ∷ []) places) → IsTree p g places
tree_shown p g places h = go (grown p g 0 ([] ∷ []) places h)
  where
    one : (ts : List Certificate) → all_places ts ≡ places → AllHold p g ts ([] ∷ []) → IsTree p g places
    one [] e h = absurd h
    one (t ∷ []) e h = record { tree = t; preordered = sym (append-nil (preorder t)) ∙ e; shows = h.0; fits = h.1 }
    one (t ∷ u ∷ ts) e h = absurd h.2

    go : Grown p g ([] ∷ []) places → IsTree p g places
    go w = one w.trees w.places_are w.hold

-- the places of a tree that holds pass, and then those behind it
passing : (p : Problem) (g : Goal) (t : Certificate) (path : List Fixing) (n : ℕ) (paths : List (List Fixing)) (places : List TreePlace) → TreeShows p g path t → TreeFits p path t →
    ((m : ℕ) → Pass (tree_tests p g m paths places)) → Pass (tree_tests p g n (path ∷ paths) (preorder t ++ places))
passing p g (cost m k) path n paths places s f h = pass_both (place_tests p g n path (Cost m k)) (tree_tests p g (suc n) paths places) (cost_passes p g n path m k s f) (h (suc n))
passing p g (never m k) path n paths places s f h = pass_both (place_tests p g n path (Never m k)) (tree_tests p g (suc n) paths places) (never_passes p n path m k s f) (h (suc n))
passing p g (fork c a b) path n paths places s f h =
    pass_both (place_tests p g n path (Inner c)) (tree_tests p g (suc n) (child path c false ∷ child path c true ∷ paths) ((preorder a ++ preorder b) ++ places)) (inner_passes p n path c s.0)
    (subst (λ z. Pass (tree_tests p g (suc n) (child path c false ∷ child path c true ∷ paths) z)) (sym (append_assoc (preorder a) (preorder b) places))
    (passing p g a (child path c false) (suc n) (child path c true ∷ paths) (preorder b ++ places) s.1 f.0
    (λ m. passing p g b (child path c true) m paths places s.2 f.1 h)))

pub tree_passes : (p : Problem) (g : Goal) (places : List TreePlace) (t : Certificate) → preorder t ≡ places → TreeShows p g [] t → TreeFits p [] t → Pass (tree_tests p g 0 ([] ∷ []) places)
tree_passes p g places t e s f = subst (λ z. Pass (tree_tests p g 0 ([] ∷ []) z)) (append-nil (preorder t) ∙ e) (passing p g t [] 0 [] [] s f (λ m. refl))
