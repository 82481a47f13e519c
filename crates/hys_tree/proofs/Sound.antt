-- What a tree shows holds of every solution.
use Rattle.std.proofs.Common.{ℕ, zero, suc, List, [], ◌∷◌, take, true, false, ◌⊎◌, inl, inr}
use Rattle.hys_number.specs.Number.{Number}
use Rattle.hys_number.specs.Ops.{◌≤ₙ◌}
use Rattle.hys_number.proofs.Order.{le_trans}
use Rattle.hys_lin.specs.Problem.{IsProblem}
use Rattle.hys_lin.specs.Sums.{at, value, Assignment}
use Rattle.hys_lin.specs.declared.problem.Problem.{Problem}
use Rattle.hys_relax.specs.Node.{StackedSolution, Agrees}
use Rattle.hys_relax.specs.Bound.{node_bound}
use Rattle.hys_relax.specs.Laws.{child}
use Rattle.hys_relax.specs.declared.fixing.Fixing.{Fixing}
use Rattle.hys_relax.proofs.Bounds.{node_duality, node_never}
use Rattle.hys_relax.proofs.Children.{children_cover}
use Rattle.hys_relax.proofs.Nodes.{relaxes}
use Rattle.hys_tree.specs.Certificate.{Certificate, cost, never, fork}
use Rattle.hys_tree.specs.Shows.{Goal, at_least, none, Keeps, TreeShows}

pub agrees_take : (k : ℕ) (fs : List Fixing) (x : Assignment) → Agrees fs x → Agrees (take k fs) x
agrees_take zero fs x h = tt
agrees_take (suc k) [] x h = tt
agrees_take (suc k) (f ∷ fs) x h = (h.0, agrees_take k fs x h.1)

pub keeps_more : (g : Goal) (b z : Number) → Keeps g b → b ≤ₙ z → Keeps g z
keeps_more (at_least c) b z h l = le_trans c b z h l
keeps_more none b z h l = h

pub tree_sound : (p : Problem) (g : Goal) (t : Certificate) (path : List Fixing) → IsProblem p → TreeShows p g path t →
    (v : List Number) → StackedSolution p v → Agrees path (at v) → Keeps g (value p.cost (at v))
tree_sound p g (cost m k) path i h v s a =
    keeps_more g (node_bound p (take k path) m.pairs) (value p.cost (at v)) h.keeps
    (node_duality p (take k path) m.pairs v i h.lawful (relaxes p (take k path) v s (agrees_take k path (at v) a)))
tree_sound p g (never m k) path i h v s a =
    absurd (node_never p (take k path) m.pairs v i h.lawful h.above (relaxes p (take k path) v s (agrees_take k path (at v) a)))
tree_sound p g (fork c x y) path i h v s a =
    go (children_cover p path c v s a h.0.branch) (tree_sound p g x (child path c false) i h.1 v s) (tree_sound p g y (child path c true) i h.2 v s)
  where
    go : Agrees (child path c false) (at v) ⊎ Agrees (child path c true) (at v) →
        (Agrees (child path c false) (at v) → Keeps g (value p.cost (at v))) →
        (Agrees (child path c true) (at v) → Keeps g (value p.cost (at v))) → Keeps g (value p.cost (at v))
    go (inl e) f q = f e
    go (inr e) f q = q e
