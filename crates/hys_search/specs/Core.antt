-- A search, as contracts see it: its lists, what holds of them after any calls, and the steps from one to the next.
use Rattle.std.specs.Prelude.{◌≡◌, ℕ, suc, ◌+◌, ◌*◌, ◌<◌, ◌≤◌, Bool, true, false, List, [], ◌∷◌, ◌++◌, length, get_or, set, map, Option, Some, None, ◌⊎◌, vec_len, vec_capacity}
use Rattle.std.specs.List.{remove}
use Rattle.hys_number.specs.Number.{Number}
use Rattle.hys_number.specs.Ops.{◌<ₙ◌}
use Rattle.hys_lin.specs.Problem.{IsProblem}
use Rattle.hys_lin.specs.declared.problem.Problem.{Problem}
use Rattle.hys_relax.specs.Node.{IsNode}
use Rattle.hys_relax.specs.Bound.{plain_bound}
use Rattle.hys_relax.specs.declared.fixing.Fixing.{Fixing}
use Rattle.hys_relax.specs.declared.multipliers.Multipliers.{Multipliers}
use Rattle.hys_relax.specs.declared.range.RangeAt.{RangeAt}
use Rattle.hys_dual.specs.Relaxing.{IsWarm}
use Rattle.hys_dual.specs.declared.warm.Warm.{Warm}
use Rattle.hys_tree.specs.declared.answer.Best.{Best}
use Rattle.hys_search.specs.declared.nodes.Node.{Node}
use Rattle.hys_search.specs.declared.nodes.Standing.{Standing}
use Rattle.hys_search.specs.declared.nodes.Standing.TheVariants.{Waits, Inner, Kept}
use Rattle.hys_search.specs.declared.nodes.Certificate.{Certificate}
use Rattle.hys_search.specs.declared.nodes.Waiting.{Waiting}
use Rattle.hys_search.specs.declared.nodes.Table.{Table}
use Rattle.hys_search.specs.Nodes.{no_node, node_at, AreParents, path, shape, labels, first_child, weigh, sum_below, waits, waits_below}
use Rattle.hys_search.specs.Standings.{nothing, certificate_at, no_fault, bound_of, IsSettledBy, Beats, NodeHolds, FoundHolds}

-- what contracts see of the lists of a search
pub record Core : Type 0 where
  pub problem : Problem
  pub limit : ℕ
  pub nodes : List Node
  pub certificates : List Certificate
  pub faults : List RangeAt
  -- the waiting nodes, and what is shown of each
  pub queue : List ℕ
  pub waiting : List Waiting
  pub expanded : ℕ
  pub found : Option Best
  -- the tableau that is kept, and the node that it was reached at
  pub warm : Warm
  pub warm_at : ℕ

abbrev pub core : Table → Core
core t = record {
  problem = t.problem;
  limit = t.limit;
  nodes = t.nodes.items;
  certificates = t.certificates.items;
  faults = t.faults.items;
  queue = t.queue.items;
  waiting = t.waiting.items;
  expanded = t.expanded;
  found = t.found;
  warm = t.warm;
  warm_at = t.warm_at;
}

-- room for the nodes of one step
pub record HasPlaces (t : Table) : Type 0 where
  pub nodes : vec_len t.nodes + 2 ≤ vec_capacity t.nodes
  pub queue : vec_len t.queue + 1 ≤ vec_capacity t.queue
  pub waiting : vec_len t.waiting + 1 ≤ vec_capacity t.waiting

-- room for all that one step lists
pub record HasRoom (t : Table) : Type 0 where
  pub places : HasPlaces t
  pub certificates : vec_len t.certificates + 1 ≤ vec_capacity t.certificates
  pub faults : vec_len t.faults + 1 ≤ vec_capacity t.faults

-- what is shown of a waiting node: the length of its path, and its bound
abbrev pub entry : List Node → List Certificate → ℕ → Waiting
entry ns cs i = record { depth = length (path ns i); bound = bound_of ns cs i }

-- what holds after any calls
pub record Holds (C : Core) : Type 0 where
  pub sound : IsProblem C.problem
  pub rooted : 0 < length C.nodes
  pub root : (node_at C.nodes 0).parent ≡ 0
  pub parents : AreParents C.nodes
  pub apart : (j : ℕ) → j < length C.nodes → IsNode C.problem (path C.nodes j)
  pub each : (j : ℕ) → j < length C.nodes → NodeHolds C.problem C.certificates C.faults C.found C.nodes j
  -- each node stands once in the tree, told by sums
  pub once : (f : ℕ → ℕ) → weigh f (shape C.nodes) ≡ sum_below f (length C.nodes)
  pub queued : C.queue ≡ waits_below C.nodes (length C.nodes)
  pub entered : C.waiting ≡ map (entry C.nodes C.certificates) C.queue
  pub best : FoundHolds C.problem C.nodes C.certificates C.found
  -- the nodes that don't wait are those that were expanded
  pub counted : C.expanded + length C.queue ≡ length C.nodes
  pub doubled : length C.nodes ≤ 2 * C.expanded + 1
  pub kept_to : C.expanded ≤ C.limit
  pub limited : C.limit ≤ 500000
  -- the kept tableau was reached at its node
  pub warm_there : C.warm_at < length C.nodes
  pub warmed : IsWarm C.problem (path C.nodes C.warm_at) C.warm

-- ---- one step: the picked node becomes a leaf that doesn't wait, or gets two children that wait
abbrev pub picked_of : Core → ℕ → ℕ
picked_of C which = get_or C.queue which 0

-- the fixings of the picked node
abbrev pub picked_path : Core → ℕ → List Fixing
picked_path C which = path C.nodes (picked_of C which)

abbrev pub with_standing : Node → ℕ → Standing → Node
with_standing n held s = record n { held = held; standing = s }

unfoldable pub settled : Core → ℕ → ℕ → Standing → Option Best → Core
settled C which held s found = record C {
  nodes = set C.nodes (picked_of C which) (with_standing (node_at C.nodes (picked_of C which)) held s);
  queue = remove C.queue which;
  waiting = remove C.waiting which;
  expanded = C.expanded + 1;
  found = found;
}

abbrev pub child : ℕ → ℕ → Bool → ℕ → Node
child i c one held = record { parent = i; fixing = record { column = c; one = one }; held = held; standing = Waits }

abbrev pub children : ℕ → ℕ → ℕ → List Node
children i c held = child i c false held ∷ child i c true held ∷ []

abbrev pub child_entry : Core → ℕ → ℕ → Waiting
child_entry C which held =
    record { depth = length (picked_path C which) + 1; bound = (certificate_at C.certificates held).bound }

unfoldable pub branched : Core → ℕ → ℕ → ℕ → Core
branched C which held c = record C {
  nodes = set C.nodes (picked_of C which)
      (with_standing (node_at C.nodes (picked_of C which)) held (Inner c (length C.nodes)))
      ++ children (picked_of C which) c held;
  queue = suc (length C.nodes) ∷ length C.nodes ∷ remove C.queue which;
  waiting = child_entry C which held ∷ child_entry C which held ∷ remove C.waiting which;
  expanded = C.expanded + 1;
}

-- a leaf that doesn't wait
abbrev pub IsLeaf : Standing → Type 0
IsLeaf s = (waits s ≡ false) × (first_child s ≡ None)

-- the list that came later still has what the first one had
abbrev pub LastingCertificates : List Certificate → List Certificate → Type 0
LastingCertificates cs ds =
    (h : ℕ) → h < length cs → (h < length ds) × (certificate_at ds h ≡ certificate_at cs h)

-- one more certificate
abbrev pub with_certificate : List Certificate → Multipliers → ℕ → Number → List Certificate
with_certificate cs m depth bound = cs ++ (record { multipliers = m; depth = depth; bound = bound } ∷ [])

-- the place of multipliers with a known bound that is above the one held before, or the place held before
abbrev pub IsHeldBetter : List Certificate → ℕ → Multipliers → ℕ → Option Number → List Certificate → ℕ → Type 0
IsHeldBetter cs held m depth None ds h = (ds ≡ cs) × (h ≡ held)
IsHeldBetter cs held m depth (Some z) ds h =
    ((ds ≡ cs) × (h ≡ held))
    ⊎ ((ds ≡ with_certificate cs m depth z) × (h ≡ length cs) × ((certificate_at cs held).bound <ₙ z))

-- ---- before the first step: the root waits with the plain bound
abbrev pub start : Problem → ℕ → Warm → Core
start p n w = record {
  problem = p;
  limit = n;
  nodes = no_node ∷ [];
  certificates = record { multipliers = nothing; depth = 0; bound = plain_bound p } ∷ [];
  faults = [];
  queue = 0 ∷ [];
  waiting = record { depth = 0; bound = plain_bound p } ∷ [];
  expanded = 0;
  found = None;
  warm = w;
  warm_at = 0;
}

-- the root waits alone, and no pivot was made
pub record IsFresh (p : Problem) (n : ℕ) (C : Core) : Type 0 where
  pub begun : C ≡ start p n C.warm
  pub path : C.warm.path ≡ []

-- ---- leaves that were kept
abbrev pub IsOpenKept : Core → ℕ → ℕ → Type 0
IsOpenKept C j a = ((node_at C.nodes j).standing ≡ Kept a) × Beats C.found (bound_of C.nodes C.certificates j)

abbrev pub IsNotOpenKept : Core → ℕ → Type 0
IsNotOpenKept C j =
    (a : ℕ) → (node_at C.nodes j).standing ≡ Kept a → IsSettledBy C.found (bound_of C.nodes C.certificates j)

-- the first open leaf that was kept, by its place in the tree, and its fault
pub record IsFirstKept (C : Core) (i : ℕ) (r : RangeAt) : Type 0 where
  pub there : i < length (labels (shape C.nodes))
  pub fault : ℕ
  pub is_kept : IsOpenKept C (get_or (labels (shape C.nodes)) i 0) fault
  pub is : r ≡ get_or C.faults fault no_fault
  pub first : (k : ℕ) → k < i → IsNotOpenKept C (get_or (labels (shape C.nodes)) k 0)

abbrev pub NoneKept : Core → Type 0
NoneKept C = (k : ℕ) → k < length (labels (shape C.nodes)) → IsNotOpenKept C (get_or (labels (shape C.nodes)) k 0)
