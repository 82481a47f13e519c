-- The nodes of a search as a list, each with the place of its parent: paths from the root, the tree, and which wait.
use Rattle.std.specs.Prelude.{◌≡◌, ℕ, zero, suc, ◌+◌, ◌<◌, Bool, true, false, List, [], ◌∷◌, ◌++◌, length, get_or, Option, Some, None, if◌then◌else◌}
use Rattle.hys_relax.specs.declared.fixing.Fixing.{Fixing}
use Rattle.hys_search.specs.declared.nodes.Node.{Node}
use Rattle.hys_search.specs.declared.nodes.Standing.{Standing}
use Rattle.hys_search.specs.declared.nodes.Standing.TheVariants.{Waits, Inner, Never, Closed, Kept}

-- ---- what stands at a place
abbrev pub no_node : Node
no_node = record { parent = 0; fixing = record { column = 0; one = false }; held = 0; standing = Waits }

abbrev pub node_at : List Node → ℕ → Node
node_at ns i = get_or ns i no_node

-- each node but the root stands behind its parent
abbrev pub AreParents : List Node → Type 0
AreParents ns = (j : ℕ) → 0 < j → j < length ns → (node_at ns j).parent < j

-- ---- paths: each node's is its parent's and its own fixing; the root's is empty
abbrev pub step : List (List Fixing) → Node → List Fixing
step paths n = get_or paths n.parent [] ++ (n.fixing ∷ [])

abbrev pub paths_from : List (List Fixing) → List Node → List (List Fixing)
paths_from paths [] = paths
paths_from paths (n ∷ ns) = paths_from (paths ++ (step paths n ∷ [])) ns

abbrev pub paths_of : List Node → List (List Fixing)
paths_of [] = []
paths_of (n ∷ ns) = paths_from ([] ∷ []) ns

unfoldable pub path : List Node → ℕ → List Fixing
path ns i = get_or (paths_of ns) i []

-- ---- the tree, with places of nodes
pub data Shape : Type 0 where
  tip : ℕ → Shape
  fork : ℕ → Shape → Shape → Shape

-- the first of two children
abbrev pub first_child : Standing → Option ℕ
first_child Waits = None
first_child (Inner c k) = Some k
first_child Never = None
first_child Closed = None
first_child (Kept a) = None

abbrev pub grow : ℕ → Option ℕ → (ℕ → Shape) → Shape
grow i None below = tip i
grow i (Some k) below = fork i (below k) (below (suc k))

abbrev pub shape_at : List Node → ℕ → ℕ → Shape
shape_at ns zero i = tip i
shape_at ns (suc fuel) i = grow i (first_child (node_at ns i).standing) (shape_at ns fuel)

unfoldable pub shape : List Node → Shape
shape ns = shape_at ns (length ns) 0

-- in preorder
abbrev pub labels : Shape → List ℕ
labels (tip i) = i ∷ []
labels (fork i a b) = i ∷ (labels a ++ labels b)

abbrev pub child_at : List Node → ℕ → Option ℕ
child_at ns j = first_child (node_at ns j).standing

-- children stand behind their parent, and within the list
pub record IsRising (ns : List Node) : Type 0 where
  pub rises : (j k : ℕ) → j < length ns → child_at ns j ≡ Some k → (j < k) × (suc k < length ns)

-- two children, the second first
abbrev pub opened : Option ℕ → List ℕ
opened None = []
opened (Some k) = suc k ∷ k ∷ []

-- a sum over the places of a tree, and over the numbers below n
abbrev pub weigh : (ℕ → ℕ) → Shape → ℕ
weigh f (tip i) = f i
weigh f (fork i a b) = f i + (weigh f a + weigh f b)

abbrev pub sum_below : (ℕ → ℕ) → ℕ → ℕ
sum_below f zero = 0
sum_below f (suc n) = sum_below f n + f n

-- ---- the waiting nodes
abbrev pub waits : Standing → Bool
waits Waits = true
waits (Inner c k) = false
waits Never = false
waits Closed = false
waits (Kept a) = false

-- those of the first n nodes that wait, the newest first
abbrev pub waits_below : List Node → ℕ → List ℕ
waits_below ns zero = []
waits_below ns (suc n) = if waits (node_at ns n).standing then n ∷ waits_below ns n else waits_below ns n
