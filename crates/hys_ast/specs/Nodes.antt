-- The expressions of a source, and how many nodes they have.
use Rattle.std.specs.Prelude.{◌≡◌, ℕ, suc, ◌+◌, ◌-◌, ◌^◌, min, max, List, [], ◌∷◌, ◌++◌, Option, Some, None}
use Rattle.hys_ast.specs.Tree.{Tree, Number, Name, Truth, Cast, Unary, Binary, Decl, Shape, Plain, Wide, Choice, Item, Source}
use Rattle.hys_ast.specs.declared.count.NodeCount.{NodeCount}

abbrev pub nodes : Tree → ℕ
nodes (Number text place) = 1
nodes (Name text place) = 1
nodes (Truth value place) = 1
nodes (Cast text place) = 1
nodes (Unary op a place) = suc (nodes a)
nodes (Binary op a b place) = suc (nodes a + nodes b)

abbrev pub if_any : Option Tree → List Tree
if_any None = []
if_any (Some e) = e ∷ []

abbrev pub decl_expressions : Decl → List Tree
decl_expressions d = if_any d.low ++ if_any d.high ++ if_any d.value

abbrev pub shape_expressions : Shape → List Tree
shape_expressions (Plain e) = e ∷ []
shape_expressions (Wide a b) = a ∷ b ∷ []
shape_expressions (Choice a b c) = (a ∷ b ∷ []) ++ if_any c

abbrev pub decls_expressions : List Decl → List Tree
decls_expressions [] = []
decls_expressions (d ∷ ds) = decl_expressions d ++ decls_expressions ds

abbrev pub items_expressions : List Item → List Tree
items_expressions [] = []
items_expressions (i ∷ is) = shape_expressions i.shape ++ items_expressions is

-- the expressions of a source, in the order of the text; a condition, a THEN and an ELSE are
-- three, a comparison and its tolerance two
abbrev pub expressions : Source → List Tree
expressions s = decls_expressions s.decls ++ items_expressions s.items

abbrev pub total : List Tree → ℕ
total [] = 0
total (e ∷ es) = nodes e + total es

abbrev pub largest : List Tree → ℕ
largest [] = 0
largest (e ∷ es) = max (nodes e) (largest es)

abbrev pub capped : ℕ → ℕ
capped n = min n (2 ^ 32 - 1)

-- the counts of these expressions, each as far as it fits 32 bits
pub record IsCountOf (es : List Tree) (c : NodeCount) : Type 0 where
  pub total_is : c.total ≡ capped (total es)
  pub largest_is : c.largest ≡ capped (largest es)
