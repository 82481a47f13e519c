-- The sources that are accepted, and the limits on their trees.
use Rattle.std.specs.Prelude.{ℕ, ◌≤◌, List, length}
use Rattle.std.specs.List.{AllByRecursion}
use Rattle.hys_ast.specs.Tree.{Source}
use Rattle.hys_ast.specs.Nodes.{nodes, expressions, total}
use Rattle.hys_meaning.specs.Unfolded.{unfolded}
use Rattle.hys_meaning.specs.Typed.{Typed, Bounded, DeclaredOnce, HaveValues, DefinedOnce}
use Rattle.hys_meaning.specs.Circular.{Circular}

-- at most 200 names, 1,000 nodes in one expression, and 4,000 nodes in all
pub record WithinLimits (s : Source) : Type 0 where
  pub names : length s.decls ≤ 200
  pub expression : AllByRecursion (λ e. nodes e ≤ 1000) (expressions s)
  pub nodes : total (expressions s) ≤ 4000

-- The rules on a source in which each guard has a name: it is typed and bounded, each name is declared once,
-- each parameter has a value, each AUX, STATE and OUTPUT name is defined exactly once, and no list is circular.
pub record KeepsRules (s : Source) : Type 0 where
  pub declared : DeclaredOnce s
  pub values : HaveValues s
  pub typed : Typed s
  pub bounded : Bounded s
  pub defined : DefinedOnce s
  pub orders : (ns : List (List ℕ)) → ¬ (Circular s ns)

-- The tree is that of an accepted source: it keeps the rules once each guard has a name. The limits are those of
-- the source as written, in which unnamed guards don't count.
pub record Accepted (s : Source) : Type 0 where
  pub rules : KeepsRules (unfolded s)
  pub limits : WithinLimits s
