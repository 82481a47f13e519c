-- The rules of typing on a source in which each guard has a name.
use Rattle.hys_ast.specs.Tree.{Source}
use Rattle.hys_meaning.specs.Typed.{Typed, Bounded, DeclaredOnce, HaveValues, DefinedOnce}

-- All rules of acceptance but the one on circular lists: each name is declared once, each parameter has a value, the
-- source is typed and bounded, and each AUX, STATE and OUTPUT name is defined exactly once.
pub record KeepsTyping (s : Source) : Type 0 where
  pub declared : DeclaredOnce s
  pub values : HaveValues s
  pub typed : Typed s
  pub bounded : Bounded s
  pub defined : DefinedOnce s
