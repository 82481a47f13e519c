-- What an item says, by its section and its right side. All else that speaks of items goes by this.
use Rattle.std.specs.Prelude.{List, Option, Some, None}
use Rattle.hys_ast.specs.declared.source.Section.{Section}
use Rattle.hys_ast.specs.declared.source.Section.TheVariants as section
use Rattle.hys_ast.specs.Tree.{Tree, Shape, Item}
use Rattle.hys_ast.specs.Tree as tree

pub data Body : Type 0 where
  -- AD: a comparison, and its own tolerance where it has one in brackets
  Guard : Tree → Option Tree → Body
  -- DA: a condition, THEN and ELSE
  Choice : Tree → Tree → Option Tree → Body
  Logic : Tree → Body
  Linear : Tree → Body
  -- AUTOMATA and CONTINUOUS
  NextBool : Tree → Body
  NextReal : Tree → Body
  Output : Tree → Body
  Must : Tree → Body
  -- a right side that no item of the section has
  Nothing : Body

-- a right side that is one expression
abbrev pub plain_body : (Tree → Body) → Shape → Body
plain_body make (tree.Plain e) = make e
plain_body make (tree.Wide e t) = Nothing
plain_body make (tree.Choice a b c) = Nothing

abbrev pub guard_body : Shape → Body
guard_body (tree.Plain e) = Guard e None
guard_body (tree.Wide e t) = Guard e (Some t)
guard_body (tree.Choice a b c) = Nothing

abbrev pub choice_body : Shape → Body
choice_body (tree.Plain e) = Nothing
choice_body (tree.Wide e t) = Nothing
choice_body (tree.Choice a b c) = Choice a b c

abbrev pub body_in : Section → Shape → Body
body_in section.State r = Nothing
body_in section.Input r = Nothing
body_in section.Output r = Nothing
body_in section.Parameter r = Nothing
body_in section.Aux r = Nothing
body_in section.Ad r = guard_body r
body_in section.Da r = choice_body r
body_in section.Logic r = plain_body Logic r
body_in section.Linear r = plain_body Linear r
body_in section.Automata r = plain_body NextBool r
body_in section.Continuous r = plain_body NextReal r
body_in section.OutputItem r = plain_body Output r
body_in section.Must r = plain_body Must r

abbrev pub body : Item → Body
body i = body_in i.section i.shape
