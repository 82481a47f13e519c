-- What the laws of this crate say.
use Rattle.std.specs.Prelude.{List}
use Rattle.hys_number.specs.Number.{Number}
use Rattle.hys_lin.specs.declared.problem.Problem.{Problem}
use Rattle.hys_ast.specs.Tree.{Source}
use Rattle.hys_meaning.specs.Accepted.{Accepted}
use Rattle.hys_compile.specs.declared.compiler.Compiled.{Compiled}
use Rattle.hys_stack.specs.declared.request.Request.{Request}
use Rattle.hys_stack.specs.Requests.{IsRequestOf}
use Rattle.hys_stack.specs.Stacking.{IsStacked}
use Rattle.hys_stack.specs.Trajectories.{KeepsKinds}
use Rattle.hys_tree.specs.declared.tree.TreePlace.{TreePlace}
use Rattle.hys_tree.specs.declared.answer.Claim.{Claim}
use Rattle.hys_tree.specs.Shows.{Shows}
use Rattle.hys_best.specs.Means.{source_automaton, source_steps, Means}

-- at any tolerance the steps of an accepted source keep its Boolean states 0 or 1
abbrev pub SourcesKeepKinds : Type 0
SourcesKeepKinds = (tolerance : Number) (s : Source) → Accepted s →
    KeepsKinds (source_automaton s) (source_steps tolerance s)

-- where a problem is stacked for a request over a compiled system, what is shown of the problem holds of the source
abbrev pub PlansAreBest : Type 0
PlansAreBest = (tolerance : Number) (c : Compiled) (r : Request) (p : Problem) (places : List TreePlace)
    (claim : Claim) → IsRequestOf c.system r → IsStacked c.system r p → Shows p places claim →
    Means tolerance c r claim
