use Rattle.std.proofs.Common.{◌<◌, IfOk, length, sym, subst, arith}
use Rattle.std.proofs.lemmas.Result.{IfOk-weaker}
use Rattle.hys_search.proofs.search.Search.expand.Goals as goal
use Rattle.hys_search.proofs.Rising.{keeps_lower}
use Rattle.hys_search.proofs.Walk.{as_many}
use Rattle.hys_search.specs.Answers.{IsExpanded, KeepsLower}
use Rattle.hys_search.specs.Core.{Core, core}

pub returns-clause-lower : goal.returns-clause-lower
returns-clause-lower c =
    let C : Core = core c.self.inside.table in
    let D : Core = core c.expand.new.table in
    let m = as_many C c.self.invariant in
    let v : c.args.which < length C.waiting = subst (λ (B : Core). c.args.which < length B.waiting) (sym c.self.view_is) c.requires.within in
    let w : c.args.which < length C.queue = omega arith in
    subst (λ (B : Core). IfOk c.expand.result (λ e. KeepsLower B D)) c.self.view_is
    (IfOk-weaker c.expand.result (λ e. IsExpanded C c.args.which D e) (λ e. KeepsLower C D) (λ e h. keeps_lower C c.args.which D e c.self.invariant w h) c.expand.ensures.expanded)
