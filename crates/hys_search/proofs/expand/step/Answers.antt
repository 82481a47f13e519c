use Rattle.std.proofs.Common.{◌≡◌, ◌<◌, sym, ◌∙◌, subst, ap, arith, length, List, ℕ}
use Rattle.std.proofs.lemmas.List.{get_or_read}
use Rattle.hys_dual.specs.Relaxing.{EndsAfter}
use Rattle.hys_search.proofs.expand.step.Goals as goal
use Rattle.hys_dual.specs.Relaxing.{GoesOn, IsWarm}
use Rattle.hys_dual.specs.declared.warm.Warm.{Warm}
use Rattle.hys_relax.specs.Node.{IsNode}
use Rattle.hys_relax.specs.declared.fixing.Fixing.{Fixing}
use Rattle.hys_search.proofs.Changes.{picked_in}
use Rattle.hys_search.proofs.Walk.{as_many}
use Rattle.hys_search.proofs.Warming.{path_after, warm_expanded, warm_holds}
use Rattle.hys_search.specs.Answers.{WentOn}
use Rattle.hys_search.specs.Core.{core, picked_of, picked_path}
use Rattle.hys_search.specs.Nodes.{node_at, path}
use Rattle.hys_search.specs.Outcome.{IsOutcome, IsPointOf}
use Rattle.hys_search.specs.declared.nodes.Node.{Node}

pub fixings-requires-clause-there : goal.fixings-requires-clause-there
fixings-requires-clause-there c =
    let C = core c.args.table.now in
    let h = c.requires.holds in
    let m = as_many C h in
    let w : c.args.which < length C.queue = omega (arith, c.requires.within) in
    let i : ℕ = c.index-place.result.now in
    let p : i ≡ picked_of C c.args.which = get_or_read C.queue c.args.which i w c.index-place.ensures 0 in
    let q = (picked_in C c.args.which h w).there in
    let l : i < length C.nodes = omega arith in
    let v = ap length c.as_slice.ensures.value in omega arith

pub relax-requires-clause-there : goal.relax-requires-clause-there
relax-requires-clause-there c =
    let C = core c.args.table.now in
    let h = c.requires.holds in
    let m = as_many C h in
    let w : c.args.which < length C.queue = omega (arith, c.requires.within) in
    let i : ℕ = c.index-place.result.now in
    let p : i ≡ picked_of C c.args.which = get_or_read C.queue c.args.which i w c.index-place.ensures 0 in
    let q = (picked_in C c.args.which h w).there in
    let l : i < length C.nodes = omega arith in
    l

pub judge-requires-clause-node : goal.judge-requires-clause-node
judge-requires-clause-node c =
    let C = core c.args.table.now in
    let h = c.requires.holds in
    let m = as_many C h in
    let w : c.args.which < length C.queue = omega (arith, c.requires.within) in
    let i : ℕ = c.index-place.result.now in
    let p : i ≡ picked_of C c.args.which = get_or_read C.queue c.args.which i w c.index-place.ensures 0 in
    let q = (picked_in C c.args.which h w).there in
    let l : i < length C.nodes = omega arith in
    let e2 : c.as_slice-2.result.now ≡ path C.nodes i = c.as_slice-2.ensures.value ∙ c.in_ok-fixings.ensures ∙ ap (λ (ns : List Node). path ns i) c.as_slice.ensures.value in
    let e3 : c.as_slice-3.result.now ≡ path C.nodes i = c.as_slice-3.ensures.value ∙ c.in_ok-fixings.ensures ∙ ap (λ (ns : List Node). path ns i) c.as_slice.ensures.value in
    subst (IsNode C.problem) (sym e3) (h.apart i l)

pub apply-requires-clause-holds : goal.apply-requires-clause-holds
apply-requires-clause-holds c =
    let C = core c.args.table.now in
    let h = c.requires.holds in
    let m = as_many C h in
    let w : c.args.which < length C.queue = omega (arith, c.requires.within) in
    let i : ℕ = c.index-place.result.now in
    let p : i ≡ picked_of C c.args.which = get_or_read C.queue c.args.which i w c.index-place.ensures 0 in
    let q = (picked_in C c.args.which h w).there in
    let l : i < length C.nodes = omega arith in
    let e2 : c.as_slice-2.result.now ≡ path C.nodes i = c.as_slice-2.ensures.value ∙ c.in_ok-fixings.ensures ∙ ap (λ (ns : List Node). path ns i) c.as_slice.ensures.value in
    warm_holds C c.in_ok-relaxed.warm i h l (subst (λ (fs : List Fixing). IsWarm C.problem fs c.in_ok-relaxed.warm) e2 c.in_ok-relaxed.ensures.warm)

pub apply-requires-clause-outcome : goal.apply-requires-clause-outcome
apply-requires-clause-outcome c =
    let C = core c.args.table.now in
    let h = c.requires.holds in
    let m = as_many C h in
    let w : c.args.which < length C.queue = omega (arith, c.requires.within) in
    let i : ℕ = c.index-place.result.now in
    let p : i ≡ picked_of C c.args.which = get_or_read C.queue c.args.which i w c.index-place.ensures 0 in
    let q = (picked_in C c.args.which h w).there in
    let l : i < length C.nodes = omega arith in
    let e2 : c.as_slice-2.result.now ≡ path C.nodes i = c.as_slice-2.ensures.value ∙ c.in_ok-fixings.ensures ∙ ap (λ (ns : List Node). path ns i) c.as_slice.ensures.value in
    let e3 : c.as_slice-3.result.now ≡ path C.nodes i = c.as_slice-3.ensures.value ∙ c.in_ok-fixings.ensures ∙ ap (λ (ns : List Node). path ns i) c.as_slice.ensures.value in
    subst (λ (fs : List Fixing). IsOutcome C.problem fs c.in_ok-outcome.outcome) (e3 ∙ ap (path C.nodes) p) c.in_ok-outcome.ensures.outcome

pub apply-requires-clause-point : goal.apply-requires-clause-point
apply-requires-clause-point c =
    let C = core c.args.table.now in
    let h = c.requires.holds in
    let m = as_many C h in
    let w : c.args.which < length C.queue = omega (arith, c.requires.within) in
    let i : ℕ = c.index-place.result.now in
    let p : i ≡ picked_of C c.args.which = get_or_read C.queue c.args.which i w c.index-place.ensures 0 in
    let q = (picked_in C c.args.which h w).there in
    let l : i < length C.nodes = omega arith in
    let e2 : c.as_slice-2.result.now ≡ path C.nodes i = c.as_slice-2.ensures.value ∙ c.in_ok-fixings.ensures ∙ ap (λ (ns : List Node). path ns i) c.as_slice.ensures.value in
    let e3 : c.as_slice-3.result.now ≡ path C.nodes i = c.as_slice-3.ensures.value ∙ c.in_ok-fixings.ensures ∙ ap (λ (ns : List Node). path ns i) c.as_slice.ensures.value in
    let ends = subst (λ (fs : List Fixing). EndsAfter C.problem fs c.in_ok-relaxed.warm.path c.in_ok-relaxed.relaxed) (e2 ∙ sym e3) c.in_ok-relaxed.ensures.ends in
    subst (λ (fs : List Fixing). IsPointOf C.problem fs c.in_ok-relaxed.warm.path c.in_ok-outcome.outcome) (e3 ∙ ap (path C.nodes) p) (c.in_ok-outcome.ensures.point c.in_ok-relaxed.warm.path ends)

pub returns-clause-expanded : goal.returns-clause-expanded
returns-clause-expanded c =
    let C = core c.args.table.now in
    let h = c.requires.holds in
    let m = as_many C h in
    let w : c.args.which < length C.queue = omega (arith, c.requires.within) in
    let i : ℕ = c.index-place.result.now in
    let p : i ≡ picked_of C c.args.which = get_or_read C.queue c.args.which i w c.index-place.ensures 0 in
    let q = (picked_in C c.args.which h w).there in
    let l : i < length C.nodes = omega arith in
    warm_expanded C c.in_ok-relaxed.warm i c.args.which (core c.apply.new.table) c.apply.result c.apply.ensures.expanded

pub returns-clause-path : goal.returns-clause-path
returns-clause-path c =
    let C = core c.args.table.now in
    let h = c.requires.holds in
    let m = as_many C h in
    let w : c.args.which < length C.queue = omega (arith, c.requires.within) in
    let i : ℕ = c.index-place.result.now in
    let p : i ≡ picked_of C c.args.which = get_or_read C.queue c.args.which i w c.index-place.ensures 0 in
    let q = (picked_in C c.args.which h w).there in
    let l : i < length C.nodes = omega arith in
    let e2 : c.as_slice-2.result.now ≡ path C.nodes i = c.as_slice-2.ensures.value ∙ c.in_ok-fixings.ensures ∙ ap (λ (ns : List Node). path ns i) c.as_slice.ensures.value in
    let on : WentOn C c.args.which (core c.apply.new.table) = λ x. subst (λ (w : Warm). GoesOn C.problem (picked_path C c.args.which) C.warm.path w.path) (sym c.apply.ensures.warm)
    (subst (λ (fs : List Fixing). GoesOn C.problem fs C.warm.path c.in_ok-relaxed.warm.path) (e2 ∙ ap (path C.nodes) p) (c.in_ok-relaxed.ensures.path (ap (λ j. (node_at C.nodes j).parent) p ∙ x))) in
    path_after C c.args.which (core c.apply.new.table) c.apply.result on
