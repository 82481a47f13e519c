use Rattle.std.proofs.Common.{◌≡◌, ◌<◌, ℕ, List, length, sym, ◌∙◌, ap, subst, arith, get_or, inl, inr}
use Rattle.std.proofs.lemmas.List.{get_or_read}
use Rattle.hys_search.proofs.tree.kept.Goals as goal
use Rattle.hys_search.proofs.Changes.{node_cases, rising_of}
use Rattle.hys_search.proofs.Outcomes.{kept_fault}
use Rattle.hys_search.proofs.Preorder.{EachBelow, each_at, labels_below}
use Rattle.hys_search.proofs.Sizes.{places_count}
use Rattle.hys_search.specs.Core.{IsNotOpenKept, IsOpenKept, core}
use Rattle.hys_search.specs.Nodes.{labels, shape}
use Rattle.hys_search.specs.Standings.{no_fault}
use Rattle.hys_search.specs.declared.nodes.Node.{Node}

pub open_fault-requires-clause-there : goal.open_fault-requires-clause-there
open_fault-requires-clause-there c =
    let C = core c.args.table.now in
    let e : c.in_ok-order.order.items ≡ labels (shape C.nodes) = c.in_ok-order.ensures ∙ ap (λ (ns : List Node). labels (shape ns)) c.as_slice.ensures.value in
    let b = subst (EachBelow (length C.nodes)) (sym e) (labels_below C.nodes (rising_of C c.requires) c.requires.rooted) in
    let i : c.loop-i.i < length c.in_ok-order.order.items = omega arith in
    let r : c.index-at.result.now ≡ get_or c.in_ok-order.order.items c.loop-i.i 0 = get_or_read c.in_ok-order.order.items c.loop-i.i c.index-at.result.now i c.index-at.ensures 0 in
    let l = each_at (length C.nodes) c.in_ok-order.order.items c.loop-i.i b i in omega arith

pub returns-in-Some : goal.returns-in-Some
returns-in-Some c =
    let C = core c.args.table.now in
    let xs = c.in_ok-order.order.items in
    let e : xs ≡ labels (shape C.nodes) = c.in_ok-order.ensures ∙ ap (λ (ns : List Node). labels (shape ns)) c.as_slice.ensures.value in
    let b = subst (EachBelow (length C.nodes)) (sym e) (labels_below C.nodes (rising_of C c.requires) c.requires.rooted) in
    let i : c.loop-i.i < length xs = omega arith in
    let r : c.index-at.result.now ≡ get_or xs c.loop-i.i 0 = get_or_read xs c.loop-i.i c.index-at.result.now i c.index-at.ensures 0 in
    let l = each_at (length C.nodes) xs c.loop-i.i b i in
    let m : c.index-at.result.now < length C.nodes = omega arith in
    let k : IsOpenKept C c.index-at.result.now c.in-Some.fault = c.in-Some.ensures in
    let f : c.in-Some.fault < length C.faults = kept_fault C c.requires c.index-at.result.now c.in-Some.fault m k.0 in
    record {
      there = subst (λ (ys : List ℕ). c.loop-i.i < length ys) e i;
      fault = c.in-Some.fault;
      is_kept = subst (λ j. IsOpenKept C j c.in-Some.fault) (r ∙ ap (λ (ys : List ℕ). get_or ys c.loop-i.i 0) e) k;
      is = c.in_ok-at.ensures ∙ get_or_read C.faults c.in-Some.fault c.index.result.now f c.index.ensures no_fault;
      first = subst (λ (ys : List ℕ). (k : ℕ) → k < c.loop-i.i → IsNotOpenKept C (get_or ys k 0)) e c.loop-i.invariant;
    }

pub overflow_cast-node : goal.overflow_cast-node
overflow_cast-node c =
    let C = core c.args.table.now in
    let h = c.requires in
    let e : c.in_ok-order.order.items ≡ labels (shape C.nodes) = c.in_ok-order.ensures ∙ ap (λ (ns : List Node). labels (shape ns)) c.as_slice.ensures.value in
    let i : c.loop-i.i < length c.in_ok-order.order.items = omega arith in
    let n : length c.in_ok-order.order.items ≡ length C.nodes = ap length e ∙ places_count C h in
    let d = h.doubled in let k = h.kept_to in let m = h.limited in
    omega arith

pub loop-i-preserved : goal.loop-i-preserved
loop-i-preserved c =
    let C = core c.args.table.now in
    let xs = c.in_ok-order.order.items in
    let i : c.loop-i.i < length xs = omega arith in
    let r : c.index-at.result.now ≡ get_or xs c.loop-i.i 0 = get_or_read xs c.loop-i.i c.index-at.result.now i c.index-at.ensures 0 in
    let n : IsNotOpenKept C c.index-at.result.now = c.in_default.ensures in
    λ k l. elim (node_cases k c.loop-i.i) as (λ _. IsNotOpenKept C (get_or xs k 0)) [
      | inl q ↦ subst (λ (z : ℕ). IsNotOpenKept C (get_or xs z 0)) (sym q) (subst (IsNotOpenKept C) r n)
      | inr ne ↦ c.loop-i.invariant k (omega arith)
    ]
