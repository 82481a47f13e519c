use Rattle.std.proofs.Common.{◌≡◌, ◌++◌, ◌+◌, [], ◌∷◌, List, drop, length, ◌∙◌, ap, ap₂, sym, arith, Less, Equal, Greater, ◌⊎◌, inl, inr, take, ◌-◌, ℕ, length-drop, append_assoc}
use Rattle.std.proofs.lemmas.List.{drop_all, take_all}
use Rattle.std.proofs.lemmas.Result.{IfOk-weaker}
use Rattle.std.specs.Ordering.{nat_cmp}
use Rattle.hys_lin.specs.Operations.{first_lost}
use Rattle.hys_lin.specs.Scaled.{scaling, scaled}
use Rattle.hys_lin.specs.declared.form.Term.{Term}
use Rattle.hys_lin.proofs.Summing.{drop_here}
use Rattle.hys_lin.proofs.Multiples.{answers_same}
use Rattle.hys_lin.proofs.Merging.{SameLoss, items_next, loss_next, merged_end, adding_end}
use Rattle.hys_lin.proofs.multiple.merge.Goals as goal
use Rattle.hys_lin.proofs.multiple.merge.Goals.{then-loop-i-test+else-j-right, else-loop-i-test}

pub loop-i-preserved-in-Less : goal.loop-i-preserved-in-Less
loop-i-preserved-in-Less c =
    let e : drop c.loop-i.i c.args.left.now ≡ c.index-left-i.result ∷ drop (c.loop-i.i + 1) c.args.left.now = drop_here _ _ _ c.loop-i-test.true c.index-left-i.is in
    let f : drop c.loop-i.j c.args.right.now ≡ c.index-right-j.result ∷ drop (c.loop-i.j + 1) c.args.right.now = drop_here _ _ _ c.if-j-right.true c.index-right-j.is in
    let o : Less ≡ nat_cmp c.index-left-i.result.column c.index-right-j.result.column = sym c.in-Less.is ∙ c.in_ok-take_next.ensures.order in
    record {
      left = omega arith;
      right = omega arith;
      items = items_next Less _ _ _ _ _ _ _ _ _ _ e f o c.loop-i.invariant.items c.in_ok-take_next.ensures.items;
      lost = λ p q. loss_next _ _ _ Less _ _ _ _ _ _ e f o c.in_ok-take_next.ensures.lost (c.loop-i.invariant.lost p q);
    }

pub loop-i-preserved-in-Equal : goal.loop-i-preserved-in-Equal
loop-i-preserved-in-Equal c =
    let e : drop c.loop-i.i c.args.left.now ≡ c.index-left-i.result ∷ drop (c.loop-i.i + 1) c.args.left.now = drop_here _ _ _ c.loop-i-test.true c.index-left-i.is in
    let f : drop c.loop-i.j c.args.right.now ≡ c.index-right-j.result ∷ drop (c.loop-i.j + 1) c.args.right.now = drop_here _ _ _ c.if-j-right.true c.index-right-j.is in
    let o : Equal ≡ nat_cmp c.index-left-i.result.column c.index-right-j.result.column = sym c.in-Equal.is ∙ c.in_ok-take_next.ensures.order in
    record {
      left = omega arith;
      right = omega arith;
      items = items_next Equal _ _ _ _ _ _ _ _ _ _ e f o c.loop-i.invariant.items c.in_ok-take_next.ensures.items;
      lost = λ p q. loss_next _ _ _ Equal _ _ _ _ _ _ e f o c.in_ok-take_next.ensures.lost (c.loop-i.invariant.lost p q);
    }

pub loop-i-preserved : goal.loop-i-preserved
loop-i-preserved c =
    let e : drop c.loop-i.i c.args.left.now ≡ c.index-left-i.result ∷ drop (c.loop-i.i + 1) c.args.left.now = drop_here _ _ _ c.loop-i-test.true c.index-left-i.is in
    let f : drop c.loop-i.j c.args.right.now ≡ c.index-right-j.result ∷ drop (c.loop-i.j + 1) c.args.right.now = drop_here _ _ _ c.if-j-right.true c.index-right-j.is in
    let o : Greater ≡ nat_cmp c.index-left-i.result.column c.index-right-j.result.column = sym c.in-Greater.is ∙ c.in_ok-take_next.ensures.order in
    record {
      left = omega arith;
      right = omega arith;
      items = items_next Greater _ _ _ _ _ _ _ _ _ _ e f o c.loop-i.invariant.items c.in_ok-take_next.ensures.items;
      lost = λ p q. loss_next _ _ _ Greater _ _ _ _ _ _ e f o c.in_ok-take_next.ensures.lost (c.loop-i.invariant.lost p q);
    }

-- the slices of what is left
rest_is : (ts : List Term) (i : ℕ) → take (length ts - i) (drop i ts) ≡ drop i ts
rest_is ts i = take_all (length ts - i) (drop i ts) (omega (arith, length-drop i ts))

pub returns-clause-items : goal.returns-clause-items
returns-clause-items c =
    let ended : (drop c.loop-i.i c.args.left.now ≡ []) ⊎ (drop c.loop-i.j c.args.right.now ≡ []) = elim c.loop-i-test.branch [
      | then-loop-i-test+else-j-right w ↦ inr (drop_all c.loop-i.j c.args.right.now w.if-j-right.false)
      | else-loop-i-test w ↦ inl (drop_all c.loop-i.i c.args.left.now w.loop-i-test.false)
    ] in
    IfOk-weaker c.push_scaled.result _ _ (λ u e. e ∙ ap₂ (λ (xs ys : List Term). xs ++ scaled c.args.by ys) (c.in_ok-extend_from_slice.ensures.items ∙ ap (λ (xs : List Term). c.loop-i.out.items ++ xs) (rest_is c.args.left.now c.loop-i.i)) (rest_is c.args.right.now c.loop-i.j)
    ∙ append_assoc c.loop-i.out.items _ _ ∙ ap (λ (xs : List Term). c.loop-i.out.items ++ xs) (sym (merged_end _ c.args.by _ ended)) ∙ c.loop-i.invariant.items) c.push_scaled.ensures.items

pub returns-clause-lost : goal.returns-clause-lost
returns-clause-lost c = λ p q.
    let ended : (drop c.loop-i.i c.args.left.now ≡ []) ⊎ (drop c.loop-i.j c.args.right.now ≡ []) = elim c.loop-i-test.branch [
      | then-loop-i-test+else-j-right w ↦ inr (drop_all c.loop-i.j c.args.right.now w.if-j-right.false)
      | else-loop-i-test w ↦ inl (drop_all c.loop-i.i c.args.left.now w.loop-i-test.false)
    ] in
    answers_same c.push_scaled.result _ _ (ap (λ (ys : List Term). first_lost (scaling c.args.by ys)) (rest_is c.args.right.now c.loop-i.j) ∙ sym (adding_end _ c.args.by _ ended) ∙ sym (SameLoss.lost (c.loop-i.invariant.lost p q))) c.push_scaled.ensures.lost
