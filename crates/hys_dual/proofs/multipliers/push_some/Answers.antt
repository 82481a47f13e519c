use Rattle.std.proofs.Common.{rules, ◌≡◌, ◌≢◌, ◌∙◌, ◌++◌, sym, ap, subst, IfOk}
use Rattle.std.proofs.lemmas.List.{append-nil}
use Rattle.hys_number.specs.Ops.{whole}
use Rattle.hys_tab.proofs.Multiplied.{some_no, some_yes}
use Rattle.hys_dual.proofs.multipliers.push_some.Goals as goal

pub returns-then-is_zero : goal.returns-then-is_zero
returns-then-is_zero c = sym (ap (λ z. c.args.pairs.now.items ++ z) (some_no c.args.place c.args.number (c.is_zero.ensures.0 c.if-is_zero.true)) ∙ append-nil c.args.pairs.now.items)

pub returns : goal.returns
returns c =
    let d : c.args.number ≢ whole 0 = search rules in
    subst (λ z. IfOk c.push.result (λ _. c.push.new.self.items ≡ c.args.pairs.now.items ++ z)) (sym (some_yes c.args.place c.args.number d)) (search rules)
