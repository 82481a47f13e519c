use Rattle.std.proofs.Common.{◌≡◌, ◌<◌, ◌+◌, ◌-◌, ◌∷◌, ◌∙◌, sym, ap, suc, arith, drop, length, slice_index_or}
use Rattle.std.proofs.Math.Seq.{drop-cons}
use Rattle.std.proofs.lemmas.List.{at_drop_all, get_or_default}
use Rattle.hys_lin.specs.declared.form.Term.{Term}
use Rattle.hys_tab.specs.Cells.{cell_at, slack_cell, turned, row, column}
use Rattle.hys_tab.proofs.Slacks.{row_begins, row_next, each_at}
use Rattle.hys_tab.proofs.slack_basis.fill_row.Goals as goal

pub loop-left-init : goal.loop-left-init
loop-left-init c = record {
  shape = c.put.ensures.shape;
  within = omega arith;
  there = λ b l. row_begins (cell_at c.args.cells.now c.args.width) (cell_at c.put.new.cells c.args.width) c.args.width c.args.i c.args.constant c.args.negated c.requires.column c.put.ensures.there
      (λ j m d. c.put.ensures.others c.args.i j c.requires.row m (column d)) c.requires.blank b l
      ∙ sym (at_drop_all (λ ts. slack_cell c.args.width ts c.args.constant c.args.negated b) c.args.terms.now (length c.args.terms.now) (omega arith));
  others = λ a b l m d. c.put.ensures.others a b l m (row d);
  fit = c.put.ensures.fit;
}

pub put-requires-in-loop-left-clause-column : goal.put-requires-in-loop-left-clause-column
put-requires-in-loop-left-clause-column c =
    let within : c.loop-left.left - 1 < length c.args.terms.now = omega (arith, c.loop-left.invariant.within, c.loop-left-test.true) in
    let p : (slice_index_or c.args.terms.now (c.loop-left.left - 1) c.index-terms-left-in-loop-left.result).column + 1 < c.args.width = each_at (λ q. q + 1 < c.args.width) c.args.terms.now (c.loop-left.left - 1) c.index-terms-left-in-loop-left.result c.requires.below within in
    omega (arith, p)

pub loop-left-preserved : goal.loop-left-preserved
loop-left-preserved c =
    let t : Term = slice_index_or c.args.terms.now (c.loop-left.left - 1) c.index-terms-left-in-loop-left.result in
    let within : c.loop-left.left - 1 < length c.args.terms.now = omega (arith, c.loop-left.invariant.within, c.loop-left-test.true) in
    let back : suc (c.loop-left.left - 1) ≡ c.loop-left.left = omega (arith, c.loop-left-test.true) in
    let e : drop (c.loop-left.left - 1) c.args.terms.now ≡ t ∷ drop c.loop-left.left c.args.terms.now =
    drop-cons c.args.terms.now (c.loop-left.left - 1) c.index-terms-left-in-loop-left.result within ∙ ap (λ z. t ∷ drop z c.args.terms.now) back in
    let p : t.column + 1 < c.args.width = each_at (λ q. q + 1 < c.args.width) c.args.terms.now (c.loop-left.left - 1) c.index-terms-left-in-loop-left.result c.requires.below within in
    let x : c.turned.result ≡ turned c.args.negated t.factor = c.turned.ensures ∙ ap (λ (z : Term). turned c.args.negated z.factor) (get_or_default c.args.terms.now (c.loop-left.left - 1) c.index-terms-left.result c.index-terms-left-in-loop-left.result within) in
    record {
      shape = c.put-in-loop-left.ensures.shape ∙ c.loop-left.invariant.shape;
      within = omega arith;
      there = row_next (cell_at c.loop-left.cells c.args.width) (cell_at c.put-in-loop-left.new.cells c.args.width) c.args.width c.args.i _ (drop c.loop-left.left c.args.terms.now) t c.args.constant c.turned.result c.args.negated e p x
          c.put-in-loop-left.ensures.there (λ j m d. c.put-in-loop-left.ensures.others c.args.i j c.requires.row m (column d)) c.loop-left.invariant.there;
      others = λ a b l m d. c.put-in-loop-left.ensures.others a b l m (row d) ∙ c.loop-left.invariant.others a b l m d;
      fit = c.put-in-loop-left.ensures.fit;
    }
