use Rattle.hys_rows.specs.Items.{fresh_in, Fits}
use Rattle.hys_rows.proofs.Placing.{own_within, body_placed}
use Rattle.hys_rows.proofs.Whole.{answer_added}
use Rattle.hys_rows.proofs.item.add_item.Goals as goal

pub own_column-own-requires : goal.own_column-own-requires
own_column-own-requires c =
    let h : Fits c.requires.names.0 c.args.boxes.now c.args.columns.now c.args.first_free c.args.item.now = c.requires.names.1 in
    own_within c.requires.names.0 c.args.columns.now c.args.first_free (fresh_in c.args.columns.now c.args.item.now.body) c.args.item.now.name c.args.item.now.body h.placed h.item.named

pub add_body-requires-clause-placed : goal.add_body-requires-clause-placed
add_body-requires-clause-placed c =
    let h : Fits c.requires.names.0 c.args.boxes.now c.args.columns.now c.args.first_free c.args.item.now = c.requires.names.1 in
    rw (c.own_column-own.ensures) (body_placed c.requires.names.0 c.args.boxes.now c.args.columns.now c.args.first_free c.args.item.now.name c.args.item.now.body h.placed h.item.body h.item.named h.item.apart h.long)

pub returns-clause-added : goal.returns-clause-added
returns-clause-added c = answer_added c.args.boxes.now c.args.columns.now c.args.first_free c.args.item.now c.args.rows.now.items c.add_body.new.rows.items c.add_body.result
    (rw (c.own_column-own.ensures) at c.add_body.ensures.added) c.add_body.ensures.fresh c.add_body.ensures.form
