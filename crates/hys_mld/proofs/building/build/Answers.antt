use Rattle.std.proofs.Common.{◌<◌, ◌∙◌, List, length, rules, ap, sym, subst}
use Rattle.hys_prog.specs.declared.program.ProgItem.{ProgItem}
use Rattle.hys_exact.specs.Built.{IsBuilt}
use Rattle.hys_lin.specs.declared.form.Interval.{Interval}
use Rattle.hys_mld.specs.Stated.{AreStated}
use Rattle.hys_mld.specs.Written.{IsWritten}
use Rattle.hys_mld.proofs.Keeping.{Keeps, all_fit, intervals_long, kept, lines_long}
use Rattle.hys_mld.proofs.Sizing.{weight_items}
use Rattle.hys_mld.proofs.building.build.Goals as goal

pub write_lines-requires-clause-fit : goal.write_lines-requires-clause-fit
write_lines-requires-clause-fit c =
    rw (c.items.ensures, c.items-2.ensures, c.deref.ensures.value, c.in_ok-layout.ensures.columns, c.in_ok-layout.ensures.first)
    (all_fit c.args.program.now c.args.order.now c.args.ranges.now c.requires.program c.requires.order (ap (λ (bs : List Interval). length bs) c.requires.ranges ∙ intervals_long c.args.program.now c.args.order.now))

pub write_lines-requires-clause-room : goal.write_lines-requires-clause-room
write_lines-requires-clause-room c =
    let w : c.args.program.now.weight < 4294967296 = search rules in
    rw (c.items-2.ensures, c.in_ok-layout.ensures.first) (weight_items c.args.program.now c.requires.program w)

pub assemble-requires-clause-boxes : goal.assemble-requires-clause-boxes
assemble-requires-clause-boxes c = ap (λ (bs : List Interval). length bs) c.requires.ranges ∙ intervals_long c.args.program.now c.args.order.now

pub assemble-requires-clause-forms : goal.assemble-requires-clause-forms
assemble-requires-clause-forms c =
    lines_long c.items.result.now c.args.ranges.now c.deref.result.now c.in_ok-layout.layout.first c.items-2.result.now c.in-Ok.lines.rows.items c.in-Ok.lines.labels.items c.in-Ok.lines.forms.items c.in-Ok.ensures.lines ∙ ap (λ (ts : List ProgItem). length ts) c.items-2.ensures

written : (c : goal.After-drop-layout-2) → IsWritten c.args.program.now c.args.ranges.now c.in_ok-assemble.field-0
written c = record {
  rows = c.in-Ok.lines.rows.items;
  labels = c.in-Ok.lines.labels.items;
  forms = c.in-Ok.lines.forms.items;
  lines = rw (c.items.ensures, c.items-2.ensures, c.deref.ensures.value, c.in_ok-layout.ensures.columns, c.in_ok-layout.ensures.first) at c.in-Ok.ensures.lines;
  assembled = rw c.in_ok-layout.ensures.fresh at c.in_ok-assemble.ensures;
}

all_kept : (c : goal.After-drop-layout-2) → Keeps c.args.program.now c.args.order.now c.in_ok-assemble.field-0
unfolding written
all_kept c =
    let w : c.args.program.now.weight < 4294967296 = search rules in
    kept c.args.program.now c.args.order.now c.args.ranges.now c.in-Ok.lines.rows.items c.in-Ok.lines.labels.items c.in-Ok.lines.forms.items c.in_ok-assemble.field-0 c.requires.program c.requires.order c.requires.ranges w (written c).lines (written c).assembled

pub returns-clause-written : goal.returns-clause-written
returns-clause-written c = written c

pub returns-clause-exact : goal.returns-clause-exact
returns-clause-exact c = (all_kept c).exact

pub returns-clause-lawful : goal.returns-clause-lawful
returns-clause-lawful c = (all_kept c).lawful

pub returns-clause-built : goal.returns-clause-built
returns-clause-built c = subst (λ (bs : List Interval). IsBuilt c.args.program.now bs c.in_ok-assemble.field-0) (sym c.requires.ranges) (all_kept c).built

pub returns-clause-stated : goal.returns-clause-stated
returns-clause-stated c = subst (λ (bs : List Interval). AreStated c.args.program.now bs c.in_ok-assemble.field-0.rows) (sym c.requires.ranges) (all_kept c).stated
