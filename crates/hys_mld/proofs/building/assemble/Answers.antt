use Rattle.std.proofs.Common.{◌∙◌, rules}
use Rattle.hys_mld.proofs.Defining.{have_forms, next_is, outputs_are}
use Rattle.hys_mld.proofs.building.assemble.Goals as goal

pub next_forms-requires : goal.next_forms-requires
next_forms-requires c =
    rw (c.items-names.ensures, c.deref.ensures.value, c.deref-2.ensures.value)
    (have_forms c.args.program.now c.in_ok-places.places.items c.args.lines.forms.items c.requires.program c.in_ok-places.ensures.places c.in_ok-places.ensures.length c.requires.forms)

pub output_forms-requires : goal.output_forms-requires
output_forms-requires c =
    rw (c.items-names.ensures, c.deref-3.ensures.value, c.deref-4.ensures.value)
    (have_forms c.args.program.now c.in_ok-places.places.items c.args.lines.forms.items c.requires.program c.in_ok-places.ensures.places c.in_ok-places.ensures.length c.requires.forms)

pub returns : goal.returns
returns c =
    let n = next_is c.args.program.now c.in_ok-places.places.items c.args.lines.forms.items c.requires.program c.in_ok-places.ensures.places c.in_ok-places.ensures.length c.requires.forms in
    let o = outputs_are c.args.program.now c.in_ok-places.places.items c.args.lines.forms.items c.requires.program c.in_ok-places.ensures.places c.in_ok-places.ensures.length c.requires.forms in
    record {
      name = search rules;
      columns = c.of.ensures ∙ c.in_ok-columns.ensures;
      rows_are = c.of-4.ensures;
      labels_are = c.of-5.ensures;
      next = c.of-2.ensures ∙ (rw (c.items-names.ensures, c.deref.ensures.value, c.deref-2.ensures.value) at c.in_ok-next_forms.ensures) ∙ n;
      outputs = c.of-3.ensures ∙ (rw (c.items-names.ensures, c.deref-3.ensures.value, c.deref-4.ensures.value) at c.in_ok-output_forms.ensures) ∙ o;
      weight = search rules;
    }
