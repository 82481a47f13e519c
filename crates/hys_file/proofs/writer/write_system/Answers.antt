use Rattle.std.proofs.Common.{◌≡◌, string_bytes, IsUtf8, sym, subst, ap, ◌∙◌}
use Rattle.std.specs.List.{AllByRecursion}
use Rattle.std.proofs.lemmas.Str.{IsUtf8-string_bytes}
use Rattle.serde_json.specs.Data.{string}
use Rattle.hys_file.specs.Fitting.{ColumnFits, FormFits, OutputFits, RowFits, NumbersFit}
use Rattle.hys_file.proofs.Written.{put_together, reads_as}
use Rattle.hys_file.proofs.writer.write_system.Goals as goal

pub returns-clause-text : goal.returns-clause-text
returns-clause-text c =
    ap (λ v. v.items) c.into_bytes.ensures.value
    ∙ put_together c.args.system.now _ _ _ _ _ _ _ _ _ _ _ _ _ _ _ _ _ _ _ _ _
    c.items.ensures c.items-2.ensures c.items-3.ensures c.items-4.ensures c.items-5.ensures (c.in_ok-name.ensures ∙ ap string c.text.ensures) c.from.ensures
    c.new-text.ensures.bytes
    c.in_ok-push_str.ensures.bytes c.in_ok-push_list.ensures.text
    c.in_ok-push_str-2.ensures.bytes c.in_ok-push_list-2.ensures.text
    c.in_ok-push_str-3.ensures.bytes c.in_ok-push_list-3.ensures.text
    c.in_ok-push_str-4.ensures.bytes c.in_ok-push_rows.ensures.text
    c.in_ok-push_str-5.ensures.bytes c.in_ok-push_value.ensures
    c.in_ok-push_str-6.ensures.bytes c.in_ok-push_value-2.ensures
    c.in_ok-push_str-7.ensures.bytes

pub returns-clause-reads : goal.returns-clause-reads
returns-clause-reads c =
    let fit : NumbersFit c.args.system.now = record {
      columns = subst (AllByRecursion ColumnFits) c.items.ensures c.in_ok-push_list.ensures.fit;
      next = subst (AllByRecursion FormFits) c.items-2.ensures c.in_ok-push_list-2.ensures.fit;
      outputs = subst (AllByRecursion OutputFits) c.items-3.ensures c.in_ok-push_list-3.ensures.fit;
      rows = subst (AllByRecursion RowFits) c.items-5.ensures c.in_ok-push_rows.ensures.fit;
    } in
    let bytes : c.into_bytes.result.items ≡ string_bytes c.push_str-7.new.self = ap (λ v. v.items) c.into_bytes.ensures.value in
    reads_as c.args.system.now _ fit (subst IsUtf8 (sym bytes) (IsUtf8-string_bytes c.push_str-7.new.self)) (returns-clause-text c)
