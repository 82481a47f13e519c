use Rattle.std.proofs.Common.{map, List, sym, subst, codes}
use Rattle.serde_json.specs.View.{view}
use Rattle.hys_base.specs.Differ.{Differ}
use Rattle.hys_sys.specs.declared.system.Column.{Column}
use Rattle.hys_file.specs.Reading.{column_name}
use Rattle.hys_file.proofs.Lawful.{read_columns_differ}
use Rattle.hys_file.proofs.system.read_front.Goals as goal

pub read_forms-requires-clause-names : goal.read_forms-requires-clause-names
read_forms-requires-clause-names c =
    subst (λ (cs : List Column). Differ (map column_name cs)) (sym c.items.ensures)
    (read_columns_differ (codes "columns") (view c.member.result.now) c.read_columns.result c.in_ok-columns.columns c.read_columns.ensures c.in_ok-columns.ensures)
