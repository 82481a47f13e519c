use Rattle.std.proofs.Common.{◌∙◌, sym}
use Rattle.hys_logic.proofs.Tabled.{one_bit}
use Rattle.hys_logic.proofs.table.+truth_at.Goals as goal

pub returns-in-Name : goal.returns-in-Name
returns-in-Name t c = rw (c.in-Name.is) (c.setting_at.ensures ∙ sym (one_bit _))
