use Rattle.std.proofs.Common.{◌≡◌, drop}
use Rattle.hys_logic.specs.Tables.{setting_in}
use Rattle.hys_logic.proofs.table.setting_at.Given as goal

-- the settings so far are of other columns
abbrev pub invariant-loop-setting : goal.invariant-loop-setting
invariant-loop-setting l = setting_in (drop l.setting-index l.settings) l.column ≡ setting_in l.settings l.column
