use Rattle.std.proofs.Common.{◌≡◌, take}
use Rattle.hys_logic.specs.Tables.{settings_terms}
use Rattle.hys_logic.proofs.table.settings_row.Given as goal

-- the terms so far
abbrev pub invariant-loop-setting : goal.invariant-loop-setting
invariant-loop-setting l = l.terms.items ≡ settings_terms (take l.setting-index l.settings)
