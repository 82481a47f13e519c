use Rattle.std.proofs.Common.{◌≡◌, ℕ, ◌+◌, ◌≤◌, drop, pos}
use Rattle.hys_logic.specs.Tables.{ones as ones_in}
use Rattle.hys_logic.proofs.table.ones.Given as goal

-- the ones so far and those to come
abbrev pub invariant-loop-setting : goal.invariant-loop-setting
invariant-loop-setting l = (n : ℕ) × (l.ones ≡ pos n) × (n ≤ l.setting-index) × (n + ones_in (drop l.setting-index l.settings) ≡ ones_in l.settings)
