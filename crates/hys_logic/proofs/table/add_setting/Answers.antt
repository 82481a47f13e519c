use Rattle.std.proofs.Common.{◌∙◌, ap, not, to_z, of_z, w8}
use Rattle.hys_logic.specs.Tables.{set_to, placed}
use Rattle.hys_logic.proofs.Smalls.{back}
use Rattle.hys_logic.proofs.Tabled.{row_with, row_without, no_row}
use Rattle.hys_logic.proofs.table.add_setting.Goals as goal

pub returns-in_ok-push-in-Some : goal.returns-in_ok-push-in-Some
returns-in_ok-push-in-Some c =
    rw (c.in-Some.is)
    (row_with c.in-Some.column c.args.truth c.args.settings.now c.place.new.settings.items c.in_ok-settings_row-in-Some.field-0 (to_z w8 (of_z w8 c.bound.result)) c.args.rows.now.items c.push.new.self.items
    c.requires.rising (rw (c.in-Some.is) at c.requires.absent) (c.in_ok-place-in-Some.ensures ∙ ap (placed (set_to c.in-Some.column (not c.args.truth))) c.in_ok-all-in-Some.ensures.items)
    (back c.bound.result c.bound.ensures.small ∙ c.bound.ensures.value) (rw (c.deref.ensures.value) at c.in_ok-settings_row-in-Some.ensures) c.in_ok-push-in-Some.ensures.items)

pub returns-in_ok-push-in-None : goal.returns-in_ok-push-in-None
returns-in_ok-push-in-None c =
    rw (c.in-None.is, c.if-not-truth.true)
    (row_without c.args.settings.now c.in_ok-settings_row-in-None.field-0 (to_z w8 (of_z w8 c.bound-then-not-truth.result)) c.args.rows.now.items c.push-then-not-truth.new.self.items
    c.requires.rising (back c.bound-then-not-truth.result c.bound-then-not-truth.ensures.small ∙ c.bound-then-not-truth.ensures.value) c.in_ok-settings_row-in-None.ensures c.in_ok-push-in-None.ensures.items)

pub returns-else-not-truth : goal.returns-else-not-truth
returns-else-not-truth c = rw (c.in-None.is, c.if-not-truth.false) (no_row c.args.settings.now c.args.rows.now.items)
