use Rattle.hys_logic.proofs.Used.{pair_added, one_added}
use Rattle.hys_logic.proofs.usage.tie.Goals as goal

pub returns-in_ok-push-in-Define-2 : goal.returns-in_ok-push-in-Define-2
returns-in_ok-push-in-Define-2 c =
    rw (c.in-Define.is)
    (pair_added c.args.rows.now.items c.push.new.self.items c.push-in-Define.new.self.items c.in_ok-pair_of-in-Define.field-0 c.in_ok-pair_of-in-Define-2.field-0 c.in-Define.column c.args.literal
    c.in_ok-push-in-Define.ensures.items c.in_ok-push-in-Define-2.ensures.items
    (rw (c.plus.ensures, c.minus.ensures) at c.in_ok-pair_of-in-Define.ensures.stated) (rw (c.minus-in-Define.ensures, c.plus-in-Define.ensures) at c.in_ok-pair_of-in-Define-2.ensures.stated)
    (rw (c.plus.ensures, c.minus.ensures) at c.in_ok-pair_of-in-Define.ensures.below) (rw (c.minus-in-Define.ensures, c.plus-in-Define.ensures) at c.in_ok-pair_of-in-Define-2.ensures.below))

pub returns-in_ok-push-in-Require : goal.returns-in_ok-push-in-Require
returns-in_ok-push-in-Require c =
    rw (c.in-Require.is)
    (one_added c.args.rows.now.items c.push-in-Require.new.self.items c.in_ok-pair_of-in-Require.field-0 c.args.literal c.in_ok-push-in-Require.ensures.items
    (rw (c.minus-in-Require.ensures, c.nothing.ensures) at c.in_ok-pair_of-in-Require.ensures.stated) (rw (c.minus-in-Require.ensures, c.nothing.ensures) at c.in_ok-pair_of-in-Require.ensures.below))
