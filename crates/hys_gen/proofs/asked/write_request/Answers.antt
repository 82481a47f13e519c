use Rattle.std.proofs.lemmas.Result.{IfOk-equal}
use Rattle.hys_gen.specs.Requested.{request_text}
use Rattle.hys_gen.proofs.Joined.{joined_four}
use Rattle.hys_gen.proofs.asked.write_request.Goals as goal

pub returns : goal.returns
unfolding request_text
returns c = IfOk-equal c.put-3.result _ _ _ c.put-3.ensures
    (joined_four _ _ _ _ _ _ _ _ _ _ c.in_ok-put.ensures c.in_ok-write.ensures.bytes c.in_ok-put-2.ensures
    (rw c.further_tanks.ensures at c.in_ok-write_starts.ensures))
