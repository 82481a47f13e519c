use Rattle.std.proofs.lemmas.Result.{IfOk-equal}
use Rattle.hys_gen.specs.Tanks.{tanks_text}
use Rattle.hys_gen.proofs.Joined.{joined_three}
use Rattle.hys_gen.proofs.chain.write_source.Goals as goal

pub returns : goal.returns
unfolding tanks_text
returns c = IfOk-equal c.put-2.result _ _ _ c.put-2.ensures
    (joined_three _ _ _ _ _ _ _ _ c.in_ok-put.ensures c.in_ok-write_interface.ensures
    c.in_ok-write_implementation.ensures)
