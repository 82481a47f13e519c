use Rattle.std.proofs.lemmas.Result.{IfOk-equal}
use Rattle.hys_gen.specs.Tanks.{implementation_text}
use Rattle.hys_gen.proofs.Joined.{joined_two}
use Rattle.hys_gen.proofs.chain.write_implementation.Goals as goal

pub returns : goal.returns
unfolding implementation_text
returns c = IfOk-equal c.put-2.result _ _ _ c.put-2.ensures
    (joined_two _ _ _ _ _ _ c.in_ok-put.ensures (rw c.implementation.ensures at c.in_ok-write_sections.ensures))
