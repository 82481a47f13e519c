use Rattle.hys_compile.proofs.Circles.{more_texts}
use Rattle.hys_compile.proofs.defining.texts_of.Goals as goal

pub loop-place-preserved : goal.loop-place-preserved
loop-place-preserved c =
    more_texts c.args.names.now c.args.places.now c.loop-place.place-index c.loop-place.texts.items c.push.new.self.items c.index-names-place.result c.in_ok-clone.field-0 c.loop-place.invariant c.loop-place-test.true
    (c.requires c.loop-place.place-index c.loop-place-test.true) c.in_ok-clone.ensures.cases c.in_ok-push.ensures.items
