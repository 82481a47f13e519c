use Rattle.std.proofs.Common.{arith, ◌≡◌, ◌<◌, length, take, ◌++◌, sym, ap, ◌∙◌, subst}
use Rattle.hys_io.specs.Outside.{IfHolds}
use Rattle.hys_io.proofs.Buffers.{take-written_back, take-kept}
use Rattle.hys_io.proofs.Fronts.{front_grows, front_whole}
use Rattle.hys_io.proofs.reading.read_all.Goals as goal

pub returns-in-Ok-eq0-clause-whole : goal.returns-in-Ok-eq0-clause-whole
returns-in-Ok-eq0-clause-whole g c =
    let lent : length c.deref_mut.result.now ≡ c.make_room.new.bytes.len = c.deref_mut.ensures.len in
    let room : c.loop-bytes.filled < c.make_room.new.bytes.len = c.in_ok-make_room.ensures.room in
    let left =
    c.truncate.ensures.items ∙ take-kept c.loop-bytes.filled c.make_room.new.bytes.len c.deref_mut.result.now c.read_at.new.into _ _ (omega arith) (omega arith) (omega arith)
    ∙ ap (take c.loop-bytes.filled) c.deref_mut.ensures.value ∙ c.make_room.ensures.same in
    subst (λ x. IfHolds (g.F.Files.held c.args.files.now) c.args.name.now (λ file. x ≡ file)) (sym left)
    (front_whole _ _ c.args.name.now c.loop-bytes.bytes.items c.read_at.new.into c.loop-bytes.filled c.in-Ok-eq0.field-0 c.loop-bytes.invariant.same c.loop-bytes.invariant.front (omega arith)
    (omega arith) c.in-Ok-eq0.ensures.found)

pub loop-bytes-preserved : goal.loop-bytes-preserved
loop-bytes-preserved g c =
    let lent : length c.deref_mut.result.now ≡ c.make_room.new.bytes.len = c.deref_mut.ensures.len in
    let room : c.loop-bytes.filled < c.make_room.new.bytes.len = c.in_ok-make_room.ensures.room in record {
      within = omega (arith, c.in-Ok.ensures.bound);
      below = omega arith;
      front =
          front_grows _ _ c.args.name.now c.loop-bytes.bytes.items _ c.read_at.new.into c.loop-bytes.filled c.in-Ok.count c.loop-bytes.invariant.same c.loop-bytes.invariant.front
          (take-written_back c.loop-bytes.filled c.in-Ok.count c.make_room.new.bytes.len c.deref_mut.result.now c.read_at.new.into _ _ (omega arith) (omega arith) (omega arith) c.in-Ok.ensures.bound ∙ ap (λ x. x ++ take c.in-Ok.count c.read_at.new.into) (ap (take c.loop-bytes.filled) c.deref_mut.ensures.value ∙ c.make_room.ensures.same))
          c.in-Ok.ensures.found;
      same = c.read_at.ensures.same ∙ c.loop-bytes.invariant.same;
      calm = c.in-Ok.ensures.calm ∙ c.loop-bytes.invariant.calm;
      puts = c.read_at.ensures.puts ∙ c.loop-bytes.invariant.puts;
    }
