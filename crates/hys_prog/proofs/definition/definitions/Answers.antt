use Rattle.std.proofs.Common.{◌<◌, ◌≤◌, ◌∙◌, length, ap, List, ℕ}
use Rattle.hys_prog.specs.Programs.{Named}
use Rattle.hys_prog.specs.declared.program.ProgItem.{ProgItem}
use Rattle.hys_prog.proofs.Defined.{each_at, named_within, found_more, all_found, noted_length}
use Rattle.hys_prog.proofs.definition.definitions.Goals as goal

pub note-requires : goal.note-requires
note-requires c =
    let b : c.loop-k.k < length c.args.program.now.items = rw (← c.items-item-items.ensures) c.loop-k-test.true in
    named_within c.args.program.now.names c.loop-k.places.items c.item-item.result (each_at (λ (t : ProgItem). Named c.args.program.now.names t.name t.body) c.args.program.now.items c.loop-k.k c.item-item.result c.requires.named b (rw c.items-item-items.ensures at c.item-item.is)) c.loop-k.invariant.0

pub loop-k-preserved : goal.loop-k-preserved
loop-k-preserved c =
    let b : c.loop-k.k < length c.args.program.now.items = rw (← c.items-item-items.ensures) c.loop-k-test.true in (
      ap (λ (ps : List ℕ). length ps) c.note.ensures ∙ noted_length c.loop-k.places.items c.item-item.result.name c.loop-k.k ∙ c.loop-k.invariant.0,
      found_more c.args.program.now.items c.loop-k.k c.loop-k.places.items c.note.new.places.items c.item-item.result c.loop-k.invariant.1 b (rw c.items-item-items.ensures at c.item-item.is) c.note.ensures,
    )

pub returns-clause-places : goal.returns-clause-places
returns-clause-places c =
    let b : length c.args.program.now.items ≤ c.loop-k.k = rw (← c.items-item-items.ensures) c.loop-k-test.false in
    all_found c.args.program.now c.loop-k.k c.loop-k.places.items c.requires c.loop-k.invariant.0 c.loop-k.invariant.1 b
