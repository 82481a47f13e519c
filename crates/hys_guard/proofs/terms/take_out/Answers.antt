use Rattle.std.proofs.Common.{◌<◌, ◌≤◌, arith, length}
use Rattle.hys_guard.specs.Set.{Splits}
use Rattle.hys_guard.proofs.Lists.{found_out, past_out, other_out}
use Rattle.hys_guard.proofs.terms.take_out.Goals as goal
use Rattle.hys_guard.proofs.terms.take_out.Goals.{else-place-len-via-then-place-len+else-index-column, else-place-len-via-else-place-len}

pub returns-then-index-column : goal.returns-then-index-column
returns-then-index-column c =
    let s : Splits c.args.column c.place_of-place.result c.args.terms.now.items = rw (c.deref.ensures.value) at c.place_of-place.ensures in
    let l : c.place_of-place.result < length c.args.terms.now.items = omega (arith, c.args.terms.now.ok) in
    found_out c.args.column c.place_of-place.result c.args.terms.now.items c.remove.new.self.items c.index.result.now c.requires s l c.index.ensures c.if-index-column.true c.remove.ensures.items

pub returns-else-place-len : goal.returns-else-place-len
returns-else-place-len c =
    let s : Splits c.args.column c.place_of-place.result c.args.terms.now.items = rw (c.deref.ensures.value) at c.place_of-place.ensures in
    elim c.else-place-len.branch [
      | else-place-len-via-then-place-len+else-index-column w ↦
          let l : c.place_of-place.result < length c.args.terms.now.items = omega (arith, c.args.terms.now.ok) in
          other_out c.args.column c.place_of-place.result c.args.terms.now.items w.index.result.now c.requires s l w.index.ensures w.if-index-column.false
      | else-place-len-via-else-place-len w ↦
          let l : length c.args.terms.now.items ≤ c.place_of-place.result = omega (arith, c.args.terms.now.ok) in
          past_out c.args.column c.place_of-place.result c.args.terms.now.items s l
    ]
