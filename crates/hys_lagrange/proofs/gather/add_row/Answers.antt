use Rattle.std.proofs.Common.{◌≡◌, ◌∷◌, ◌+◌, ◌<◌, ◌≤◌, drop, length, refl, arith, subst}
use Rattle.std.proofs.lemmas.List.{get_or_read}
use Rattle.hys_number.specs.Ops.{whole}
use Rattle.hys_lin.specs.Sums.{at, EachColumn}
use Rattle.hys_lin.proofs.Summing.{drop_here}
use Rattle.hys_lagrange.proofs.Gathering.{row_goes_on, row_ends}
use Rattle.hys_lagrange.proofs.gather.add_row.Goals as goal

pub loop-term-preserved : goal.loop-term-preserved
loop-term-preserved c =
    let l : c.loop-term.term-index < length c.args.terms.now = omega arith in
    let e : drop c.loop-term.term-index c.args.terms.now ≡ c.term-item.result ∷ drop (c.loop-term.term-index + 1) c.args.terms.now = drop_here c.args.terms.now c.loop-term.term-index c.term-item.result l c.term-item.is in
    let b : EachColumn (λ i. i < length c.loop-term.sums.items) (c.term-item.result ∷ drop (c.loop-term.term-index + 1) c.args.terms.now) = subst (EachColumn (λ i. i < length c.loop-term.sums.items)) e c.loop-term.invariant.below in
    let a : c.index.result.now ≡ at c.loop-term.sums.items c.term-item.result.column = get_or_read c.loop-term.sums.items c.term-item.result.column c.index.result.now b.0 c.index.ensures (whole 0) in
    row_goes_on c.args.by c.args.terms.now (drop (c.loop-term.term-index + 1) c.args.terms.now) c.loop-term.term-index c.args.sums.now.items c.loop-term.sums.items c.term-item.result c.in-Ok.sum c.index.result.now e refl a c.in-Ok.ensures.value c.in-Ok.ensures.lost c.loop-term.invariant

pub returns-clause-added : goal.returns-clause-added
returns-clause-added c =
    let past : length c.args.terms.now ≤ c.loop-term.term-index = omega arith in
    λ t. row_ends c.args.by c.args.terms.now c.loop-term.term-index c.args.sums.now.items c.loop-term.sums.items past c.loop-term.invariant
