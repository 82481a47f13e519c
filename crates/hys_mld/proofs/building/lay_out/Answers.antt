use Rattle.std.proofs.Common.{◌≡◌, ◌<◌, ◌∙◌, List, ℕ, rules, ap, sym, subst}
use Rattle.hys_prog.specs.Programs.{EachItem}
use Rattle.hys_rows.specs.Items.{FormulaWithin}
use Rattle.hys_mld.specs.Fresh.{fresh_of}
use Rattle.hys_mld.specs.Placing.{counts, placing_of}
use Rattle.hys_mld.proofs.Sizing.{sized_at_first, sized_at_last, items_within}
use Rattle.hys_mld.proofs.Sorts.{front_count}
use Rattle.hys_mld.proofs.building.lay_out.Goals as goal

pub count-counts-requires : goal.count-counts-requires
count-counts-requires c =
    let w : c.args.program.now.weight < 4294967296 = search rules in
    rw c.items-names.ensures (sized_at_first c.args.program.now c.requires w).counted

pub start-requires : goal.start-requires
start-requires c =
    let w : c.args.program.now.weight < 4294967296 = search rules in
    let e : c.count-counts.result ≡ counts c.args.program.now.names = c.count-counts.ensures ∙ ap counts c.items-names.ensures in
    rw e (sized_at_first c.args.program.now c.requires w).started

pub place-requires : goal.place-requires
place-requires c =
    let w : c.args.program.now.weight < 4294967296 = search rules in
    let e : c.count-counts.result ≡ counts c.args.program.now.names = c.count-counts.ensures ∙ ap counts c.items-names.ensures in
    rw (c.start.ensures, e, c.items-names.ensures) (sized_at_first c.args.program.now c.requires w).placed

pub count_fresh-requires-clause-within : goal.count_fresh-requires-clause-within
count_fresh-requires-clause-within c =
    let e : c.count-counts.result ≡ counts c.args.program.now.names = c.count-counts.ensures ∙ ap counts c.items-names.ensures in
    let b : c.in_ok-before.before.items ≡ placing_of c.args.program.now 0 = rw (c.start.ensures, e, c.items-names.ensures) at c.in_ok-before.ensures in
    let d : c.deref.result.now ≡ placing_of c.args.program.now 0 = c.deref.ensures.value ∙ b in
    rw c.items.ensures (subst (λ (cs : List ℕ). EachItem (λ t. FormulaWithin cs t.body) c.args.program.now.items) (sym d) (items_within c.args.program.now 0 c.args.program.now.items c.requires.bodies))

pub start-requires-2 : goal.start-requires-2
start-requires-2 c =
    let w : c.args.program.now.weight < 4294967296 = search rules in
    let e : c.count-counts.result ≡ counts c.args.program.now.names = c.count-counts.ensures ∙ ap counts c.items-names.ensures in
    let b : c.in_ok-before.before.items ≡ placing_of c.args.program.now 0 = rw (c.start.ensures, e, c.items-names.ensures) at c.in_ok-before.ensures in
    let f : c.in_ok-fresh.fresh ≡ fresh_of c.args.program.now = rw (c.items.ensures, c.deref.ensures.value, b) at c.in_ok-fresh.ensures in
    rw (e, f) (sized_at_last c.args.program.now c.requires w).started

pub place-requires-2 : goal.place-requires-2
place-requires-2 c =
    let w : c.args.program.now.weight < 4294967296 = search rules in
    let e : c.count-counts.result ≡ counts c.args.program.now.names = c.count-counts.ensures ∙ ap counts c.items-names.ensures in
    let b : c.in_ok-before.before.items ≡ placing_of c.args.program.now 0 = rw (c.start.ensures, e, c.items-names.ensures) at c.in_ok-before.ensures in
    let f : c.in_ok-fresh.fresh ≡ fresh_of c.args.program.now = rw (c.items.ensures, c.deref.ensures.value, b) at c.in_ok-fresh.ensures in
    rw (c.start-2.ensures, e, f, c.items-names.ensures) (sized_at_last c.args.program.now c.requires w).placed

pub returns-clause-first : goal.returns-clause-first
returns-clause-first c =
    let e : c.count-counts.result ≡ counts c.args.program.now.names = c.count-counts.ensures ∙ ap counts c.items-names.ensures in
    rw e (sym (front_count c.args.program.now))
