use Rattle.std.proofs.Common.{◌≡◌, ◌++◌, List, ℕ, true, [], codes, map, Bor, rules}
use Rattle.std.specs.Str.{bytes_eq}
use Rattle.std.proofs.lemmas.Bool.{not-false}
use Rattle.hys_prog.specs.declared.program.Name.{Name}
use Rattle.hys_sim.specs.declared.fault.SimFault.TheVariants.{Column}
use Rattle.hys_sim.specs.Tables.{column_checks, missing_checks}
use Rattle.hys_sim.proofs.Judging.{fails_behind, fails_first, fails_second, none_after_none, passes_behind}
use Rattle.hys_sim.proofs.header.layout_of.Goals as goal

pub returns-in-Err-clause-judged : goal.returns-in-Err-clause-judged
returns-in-Err-clause-judged c =
    let ns : List Name = map (λ (k : Bor Name). k.now) c.args.names.now in
    let ts : List (List ℕ) = map (λ (t : Bor (List ℕ)). t.now) c.args.columns.now in
    let e : bytes_eq c.args.first.now (codes "step") ≡ true = search (rules, not-false) in
    fails_behind (column_checks c.args.which ns [] ts ++ missing_checks c.args.which ns ts) (bytes_eq c.args.first.now (codes "step")) c.in-Err.fault (Column c.args.which c.args.first.now) e
    (fails_first (column_checks c.args.which ns [] ts) (missing_checks c.args.which ns ts) c.in-Err.fault c.in-Err.ensures.judged)

pub returns-in-Err-places_of-clause-judged : goal.returns-in-Err-places_of-clause-judged
returns-in-Err-places_of-clause-judged c =
    let ns : List Name = map (λ (k : Bor Name). k.now) c.args.names.now in
    let ts : List (List ℕ) = map (λ (t : Bor (List ℕ)). t.now) c.args.columns.now in
    let e : bytes_eq c.args.first.now (codes "step") ≡ true = search (rules, not-false) in
    fails_behind (column_checks c.args.which ns [] ts ++ missing_checks c.args.which ns ts) (bytes_eq c.args.first.now (codes "step")) c.in-Err-places_of.fault (Column c.args.which c.args.first.now) e
    (fails_second (column_checks c.args.which ns [] ts) (missing_checks c.args.which ns ts) c.in-Err-places_of.fault c.in-Ok.ensures.judged c.in-Err-places_of.ensures.judged)

pub returns-clause-judged : goal.returns-clause-judged
returns-clause-judged c =
    let ns : List Name = map (λ (k : Bor Name). k.now) c.args.names.now in
    let ts : List (List ℕ) = map (λ (t : Bor (List ℕ)). t.now) c.args.columns.now in
    let e : bytes_eq c.args.first.now (codes "step") ≡ true = search (rules, not-false) in
    passes_behind (column_checks c.args.which ns [] ts ++ missing_checks c.args.which ns ts) (bytes_eq c.args.first.now (codes "step")) (Column c.args.which c.args.first.now) e
    (none_after_none (column_checks c.args.which ns [] ts) (missing_checks c.args.which ns ts) c.in-Ok.ensures.judged c.in-Ok-places_of.ensures.judged)
