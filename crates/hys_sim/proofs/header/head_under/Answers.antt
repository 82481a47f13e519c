use Rattle.std.proofs.Common.{◌≡◌, ◌∙◌, List, ℕ, [], ◌∷◌, Bor, Some, map, length, refl, ap, sym}
use Rattle.csv.specs.Records.{fields_of}
use Rattle.hys_prog.specs.declared.program.Name.{Name}
use Rattle.hys_sim.specs.declared.fault.SimFault.TheVariants.{Csv}
use Rattle.hys_sim.specs.Checks.{first_fault}
use Rattle.hys_sim.specs.Fields.{stripped}
use Rattle.hys_sim.specs.Recorded.{records_left}
use Rattle.hys_sim.specs.Tables.{header_checks, length_checks, text_checks}
use Rattle.hys_sim.proofs.Judging.{fails_first, fails_second, fails_third, none_of_three}
use Rattle.hys_sim.proofs.header.head_under.Goals as goal

pub returns-in-Err-clause-judged : goal.returns-in-Err-clause-judged
returns-in-Err-clause-judged c = fails_first (text_checks c.args.which (map stripped (fields_of c.args.header.now))) _ c.in-Err.fault c.in-Err.ensures.judged

pub returns-in-Err-count_records-clause-judged : goal.returns-in-Err-count_records-clause-judged
returns-in-Err-count_records-clause-judged c =
    fails_second (text_checks c.args.which (map stripped (fields_of c.args.header.now))) _ c.in-Err-count_records.fault c.in-Ok.ensures.judged
    (fails_first (length_checks c.args.which (length (fields_of c.args.header.now)) 1 (records_left (λ (s : Bor (List ℕ)). Some s.now) c.args.reader.now)) _ c.in-Err-count_records.fault (rw c.len.ensures at c.in-Err-count_records.ensures.judged))

pub returns-in-Ok-layout_of-clause-judged : goal.returns-in-Ok-layout_of-clause-judged
returns-in-Ok-layout_of-clause-judged c =
    let ns : List Name = map (λ (k : Bor Name). k.now) c.args.names.now in
    let e = ap (map (λ (t : Bor (List ℕ)). t.now)) (sym c.deref.ensures.value ∙ c.in-Some.ensures.cases.0) in
    none_of_three (text_checks c.args.which (map stripped (fields_of c.args.header.now))) (length_checks c.args.which (length (fields_of c.args.header.now)) 1 (records_left (λ (s : Bor (List ℕ)). Some s.now) c.args.reader.now)) (header_checks c.args.which ns (map stripped (fields_of c.args.header.now)))
    c.in-Ok.ensures.judged (rw c.len.ensures at c.in-Ok-count_records.ensures.judged)
    (ap (λ (hs : List (List ℕ)). first_fault (header_checks c.args.which ns hs)) (sym c.in-Ok.ensures.value ∙ e) ∙ c.in-Ok-layout_of.ensures.judged)

no_texts : (ts : List (Bor (List ℕ))) → length ts ≡ 0 → map (λ (t : Bor (List ℕ)). t.now) ts ≡ []
no_texts [] e = refl
no_texts (t ∷ ts) e = absurd (cc)

pub returns-clause-judged : goal.returns-clause-judged
returns-clause-judged c =
    let ns : List Name = map (λ (k : Bor Name). k.now) c.args.names.now in
    let e = no_texts c.deref.result.now c.in-None.ensures.cases in
    fails_third (text_checks c.args.which (map stripped (fields_of c.args.header.now))) (length_checks c.args.which (length (fields_of c.args.header.now)) 1 (records_left (λ (s : Bor (List ℕ)). Some s.now) c.args.reader.now)) (header_checks c.args.which ns (map stripped (fields_of c.args.header.now)))
    (Csv c.args.which 0) c.in-Ok.ensures.judged (rw c.len.ensures at c.in-Ok-count_records.ensures.judged)
    (ap (λ (hs : List (List ℕ)). first_fault (header_checks c.args.which ns hs)) (sym c.in-Ok.ensures.value ∙ ap (map (λ (t : Bor (List ℕ)). t.now)) (sym c.deref.ensures.value) ∙ e))
