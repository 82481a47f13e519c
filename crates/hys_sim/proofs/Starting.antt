-- The start and the places of columns.
use Rattle.std.proofs.Common.{◌≡◌, ◌∙◌, ◌≤◌, ℕ, List, [], ◌∷◌, Bool, true, false, cond, leb, length, map, Some, None, Result, Ok, Err, IfOk, Vec, Global, refl, sym, ap, arith}
use Rattle.std.proofs.lemmas.Bool.{leb-true}
use Rattle.std.specs.declared.alloc.AllocError.{AllocError}
use Rattle.hys_number.specs.Number.{Number}
use Rattle.hys_prog.specs.declared.program.Role.{Role}
use Rattle.hys_prog.specs.declared.program.Program.{Program}
use Rattle.hys_prog.specs.Steps.{places}
use Rattle.hys_sim.specs.declared.fault.SimFault.TheVariants.{Rows}
use Rattle.hys_sim.specs.declared.fault.Which.TheVariants.{Start}
use Rattle.hys_sim.specs.Checks.{first_fault}
use Rattle.hys_sim.specs.Recorded.{IsNext}
use Rattle.hys_sim.specs.Tables.{names_of, places_under, start_counts, values_at}
use Rattle.hys_sim.proofs.Placing.{as_many, length_map}

-- where nothing is wrong with the number of records there is one
pub one_start : (n : ℕ) → first_fault (start_counts n) ≡ None → n ≡ 1
one_start n h = go (leb 1 n) (leb n 1) refl refl h
  where
    go : (a b : Bool) → leb 1 n ≡ a → leb n 1 ≡ b → cond a (cond b None (Some (Rows Start 2))) (Some (Rows Start 1)) ≡ None → n ≡ 1
    go true true e f k = let p : 1 ≤ n = leb-true 1 n e in let q : n ≤ 1 = leb-true n 1 f in omega arith
    go true false e f k = absurd (cc)
    go false b e f k = absurd (cc)

-- the values of the only record
pub only_values : (ns : List ℕ) (rows after : List (List (List ℕ))) (fs : List (List ℕ)) → rows ≡ fs ∷ after → length rows ≡ 1 → map (values_at ns) rows ≡ values_at ns fs ∷ []
only_values ns rows [] fs e l = ap (map (values_at ns)) e
only_values ns rows (r ∷ rs) fs e l = let k = ap length e in absurd (omega arith)

-- there are as many places of columns as of names
pub place_count : (part : Role → Bool) (p : Program) (columns : List (List ℕ)) → length (places_under (names_of part p) columns) ≡ length (places part p)
place_count part p columns = length_map _ (names_of part p) ∙ as_many 0 part p.names

pub value_count : (ns : List ℕ) (fs : List (List ℕ)) → length (values_at ns fs) ≡ length ns
value_count ns fs = length_map _ ns

-- the values of the record that is read first, where memory may be wanting
pub first_answer : (ns : List ℕ) (rows after : List (List (List ℕ))) (fs : List (List ℕ)) (found : Bool) (r : Result (Vec Number Global) AllocError) → IsNext found fs rows after → IfOk r (λ (x : Vec Number Global). x.items ≡ values_at ns fs) → IfOk r (λ (x : Vec Number Global). length rows ≡ 1 → map (values_at ns) rows ≡ x.items ∷ [])
first_answer ns rows after fs true (Ok x) h e = λ l. only_values ns rows after fs h l ∙ ap (λ (a : List Number). a ∷ []) (sym e)
first_answer ns rows after fs false (Ok x) h e = λ l. let k = ap length h in absurd (omega arith)
first_answer ns rows after fs true (Err f) h e = tt
first_answer ns rows after fs false (Err f) h e = tt
