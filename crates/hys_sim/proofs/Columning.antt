-- The turns of loops over columns.
use Rattle.std.proofs.Common.{◌≡◌, ◌⊎◌, ℕ, suc, ◌<◌, List, [], ◌∷◌, ◌++◌, Bool, true, false, Bor, not, ◌&&◌, drop, take, length, get_or, map, Option, ap}
use Rattle.std.specs.Prelude.{is_some}
use Rattle.std.proofs.Math.Seq.{drop-cons}
use Rattle.hys_ast.specs.declared.source.Kind.{Kind}
use Rattle.hys_prog.specs.declared.program.Name.{Name}
use Rattle.hys_sim.specs.declared.fault.Which.{Which}
use Rattle.hys_sim.specs.declared.fault.SimFault.{SimFault}
use Rattle.hys_sim.specs.declared.fault.SimFault.TheVariants.{Column, Memory, Value}
use Rattle.hys_sim.specs.Checks.{check, first_fault, IsFault}
use Rattle.hys_sim.specs.Fields.{field_reading, suits}
use Rattle.hys_sim.specs.Tables.{column_checks, is_among, kind_checks, kind_under}
use Rattle.hys_sim.proofs.Judging.{passed, shown, stopped}

pub kinds_stop : (w : Which) (ns : List Name) (all : List (List ℕ)) (cols : List (Bor (List ℕ))) (i : ℕ) (d : Bor (List ℕ)) (f : SimFault) → i < length cols →
    first_fault (column_checks w ns [] all) ≡ first_fault (column_checks w ns (map (λ (t : Bor (List ℕ)). t.now) (take i cols)) (map (λ (t : Bor (List ℕ)). t.now) (drop i cols))) →
    IsFault (check (is_some (kind_under ns (get_or cols i d).now) && not (is_among (get_or cols i d).now (map (λ (t : Bor (List ℕ)). t.now) (take i cols)))) (Column w (get_or cols i d).now) ∷ []) f → IsFault (column_checks w ns [] all) f
kinds_stop w ns all cols i d f b h k =
    let seen = map (λ (t : Bor (List ℕ)). t.now) (take i cols) in
    stopped (column_checks w ns [] all) (column_checks w ns seen (map (λ (t : Bor (List ℕ)). t.now) (drop i cols)))
    (check (is_some (kind_under ns (get_or cols i d).now) && not (is_among (get_or cols i d).now seen)) (Column w (get_or cols i d).now) ∷ [])
    (column_checks w ns (seen ++ (get_or cols i d).now ∷ []) (map (λ (t : Bor (List ℕ)). t.now) (drop (suc i) cols))) f h
    (ap (λ (cs : List (Bor (List ℕ))). column_checks w ns seen (map (λ (t : Bor (List ℕ)). t.now) cs)) (drop-cons cols i d b)) k

pub kind_stop : (w : Which) (r : ℕ) (fs : List (List ℕ)) (ks : List Kind) (i : ℕ) (d : Kind) (f : SimFault) → i < length ks →
    first_fault (kind_checks w r fs 1 ks) ≡ first_fault (kind_checks w r fs (suc i) (drop i ks)) → suits (get_or ks i d) (field_reading (get_or fs (suc i) [])) ≡ false →
    (f ≡ Value w r (suc (suc i))) ⊎ (f ≡ Memory) → IsFault (kind_checks w r fs 1 ks) f
kind_stop w r fs ks i d f b h k m =
    stopped (kind_checks w r fs 1 ks) (kind_checks w r fs (suc i) (drop i ks)) (check (suits (get_or ks i d) (field_reading (get_or fs (suc i) []))) (Value w r (suc (suc i))) ∷ [])
    (kind_checks w r fs (suc (suc i)) (drop (suc i) ks)) f h (ap (kind_checks w r fs (suc i)) (drop-cons ks i d b))
    (shown (check (suits (get_or ks i d) (field_reading (get_or fs (suc i) []))) (Value w r (suc (suc i))) ∷ []) f (Value w r (suc (suc i))) m (ap (λ (c : Bool). first_fault (check c (Value w r (suc (suc i))) ∷ [])) k))

pub kind_more : (w : Which) (r : ℕ) (fs : List (List ℕ)) (ks : List Kind) (i : ℕ) (d : Kind) (o : Option SimFault) → i < length ks →
    o ≡ first_fault (kind_checks w r fs (suc i) (drop i ks)) → suits (get_or ks i d) (field_reading (get_or fs (suc i) [])) ≡ true → o ≡ first_fault (kind_checks w r fs (suc (suc i)) (drop (suc i) ks))
kind_more w r fs ks i d o b h k =
    passed o (kind_checks w r fs (suc i) (drop i ks)) (check (suits (get_or ks i d) (field_reading (get_or fs (suc i) []))) (Value w r (suc (suc i))) ∷ [])
    (kind_checks w r fs (suc (suc i)) (drop (suc i) ks)) h (ap (kind_checks w r fs (suc i)) (drop-cons ks i d b))
    (ap (λ (c : Bool). first_fault (check c (Value w r (suc (suc i))) ∷ [])) k)
