-- The turns of loops over the records that a reader has left.
use Rattle.std.proofs.Common.{◌≡◌, ◌≢◌, ◌∙◌, ℕ, suc, List, [], ◌∷◌, Bool, eqb, length, Option, Some, None, ap}
use Rattle.std.proofs.lemmas.Bool.{eq-eqb, ne_eqb}
use Rattle.hys_ast.specs.declared.source.Kind.{Kind}
use Rattle.hys_sim.specs.declared.fault.Which.{Which}
use Rattle.hys_sim.specs.declared.fault.SimFault.{SimFault}
use Rattle.hys_sim.specs.declared.fault.SimFault.TheVariants.{Csv}
use Rattle.hys_sim.specs.Checks.{Check, check, first_fault, IsFault}
use Rattle.hys_sim.specs.Tables.{length_checks, record_checks, records_checks}
use Rattle.hys_sim.proofs.Judging.{fault_first, passed, stopped}

-- a record as long as the header, and one of another length
pub count_more : (w : Which) (n r : ℕ) (o : Option SimFault) (before after : List (List (List ℕ))) (fs : List (List ℕ)) → o ≡ first_fault (length_checks w n r before) → before ≡ fs ∷ after → length fs ≡ n → o ≡ first_fault (length_checks w n (suc r) after)
count_more w n r o before after fs h e l =
    passed o (length_checks w n r before) (check (eqb (length fs) n) (Csv w r) ∷ []) (length_checks w n (suc r) after) h (ap (length_checks w n r) e)
    (ap (λ (b : Bool). first_fault (check b (Csv w r) ∷ [])) (eq-eqb (length fs) n l))

pub count_wrong : (w : Which) (n r : ℕ) (all : List Check) (before after : List (List (List ℕ))) (fs : List (List ℕ)) → first_fault all ≡ first_fault (length_checks w n r before) → before ≡ fs ∷ after → length fs ≢ n → first_fault all ≡ Some (Csv w r)
count_wrong w n r all before after fs h e l =
    h ∙ ap (λ (rs : List (List (List ℕ))). first_fault (length_checks w n r rs)) e
    ∙ fault_first (check (eqb (length fs) n) (Csv w r) ∷ []) (length_checks w n (suc r) after) (Csv w r) (ap (λ (b : Bool). first_fault (check b (Csv w r) ∷ [])) (ne_eqb (length fs) n l))

pub count_end : (w : Which) (n r : ℕ) (o : Option SimFault) (before : List (List (List ℕ))) → o ≡ first_fault (length_checks w n r before) → before ≡ [] → o ≡ None
count_end w n r o before h e = h ∙ ap (λ (rs : List (List (List ℕ))). first_fault (length_checks w n r rs)) e

-- a record whose numbers are judged
pub record_more : (w : Which) (ks : List Kind) (n : ℕ) (o : Option SimFault) (before after : List (List (List ℕ))) (fs : List (List ℕ)) → o ≡ first_fault (records_checks w ks n before) → before ≡ fs ∷ after → first_fault (record_checks w ks n fs) ≡ None → o ≡ first_fault (records_checks w ks (suc n) after)
record_more w ks n o before after fs h e k = passed o (records_checks w ks n before) (record_checks w ks n fs) (records_checks w ks (suc n) after) h (ap (records_checks w ks n) e) k

pub record_wrong : (w : Which) (ks : List Kind) (n : ℕ) (all : List Check) (before after : List (List (List ℕ))) (fs : List (List ℕ)) (f : SimFault) → first_fault all ≡ first_fault (records_checks w ks n before) → before ≡ fs ∷ after → IsFault (record_checks w ks n fs) f → IsFault all f
record_wrong w ks n all before after fs f h e k = stopped all (records_checks w ks n before) (record_checks w ks n fs) (records_checks w ks (suc n) after) f h (ap (records_checks w ks n) e) k

pub record_end : (w : Which) (ks : List Kind) (n : ℕ) (o : Option SimFault) (before : List (List (List ℕ))) → o ≡ first_fault (records_checks w ks n before) → before ≡ [] → o ≡ None
record_end w ks n o before h e = h ∙ ap (λ (rs : List (List (List ℕ))). first_fault (records_checks w ks n rs)) e
