-- What holds where no check fails, and when none does.
use Rattle.std.proofs.Common.{◌≡◌, ℕ, suc, List, [], ◌∷◌, ◌++◌, Bool, true, false, cond, Some, None, map, refl, sym, ◌∙◌}
use Rattle.std.specs.Fmt.{decimal}
use Rattle.std.specs.List.{All}
use Rattle.std.proofs.lemmas.List.Elements.{All-nil, All-cons}
use Rattle.serde_json.specs.Data.{Data}
use Rattle.hys_json.specs.declared.fault.ValueFault.{ValueFault}
use Rattle.hys_json.specs.declared.fault.ValueFault.TheVariants.{Shape}
use Rattle.hys_json.specs.Checks.{Check, shape, first_fault, deeper, deeper_check, under}
use Rattle.hys_json.specs.Values.{each_from, list_checks, items_in, is_list}
use Rattle.hys_json.proofs.Judging.{no_fault_first, none_after_none, deeper_none}
use Rattle.hys_json.proofs.Readings.{first_none}

-- the first check passes, and none of the others fails
pub passes_one : (b : Bool) (rest : List Check) (f : ValueFault) → cond b (first_fault rest) (Some f) ≡ None →
    (b ≡ true) × (first_fault rest ≡ None)
passes_one true rest f h = (refl, h)
passes_one false rest f h = absurd (cc)

pub passes_only : (b : Bool) → first_fault (shape b ∷ []) ≡ None → b ≡ true
passes_only b h = (passes_one b [] (Shape []) h).0

pub both_pass : (xs ys : List Check) → first_fault (xs ++ ys) ≡ None → (first_fault xs ≡ None) × (first_fault ys ≡ None)
both_pass xs ys h = (first_none xs ys h, sym (no_fault_first xs ys (first_none xs ys h)) ∙ h)

pub passes_within : (key : List ℕ) (xs : List Check) → first_fault (under key xs) ≡ None → first_fault xs ≡ None
unfolding under
passes_within key [] h = refl
passes_within key (x ∷ xs) h =
    let p : (x.passes ≡ true) × (first_fault (map (deeper_check key) xs) ≡ None) = passes_one x.passes (map (deeper_check key) xs) (deeper key x.fault) h in
    rw p.0 (passes_within key xs p.1)

-- ---- lists
module _ {S : Type 0} (asked : S → Data → List Check) (after : S → Data → S) where
  -- the first item and those behind it
  pub each_passes : (k : ℕ) (s : S) (d : Data) (ds : List Data) → first_fault (each_from asked after k s (d ∷ ds)) ≡ None →
      (first_fault (asked s d) ≡ None) × (first_fault (each_from asked after (suc k) (after s d) ds) ≡ None)
  each_passes k s d ds h =
      let p : (first_fault (under (decimal k) (asked s d)) ≡ None) × (first_fault (each_from asked after (suc k) (after s d) ds) ≡ None) =
      both_pass (under (decimal k) (asked s d)) (each_from asked after (suc k) (after s d) ds) h in
      (passes_within (decimal k) (asked s d) p.0, p.1)

  pub items_pass : (s : S) (d : Data) → first_fault (list_checks asked after s d) ≡ None → first_fault (each_from asked after 0 s (items_in d)) ≡ None
  unfolding list_checks
  items_pass s d h = (passes_one (is_list d) (each_from asked after 0 s (items_in d)) (Shape []) h).1

  pub none_of_each : (k : ℕ) (s : S) (d : Data) (ds : List Data) → first_fault (asked s d) ≡ None →
      first_fault (each_from asked after (suc k) (after s d) ds) ≡ None → first_fault (each_from asked after k s (d ∷ ds)) ≡ None
  none_of_each k s d ds h t =
      none_after_none (under (decimal k) (asked s d)) (each_from asked after (suc k) (after s d) ds) (deeper_none (decimal k) (asked s d) h) t

  pub none_of_list : (s : S) (d : Data) → is_list d ≡ true → first_fault (each_from asked after 0 s (items_in d)) ≡ None → first_fault (list_checks asked after s d) ≡ None
  unfolding list_checks
  none_of_list s d l h = rw l h

-- a list of whose items the same is asked
pub all_pass : {S T : Type 0} (asked : S → Data → List Check) (meant : Data → T) (P : T → Type 0) (s : S) →
    ((d : Data) → first_fault (asked s d) ≡ None → P (meant d)) → (k : ℕ) (ds : List Data) →
    first_fault (each_from asked (λ t d. t) k s ds) ≡ None → All P (map meant ds)
all_pass asked meant P s each k [] h = All-nil P
all_pass asked meant P s each k (d ∷ ds) h =
    let p : (first_fault (asked s d) ≡ None) × (first_fault (each_from asked (λ t d. t) (suc k) s ds) ≡ None) =
    each_passes asked (λ t d. t) k s d ds h in
    All-cons P (meant d) (map meant ds) (each d p.0) (all_pass asked meant P s each (suc k) ds p.1)
