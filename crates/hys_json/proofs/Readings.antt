-- What is read of lists and objects.
use Rattle.std.proofs.Common.{◌≡◌, ℕ, List, [], ◌∷◌, ◌++◌, Bool, true, false, bytes_eq, Result, map, String, Global, string_bytes, Option, Some, None, cond, refl, sym, ap, subst}
use Rattle.serde_json.specs.Data.{Data, Members}
use Rattle.serde_json.specs.Find.{as_array, as_object}
use Rattle.serde_json.specs.View.{view, items_of, items_view, members_view}
use Rattle.serde_json.specs.declared.value.Value.{Value}
use Rattle.hys_json.specs.declared.fault.ValueFault.{ValueFault}
use Rattle.hys_json.specs.declared.fault.ValueFault.TheVariants.{Shape}
use Rattle.hys_json.specs.Values.{list_of, items_in, is_list, keys_of, closed_checks, missing_checks, unknown_checks, is_one_of, has, keys_in, is_object}
use Rattle.hys_json.specs.Checks.{Check, first_fault, shape, IsFault, Judged}
use Rattle.hys_json.proofs.Judging.{passes_first, fails_behind, then_second, fails_first}
use Rattle.std.specs.Map.{keys_of as entry_keys}
use Rattle.std.proofs.lemmas.Slice.Eq.{bytes_eq-Decides}

pub listed : (ds : List Data) → list_of (items_of ds) ≡ ds
listed [] = refl
listed (d ∷ ds) = ap (λ es. d ∷ es) (listed ds)

pub is_listed : (vs : List Value) (d : Data) (f : Option ValueFault) → Some (items_view vs) ≡ as_array d → (cond (is_list d) None f ≡ None) × (map view vs ≡ items_in d)
is_listed vs d f e = rw (sym e) (refl, sym (listed (map view vs)))

-- the keys of an object's members are those of its map
pub members_keys : (es : List (String Global × Value)) → keys_of (members_view es) ≡ map string_bytes (entry_keys es)
members_keys [] = refl
members_keys (e ∷ es) = ap (λ ks. string_bytes e.0 ∷ ks) (members_keys es)

-- the checks of an object
pub object_checks : (ms : Members) (keys : List (List ℕ)) (d : Data) → Some ms ≡ as_object d → closed_checks keys d ≡ shape true ∷ (missing_checks keys d ++ unknown_checks keys (keys_of ms))
unfolding closed_checks
object_checks ms keys d e = rw (sym e) refl

pub no_object : (keys : List (List ℕ)) (d : Data) → None ≡ as_object d → first_fault (closed_checks keys d) ≡ Some (Shape [])
unfolding closed_checks
no_object keys d e = rw (sym e) refl

-- no key is missing: whether one is unknown decides
pub then_unknown : (ms : Members) (keys : List (List ℕ)) (d : Data) (r : Result (Unit {0}) ValueFault) → Some ms ≡ as_object d
    → first_fault (missing_checks keys d) ≡ None → Judged (unknown_checks keys (keys_of ms)) (λ x. Unit {0}) r → Judged (closed_checks keys d) (λ x. Unit {0}) r
then_unknown ms keys d r e h k = rw (object_checks ms keys d e) (passes_first (missing_checks keys d ++ unknown_checks keys (keys_of ms)) (λ x. Unit {0}) r true (Shape []) refl
    (then_second (missing_checks keys d) (unknown_checks keys (keys_of ms)) (λ x. Unit {0}) r h k))

pub is_missing : (ms : Members) (keys : List (List ℕ)) (d : Data) (f : ValueFault) → Some ms ≡ as_object d → IsFault (missing_checks keys d) f → IsFault (closed_checks keys d) f
is_missing ms keys d f e h =
    subst (λ cs. IsFault cs f) (sym (object_checks ms keys d e))
    (fails_behind (missing_checks keys d ++ unknown_checks keys (keys_of ms)) true f (Shape []) refl (fails_first (missing_checks keys d) (unknown_checks keys (keys_of ms)) f h))

passed : (b : Bool) (rest : Option ValueFault) (f : ValueFault) → cond b rest (Some f) ≡ None → (b ≡ true) × (rest ≡ None)
passed true rest f h = (refl, h)
passed false rest f h = absurd (cc)

pub first_none : (xs ys : List Check) → first_fault (xs ++ ys) ≡ None → first_fault xs ≡ None
first_none [] ys h = refl
first_none (x ∷ xs) ys h = let p : (x.passes ≡ true) × (first_fault (xs ++ ys) ≡ None) = passed x.passes (first_fault (xs ++ ys)) x.fault h in rw p.0 (first_none xs ys p.1)

same_text : (k key : List ℕ) (d : Data) → bytes_eq k key ≡ true → has k d ≡ true → has key d ≡ true
same_text k key d e h = subst (λ t. has t d ≡ true) ((bytes_eq-Decides k key).0 e) h

none_missing : (keys : List (List ℕ)) (d : Data) (key : List ℕ) → first_fault (missing_checks keys d) ≡ None → is_one_of keys key ≡ true → has key d ≡ true
none_missing [] d key h e = absurd (cc)
none_missing (k ∷ keys) d key h e =
    let p : (has k d ≡ true) × (first_fault (missing_checks keys d) ≡ None) = passed (has k d) (first_fault (missing_checks keys d)) (Shape (k ∷ [])) h in
    go (bytes_eq k key) refl e (none_missing keys d key p.1)
  where
    go : (b : Bool) → bytes_eq k key ≡ b → cond b true (is_one_of keys key) ≡ true → (is_one_of keys key ≡ true → has key d ≡ true) → has key d ≡ true
    go true q c r = same_text k key d q (passed (has k d) (first_fault (missing_checks keys d)) (Shape (k ∷ [])) h).0
    go false q c r = r c

-- a closed object has each of its keys
pub closed_has : (keys : List (List ℕ)) (d : Data) (key : List ℕ) → first_fault (closed_checks keys d) ≡ None → is_one_of keys key ≡ true → has key d ≡ true
unfolding closed_checks
closed_has keys d key h e =
    none_missing keys d key (first_none (missing_checks keys d) (unknown_checks keys (keys_in d)) (passed (is_object d) (first_fault (missing_checks keys d ++ unknown_checks keys (keys_in d))) (Shape []) h).1) e
