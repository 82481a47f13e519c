-- The keys of an object whose form is known.
use Rattle.std.proofs.Common.{◌≡◌, ℕ, suc, List, [], ◌∷◌, ◌++◌, Bool, true, false, cond, ◌&&◌, nat_eq, length, map, bytes_eq, String, Global, Some, None, Result, Ok, codes, refl, sym, ◌∙◌, ap, ap₂, subst, arith, tests}
use Rattle.std.specs.Prelude.{is_some}
use Rattle.std.specs.Borrow.{Bor}
use Rattle.std.proofs.lemmas.List.{length-map}
use Rattle.std.proofs.lemmas.Slice.Eq.{bytes_eq-Decides}
use Rattle.serde_json.specs.Data.{Data}
use Rattle.serde_json.specs.Find.{as_object}
use Rattle.serde_json.specs.View.{members_view}
use Rattle.serde_json.specs.declared.value.Value.{Value}
use Rattle.hys_number.proofs.Bools.{and_both}
use Rattle.hys_json.specs.declared.fault.ValueFault.{ValueFault}
use Rattle.hys_json.specs.Checks.{first_fault, under, IsWithin, Judged}
use Rattle.hys_json.specs.Values.{keys_of, keys_in, is_object, has, is_one_of, member_in, word_checks, closed_checks}
use Rattle.hys_json.proofs.Readings.{first_none}
use Rattle.hys_json.proofs.Judging.{passes_under, read_as}
use Rattle.hys_answer.specs.Reading.{has_all, has_form, cell_in, cell_checks, table_cell, table_cell_in, table_cell_checks, claim_checks, answer_keys, front_checks, HasAnswerKeys}

as_many : (es : List (String Global × Value)) → length (keys_of (members_view es)) ≡ length es
as_many [] = refl
as_many (e ∷ es) = ap suc (as_many es)

pub has_as_many : (es : List (String Global × Value)) (d : Data) → Some (members_view es) ≡ as_object d → length (keys_in d) ≡ length es
has_as_many es d h = rw (sym h) (as_many es)

has_each : (keys : List (List ℕ)) (d : Data) (key : List ℕ) → has_all keys d ≡ true → is_one_of keys key ≡ true → has key d ≡ true
has_each [] d key h e = absurd (cc)
has_each (k ∷ keys) d key h e = go (has k d) (bytes_eq k key) refl refl h e (has_each keys d key)
  where
    go : (b c : Bool) → has k d ≡ b → bytes_eq k key ≡ c → cond b (has_all keys d) false ≡ true → cond c true (is_one_of keys key) ≡ true →
        (has_all keys d ≡ true → is_one_of keys key ≡ true → has key d ≡ true) → has key d ≡ true
    go true true p q h e r = subst (λ t. has t d ≡ true) ((bytes_eq-Decides k key).0 q) p
    go true false p q h e r = r h e
    go false c p q h e r = absurd (cc)

-- an object of a form has each of its keys
pub form_has : (keys : List (List ℕ)) (d : Data) (key : List ℕ) → has_form keys d ≡ true → is_one_of keys key ≡ true → has key d ≡ true
unfolding has_form
form_has keys d key h e =
    has_each keys d key (and_both (is_object d && nat_eq (length (keys_in d)) (length keys)) (has_all keys d) h).1 e

-- ---- whether an object has a form
are_equal : (m n : ℕ) → m ≡ n → nat_eq m n ≡ true
are_equal m n h = grind (arith, tests)

differ : (m n : ℕ) → ¬ (m ≡ n) → nat_eq m n ≡ false
differ m n h = grind (arith, tests)

same_keys : (es : List (String Global × Value)) (ks : List (Bor (List ℕ))) (d : Data) (n : ℕ) → Some (members_view es) ≡ as_object d → n ≡ length es →
    has_form (map (λ k. k.now) ks) d ≡ (nat_eq n (length ks) && has_all (map (λ k. k.now) ks) d)
unfolding has_form
same_keys es ks d n h e =
    let given : List (List ℕ) = map (λ k. k.now) ks in
    let object : is_object d ≡ true = ap is_some (sym h) in
    let few : nat_eq (length (keys_in d)) (length given) ≡ nat_eq n (length ks) = ap₂ nat_eq (has_as_many es d h ∙ sym e) (length-map ks (λ k. k.now)) in
    ap (λ b. b && nat_eq (length (keys_in d)) (length given) && has_all given d) object
    ∙ ap (λ b. b && has_all given d) few

pub form_by_keys : (es : List (String Global × Value)) (ks : List (Bor (List ℕ))) (d : Data) (n : ℕ) (all : Bool) → Some (members_view es) ≡ as_object d → n ≡ length es →
    n ≡ length ks → all ≡ has_all (map (λ k. k.now) ks) d → all ≡ has_form (map (λ k. k.now) ks) d
form_by_keys es ks d n all h e f a = a ∙ sym (same_keys es ks d n h e ∙ ap (λ b. b && has_all (map (λ k. k.now) ks) d) (are_equal n (length ks) f))

pub form_of_others : (es : List (String Global × Value)) (ks : List (Bor (List ℕ))) (d : Data) (n : ℕ) → Some (members_view es) ≡ as_object d → n ≡ length es →
    ¬ (n ≡ length ks) → nat_eq n (length ks) ≡ has_form (map (λ k. k.now) ks) d
form_of_others es ks d n h e f =
    let other : nat_eq n (length ks) ≡ false = differ n (length ks) f in
    other ∙ sym (same_keys es ks d n h e ∙ ap (λ b. b && has_all (map (λ k. k.now) ks) d) other)

-- ---- a cell that was read
pub cell_read : (d e : Data) (inner : Result (ℕ × ℕ) ValueFault) (x : ℕ × ℕ) → e ≡ member_in (codes "cell") d → Judged (cell_checks e) (λ c. c ≡ cell_in e) inner →
    IsWithin (codes "cell") inner (Ok x) → (first_fault (table_cell_checks d) ≡ None) × (table_cell x ≡ table_cell_in d)
unfolding table_cell_checks
cell_read d e inner x m h w = (
  subst (λ c. first_fault (under (codes "cell") (cell_checks c)) ≡ None) m (passes_under (codes "cell") (cell_checks e) (λ c. c ≡ cell_in e) inner x h w),
  ap table_cell (read_as (codes "cell") (cell_checks e) (λ c. c ≡ cell_in e) inner x h w) ∙ ap (λ c. table_cell (cell_in c)) m,
)

-- ---- the keys of the whole
pub has_keys : (d : Data) → first_fault (front_checks d) ≡ None → HasAnswerKeys d
unfolding front_checks
has_keys d h =
    first_none (closed_checks answer_keys d) (under (codes "claim") (claim_checks (member_in (codes "claim") d)) ++ under (codes "format") (word_checks (codes "hysdel-answer") (member_in (codes "format") d))) h
