-- The items of a list, one after the other.
use Rattle.std.proofs.Common.{drop-cons, ◌≡◌, ℕ, suc, ◌+◌, ◌<◌, List, [], ◌∷◌, ◌++◌, Bool, true, false, cond, Some, None, Result, Ok, Err, IfOk, length, get_or, drop, map, refl, sym, ◌∙◌, ap, subst, arith, inl, inr}
use Rattle.std.specs.Fmt.{decimal}
use Rattle.serde_json.specs.Data.{Data}
use Rattle.serde_json.specs.View.{view}
use Rattle.serde_json.specs.declared.value.Value.{Value}
use Rattle.hys_json.specs.declared.fault.ValueFault.{ValueFault}
use Rattle.hys_json.specs.declared.fault.ValueFault.TheVariants.{Shape, Number, Memory}
use Rattle.hys_json.specs.Checks.{Check, shape, first_fault, under, IsWithin, IsFault, Judged}
use Rattle.hys_json.specs.Values.{each_from, items_in, is_list}
use Rattle.hys_json.proofs.Judging.{no_fault_first, fails_first, read_under, fails_behind}

add_one : (n : ℕ) → n + 1 ≡ suc n
add_one n = omega arith

drop_here : (vs : List Value) (i : ℕ) (v : Value) → i < length vs → v ≡ get_or vs i v → drop i vs ≡ v ∷ drop (suc i) vs
drop_here vs i v h e = rw (drop-cons vs i v h, ← e) refl

same_fault : (xs ys : List Check) (f : ValueFault) → first_fault xs ≡ first_fault ys → IsFault ys f → IsFault xs f
same_fault xs ys (Shape p) e h = e ∙ h
same_fault xs ys (Number p) e h = e ∙ h
same_fault xs ys Memory e h = tt

abbrev value_or : {T : Type 0} → T → Result T ValueFault → T
value_or d (Ok x) = x
value_or d (Err f) = d

listed : (b : Bool) → cond b None (Some (Shape [])) ≡ None → b ≡ true
listed true h = refl
listed false h = absurd (cc)

module _ {S T : Type 0} (asked : S → Data → List Check) (after : S → Data → S) (meant : Data → T) where
  -- the fault of an item is that of the list
  pub item_fails : (s0 s : S) (vs : List Value) (d : Data) (i : ℕ) (v : Value) (inner : Result T ValueFault) (f : ValueFault)
      → i < length vs → v ≡ get_or vs i v → cond (is_list d) None (Some (Shape [])) ≡ None → map view vs ≡ items_in d
      → first_fault (each_from asked after 0 s0 (map view vs)) ≡ first_fault (each_from asked after i s (map view (drop i vs)))
      → Judged (asked s (view v)) (λ x. x ≡ meant (view v)) inner → IsWithin (decimal i) inner (Err f)
      → IsFault (shape (is_list d) ∷ each_from asked after 0 s0 (items_in d)) f
  item_fails s0 s vs d i v inner f l e a m same j w =
      let here : IsFault (under (decimal i) (asked s (view v))) f = read_under (decimal i) (asked s (view v)) (λ x. x ≡ meant (view v)) inner (Err f) j w in
      let rest : IsFault (each_from asked after i s (view v ∷ map view (drop (suc i) vs))) f =
      fails_first (under (decimal i) (asked s (view v))) (each_from asked after (suc i) (after s (view v)) (map view (drop (suc i) vs))) f here in
      let there : IsFault (each_from asked after i s (map view (drop i vs))) f = subst (λ us. IsFault (each_from asked after i s (map view us)) f) (sym (drop_here vs i v l e)) rest in
      let all : IsFault (each_from asked after 0 s0 (items_in d)) f = subst (λ ds. IsFault (each_from asked after 0 s0 ds) f) m (same_fault (each_from asked after 0 s0 (map view vs)) (each_from asked after i s (map view (drop i vs))) f same there) in
      fails_behind (each_from asked after 0 s0 (items_in d)) (is_list d) f (Shape []) (listed (is_list d) a) all

  -- one more item is read
  pub item_read : (s0 s next : S) (vs : List Value) (i : ℕ) (v : Value) (inner : Result T ValueFault) (x : T) (xs : List T)
      → i < length vs → v ≡ get_or vs i v
      → first_fault (each_from asked after 0 s0 (map view vs)) ≡ first_fault (each_from asked after i s (map view (drop i vs)))
      → xs ++ map meant (map view (drop i vs)) ≡ map meant (map view vs)
      → Judged (asked s (view v)) (λ x. x ≡ meant (view v)) inner → IfOk inner (λ y. next ≡ after s (view v)) → IsWithin (decimal i) inner (Ok x)
      → (first_fault (each_from asked after 0 s0 (map view vs)) ≡ first_fault (each_from asked after (i + 1) next (map view (drop (i + 1) vs))))
      × ((xs ++ x ∷ []) ++ map meant (map view (drop (i + 1) vs)) ≡ map meant (map view vs))
  item_read s0 s next vs i v (Err f) x xs l e same all j k (inl w) = absurd (cc)
  item_read s0 s next vs i v (Err f) x xs l e same all j k (inr w) = absurd (cc)
  item_read s0 s next vs i v (Ok y) x xs l e same all j k w = subst (λ (n : ℕ).
      (first_fault (each_from asked after 0 s0 (map view vs)) ≡ first_fault (each_from asked after n next (map view (drop n vs)))) × ((xs ++ x ∷ []) ++ map meant (map view (drop n vs)) ≡ map meant (map view vs))) (sym (add_one i)) (
        same ∙ ap (λ us. first_fault (each_from asked after i s (map view us))) (drop_here vs i v l e) ∙ onward,
        joined ∙ ap (λ us. xs ++ map meant (map view us)) (sym (drop_here vs i v l e)) ∙ all,
      )
    where
      assoc : (us : List T) (b : T) (cs : List T) → (us ++ b ∷ []) ++ cs ≡ us ++ (b ∷ cs)
      assoc [] b cs = refl
      assoc (a ∷ us) b cs = ap (λ ws. a ∷ ws) (assoc us b cs)

      x_is : x ≡ meant (view v)
      x_is = ap (value_or y) w ∙ j.1

      onward : first_fault (each_from asked after i s (view v ∷ map view (drop (suc i) vs))) ≡ first_fault (each_from asked after (suc i) next (map view (drop (suc i) vs)))
      onward = rw k (no_fault_first (under (decimal i) (asked s (view v))) (each_from asked after (suc i) (after s (view v)) (map view (drop (suc i) vs)))
          (read_under (decimal i) (asked s (view v)) (λ z. z ≡ meant (view v)) (Ok y) (Ok y) j refl).0)

      joined : (xs ++ x ∷ []) ++ map meant (map view (drop (suc i) vs)) ≡ xs ++ (meant (view v) ∷ map meant (map view (drop (suc i) vs)))
      joined = rw x_is (assoc xs (meant (view v)) (map meant (map view (drop (suc i) vs))))
