-- A source has at most one order of definition and one first number that doesn't fit.
use Rattle.std.proofs.Common.{◌≡◌, ℕ, List, [], ◌∷◌, refl, sym, ◌∙◌, ap, ap₂, subst, Option, Some, None, ◌⊎◌, inl, inr}
use Rattle.std.specs.List.{AllByRecursion}
use Rattle.hys_number.specs.Number.{Number}
use Rattle.hys_ast.specs.Tree.{Source}
use Rattle.hys_meaning.specs.Folding.{Computed, first_unfit, folded}
use Rattle.hys_meaning.specs.Unfolded.{unfolded}
use Rattle.hys_examples.specs.Ranges.{auxiliaries, IsTaken, IsReady, IsFirst, IsOrder, IsOrderAfter}
use Rattle.hys_examples.specs.Fitting.{Fits, IsFirstBuilt, IsFirstUnfit, built}

same_first : (P : List ℕ → Type 0) (n m : List ℕ) (xs : List (List ℕ)) → IsFirst P n xs → IsFirst P m xs → n ≡ m
same_first P n m [] h k = absurd h
same_first P n m (x ∷ xs) (inl h) (inl k) = sym h.1 ∙ k.1
same_first P n m (x ∷ xs) (inl h) (inr k) = absurd (k.0 h.0)
same_first P n m (x ∷ xs) (inr h) (inl k) = absurd (h.0 k.0)
same_first P n m (x ∷ xs) (inr h) (inr k) = same_first P n m xs h.1 k.1

none_left : (s : Source) (taken : List (List ℕ)) (n : List ℕ) (xs : List (List ℕ)) → IsFirst (IsReady s taken) n xs → AllByRecursion (IsTaken taken) xs → ⊥
none_left s taken n [] h k = h
none_left s taken n (x ∷ xs) (inl h) k = h.0.0 k.0
none_left s taken n (x ∷ xs) (inr h) k = none_left s taken n xs h.1 k.1

same_after : (s : Source) (taken a b : List (List ℕ)) → IsOrderAfter s taken a → IsOrderAfter s taken b → a ≡ b
same_after s taken [] [] h k = refl
same_after s taken [] (m ∷ b) h k = absurd (none_left s taken m (auxiliaries s) k.0 h)
same_after s taken (n ∷ a) [] h k = absurd (none_left s taken n (auxiliaries s) h.0 k)
same_after s taken (n ∷ a) (m ∷ b) h k =
    let e : n ≡ m = same_first (IsReady s taken) n m (auxiliaries s) h.0 k.0 in
    ap₂ (λ x xs. x ∷ xs) e (same_after s (n ∷ taken) a b h.1 (subst (λ x. IsOrderAfter s (x ∷ taken) b) (sym e) k.1))

pub one_order : (s : Source) (a b : List (List ℕ)) → IsOrder s a → IsOrder s b → a ≡ b
one_order s a b h k = same_after s [] a b h k

-- ---- what is found
abbrev or_else : Computed → Option Computed → Computed
or_else c None = c
or_else c (Some d) = d

some_same : (c d : Computed) → Some c ≡ Some d → c ≡ d
some_same c d e = ap (or_else c) e

differ : (o : Option Computed) (c : Computed) → o ≡ None → o ≡ Some c → ⊥
differ o c e f = is_none (subst (λ x. x ≡ Some c) e f)
  where
    is_none : None ≡ Some c → ⊥
    is_none g = absurd (cc)

same_built : (t : Number) (s : Source) (c d : Computed) → IsFirstBuilt t s c → IsFirstBuilt t s d → c ≡ d
same_built t s c d h k = some_same c d (sym h.first ∙ (ap (λ o. first_unfit (built t s o)) (one_order (unfolded s) h.order k.order h.is_order k.is_order) ∙ k.first))

pub one_first : (t : Number) (s : Source) (c d : Computed) → IsFirstUnfit t s c → IsFirstUnfit t s d → c ≡ d
one_first t s c d (inl h) (inl k) = some_same c d (sym h ∙ k)
one_first t s c d (inl h) (inr k) = absurd (differ _ c k.expressions h)
one_first t s c d (inr h) (inl k) = absurd (differ _ d h.expressions k)
one_first t s c d (inr h) (inr k) = same_built t s c d h k

pub not_both : (t : Number) (s : Source) (c : Computed) → Fits t s → ¬ (IsFirstUnfit t s c)
not_both t s c f (inl h) = differ _ c f.expressions h
not_both t s c f (inr h) = differ _ c f.built_fit (ap (λ o. first_unfit (built t s o)) (one_order (unfolded s) f.order h.order f.is_order h.is_order) ∙ h.first)

pub either : (t : Number) (s : Source) (order : List (List ℕ)) → IsOrder (unfolded s) order → Fits t s ⊎ ((c : Computed) × IsFirstUnfit t s c)
either t s order o = by_folded (first_unfit (folded s)) refl
  where
    by_built : first_unfit (folded s) ≡ None → (r : Option Computed) → first_unfit (built t s order) ≡ r → Fits t s ⊎ ((c : Computed) × IsFirstUnfit t s c)
    by_built h None e = inl (record { expressions = h; order = order; is_order = o; built_fit = e })
    by_built h (Some c) e = inr (c, inr (record { expressions = h; order = order; is_order = o; first = e }))

    by_folded : (r : Option Computed) → first_unfit (folded s) ≡ r → Fits t s ⊎ ((c : Computed) × IsFirstUnfit t s c)
    by_folded None e = by_built e (first_unfit (built t s order)) refl
    by_folded (Some c) e = inr (c, inl e)
