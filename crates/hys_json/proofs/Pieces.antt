-- A list is written item by item: what is written and what is left make up the whole.
use Rattle.std.proofs.Common.{◌≡◌, ℕ, ◌+◌, ◌<◌, List, ◌++◌, true, false, length, get_or, map, drop, nat_lt, sym, ap, subst, ◌∙◌, arith, tests, append_assoc}
use Rattle.std.proofs.lemmas.Bool.{or_parts}
use Rattle.serde_json.specs.Data.{Data}
use Rattle.serde_json.specs.View.{items_of}
use Rattle.serde_json.specs.Written.{comma_if, compact_text, items_text, has_float, items_have_float}
use Rattle.hys_json.proofs.Fitted.{drop_here}

-- the text of the items from a place on
abbrev pub rest_from : {X : Type 0} → (X → Data) → List X → ℕ → List ℕ
rest_from f xs i = items_text (nat_lt 0 i) (items_of (map f (drop i xs)))

here : {X : Type 0} (f : X → Data) (xs : List X) (i : ℕ) (x : X) → i < length xs → x ≡ get_or xs i x →
    rest_from f xs i ≡ comma_if (nat_lt 0 i) ++ (compact_text (f x) ++ rest_from f xs (i + 1))
here f xs i x l e =
    ap (λ ys. items_text (nat_lt 0 i) (items_of (map f ys))) (drop_here xs i x l e)
    ∙ ap (λ b. comma_if (nat_lt 0 i) ++ (compact_text (f x) ++ items_text b (items_of (map f (drop (i + 1) xs))))) (sym later)
  where
    later : nat_lt 0 (i + 1) ≡ true
    later = grind (arith, tests)

pub next_piece : {X : Type 0} (f : X → Data) (xs : List X) (i : ℕ) (x : X) (old comma new whole : List ℕ) → i < length xs → x ≡ get_or xs i x →
    old ++ rest_from f xs i ≡ whole → comma ≡ old ++ comma_if (nat_lt 0 i) → new ≡ comma ++ compact_text (f x) → new ++ rest_from f xs (i + 1) ≡ whole
next_piece f xs i x old comma new whole l e before c n =
    ap (λ t. t ++ rest_from f xs (i + 1)) (n ∙ ap (λ t. t ++ compact_text (f x)) c)
    ∙ append_assoc (old ++ comma_if (nat_lt 0 i)) (compact_text (f x)) (rest_from f xs (i + 1))
    ∙ append_assoc old (comma_if (nat_lt 0 i)) (compact_text (f x) ++ rest_from f xs (i + 1))
    ∙ ap (λ t. old ++ t) (sym (here f xs i x l e))
    ∙ before

-- ---- floats
parts : {X : Type 0} (f : X → Data) (xs : List X) (i : ℕ) (x : X) → i < length xs → x ≡ get_or xs i x → items_have_float (items_of (map f (drop i xs))) ≡ false →
    (has_float (f x) ≡ false) × (items_have_float (items_of (map f (drop (i + 1) xs))) ≡ false)
parts f xs i x l e h = or_parts _ _ (subst (λ ys. items_have_float (items_of (map f ys)) ≡ false) (drop_here xs i x l e) h)

pub none_here : {X : Type 0} (f : X → Data) (xs : List X) (i : ℕ) (x : X) → i < length xs → x ≡ get_or xs i x → items_have_float (items_of (map f (drop i xs))) ≡ false →
    has_float (f x) ≡ false
none_here f xs i x l e h = (parts f xs i x l e h).0

pub none_next : {X : Type 0} (f : X → Data) (xs : List X) (i : ℕ) (x : X) → i < length xs → x ≡ get_or xs i x → items_have_float (items_of (map f (drop i xs))) ≡ false →
    items_have_float (items_of (map f (drop (i + 1) xs))) ≡ false
none_next f xs i x l e h = (parts f xs i x l e h).1
