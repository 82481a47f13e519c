-- Names of which none stands among those before it.
use Rattle.std.proofs.Common.{drop-cons, ◌≡◌, ℕ, suc, ◌+◌, ◌<◌, get_or, drop, length, map, arith, List, [], ◌∷◌, ◌++◌, Bool, true, false, cond, bytes_eq, refl, sym, ap, subst, append-nil, append_assoc}
use Rattle.std.proofs.lemmas.Slice.Eq.{bytes_eq-Decides}
use Rattle.hys_base.specs.Differ.{Apart, Differ}
use Rattle.hys_json.specs.Values.{is_one_of}
use Rattle.hys_sys.specs.declared.system.Column.{Column}
use Rattle.hys_file.specs.Reading.{column_name}

abbrev pub Fresh : List (List ℕ) → List (List ℕ) → Type 0
Fresh ns [] = Unit {0}
Fresh ns (m ∷ ms) = (is_one_of ns m ≡ false) × Fresh (ns ++ m ∷ []) ms

-- none of the second names is among the first
abbrev AreOthers : List (List ℕ) → List (List ℕ) → Type 0
AreOthers ns [] = Unit {0}
AreOthers ns (m ∷ ms) = (is_one_of ns m ≡ false) × AreOthers ns ms

last_is_one : (ns : List (List ℕ)) (m : List ℕ) → is_one_of (ns ++ m ∷ []) m ≡ true
last_is_one [] m = rw ((bytes_eq-Decides m m).1 refl) refl
last_is_one (n ∷ ns) m = go (bytes_eq n m) (last_is_one ns m)
  where
    go : (b : Bool) → is_one_of (ns ++ m ∷ []) m ≡ true → cond b true (is_one_of (ns ++ m ∷ []) m) ≡ true
    go true h = refl
    go false h = h

still_one : (ns : List (List ℕ)) (k m : List ℕ) → is_one_of ns m ≡ true → is_one_of (ns ++ k ∷ []) m ≡ true
still_one [] k m h = absurd (cc)
still_one (n ∷ ns) k m h = go (bytes_eq n m) h (still_one ns k m)
  where
    go : (b : Bool) → cond b true (is_one_of ns m) ≡ true → (is_one_of ns m ≡ true → is_one_of (ns ++ k ∷ []) m ≡ true) →
        cond b true (is_one_of (ns ++ k ∷ []) m) ≡ true
    go true h f = refl
    go false h f = f h

still_none : (ns : List (List ℕ)) (k m : List ℕ) → is_one_of ns m ≡ false → ¬ (m ≡ k) → is_one_of (ns ++ k ∷ []) m ≡ false
still_none [] k m h d = go (bytes_eq k m) refl
  where
    go : (b : Bool) → bytes_eq k m ≡ b → cond b true false ≡ false
    go true e = absurd (d (sym ((bytes_eq-Decides k m).0 e)))
    go false e = refl
still_none (n ∷ ns) k m h d = go (bytes_eq n m) h (λ g. still_none ns k m g d)
  where
    go : (b : Bool) → cond b true (is_one_of ns m) ≡ false → (is_one_of ns m ≡ false → is_one_of (ns ++ k ∷ []) m ≡ false) →
        cond b true (is_one_of (ns ++ k ∷ []) m) ≡ false
    go true h f = absurd (cc)
    go false h f = f h

apart_from : (ns ms : List (List ℕ)) (m : List ℕ) → is_one_of ns m ≡ true → Fresh ns ms → Apart m ms
apart_from ns [] m h f = tt
apart_from ns (k ∷ ms) m h f = (λ e. other (subst (λ t. is_one_of ns t ≡ false) e f.0), apart_from (ns ++ k ∷ []) ms m (still_one ns k m h) f.1)
  where
    other : is_one_of ns m ≡ false → ⊥
    other e = absurd (cc)

pub differ_fresh : (ns ms : List (List ℕ)) → Fresh ns ms → Differ ms
differ_fresh ns [] f = tt
differ_fresh ns (m ∷ ms) f = (apart_from (ns ++ m ∷ []) ms m (last_is_one ns m) f.1, differ_fresh (ns ++ m ∷ []) ms f.1)

pub fresh_append : (ns xs ys : List (List ℕ)) → Fresh ns xs → Fresh (ns ++ xs) ys → Fresh ns (xs ++ ys)
fresh_append ns [] ys f g = subst (λ t. Fresh t ys) (append-nil ns) g
fresh_append ns (x ∷ xs) ys f g = (f.0, fresh_append (ns ++ x ∷ []) xs ys f.1 (subst (λ t. Fresh t ys) (sym (append_assoc ns (x ∷ []) xs)) g))

pub fresh_front : (ns xs ys : List (List ℕ)) → Fresh ns (xs ++ ys) → Fresh ns xs
fresh_front ns [] ys f = tt
fresh_front ns (x ∷ xs) ys f = (f.0, fresh_front (ns ++ x ∷ []) xs ys f.1)

pub fresh_back : (ns xs ys : List (List ℕ)) → Fresh ns (xs ++ ys) → Fresh (ns ++ xs) ys
fresh_back ns [] ys f = subst (λ t. Fresh t ys) (sym (append-nil ns)) f
fresh_back ns (x ∷ xs) ys f = subst (λ t. Fresh t ys) (append_assoc ns (x ∷ []) xs) (fresh_back (ns ++ x ∷ []) xs ys f.1)

others_more : (ns : List (List ℕ)) (k : List ℕ) (ms : List (List ℕ)) → AreOthers ns ms → Apart k ms → AreOthers (ns ++ k ∷ []) ms
others_more ns k [] h a = tt
others_more ns k (m ∷ ms) h a = (still_none ns k m h.0 a.0, others_more ns k ms h.1 a.1)

fresh_others : (ns ms : List (List ℕ)) → AreOthers ns ms → Differ ms → Fresh ns ms
fresh_others ns [] h d = tt
fresh_others ns (m ∷ ms) h d = (h.0, fresh_others (ns ++ m ∷ []) ms (others_more ns m ms h.1 d.0) d.1)

others_of_none : (ms : List (List ℕ)) → AreOthers [] ms
others_of_none [] = tt
others_of_none (m ∷ ms) = (refl, others_of_none ms)

pub fresh_differ : (ms : List (List ℕ)) → Differ ms → Fresh [] ms
fresh_differ ms d = fresh_others [] ms (others_of_none ms) d

-- a name that is none of those before stays apart from them
pub differ_more : (ns new : List (List ℕ)) (m : List ℕ) → is_one_of ns m ≡ false → new ≡ ns ++ m ∷ [] → Differ ns → Differ new
differ_more ns new m n e d = subst Differ (sym e) (differ_fresh [] (ns ++ m ∷ []) (fresh_append [] ns (m ∷ []) (fresh_differ ns d) (n, tt)))

-- ---- the columns one after the other
from_here : (cs : List Column) (i : ℕ) (c : Column) (ns : List (List ℕ)) → i < length cs → c ≡ get_or cs i c → Fresh ns (map column_name (drop i cs)) →
    Fresh ns (c.name ∷ map column_name (drop (i + 1) cs))
from_here cs i c ns l e f = subst (λ ds. Fresh ns (map column_name ds)) here f
  where
    one_more : suc i ≡ i + 1
    one_more = omega arith

    here : drop i cs ≡ c ∷ drop (i + 1) cs
    here = rw (drop-cons cs i c l, ← e) (ap (λ (n : ℕ). c ∷ drop n cs) one_more)

pub next_is_new : (cs : List Column) (i : ℕ) (c : Column) (ns : List (List ℕ)) → i < length cs → c ≡ get_or cs i c → Fresh ns (map column_name (drop i cs)) → is_one_of ns c.name ≡ false
next_is_new cs i c ns l e f = (from_here cs i c ns l e f).0

pub next_fresh : (cs : List Column) (i : ℕ) (c : Column) (ns : List (List ℕ)) → i < length cs → c ≡ get_or cs i c → Fresh ns (map column_name (drop i cs)) →
    Fresh (ns ++ c.name ∷ []) (map column_name (drop (i + 1) cs))
next_fresh cs i c ns l e f = (from_here cs i c ns l e f).1
