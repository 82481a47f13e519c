-- Assignments to texts and to places that give each declared name the same number.
use Rattle.std.proofs.Common.{◌≡◌, ℕ, zero, suc, ◌+◌, ◌<◌, List, [], ◌∷◌, Some, None, Bool, true, false, map, cond, get_or, length, refl, sym, ◌∙◌, ap, subst, arith}
use Rattle.std.specs.Str.{bytes_eq}
use Rattle.std.specs.List.{AllByRecursion}
use Rattle.hys_number.specs.Ops.{whole}
use Rattle.hys_base.specs.Differ.{Apart, Differ}
use Rattle.hys_lin.specs.Sums.{Assignment as PlaceAssignment}
use Rattle.hys_meaning.specs.Values.{Assignment}
use Rattle.hys_meaning.specs.Names.{Name, look}
use Rattle.hys_type.specs.Translation.{place_in}
use Rattle.hys_type.specs.Views.{by_places, by_texts}
use Rattle.hys_type.proofs.KnownValues.{same_text, own_text, other_text}

abbrev pub texts_of : List Name → List (List ℕ)
texts_of ns = map (λ n. n.text) ns

-- from the place k on
abbrev pub Agree : ℕ → List Name → Assignment → PlaceAssignment → Type 0
Agree k [] w v = Unit {0}
Agree k (n ∷ ns) w v = (v k ≡ w n.text) × Agree (suc k) ns w v

-- ---- by places
agree_from : (k : ℕ) (ns : List Name) (w : Assignment) (v : PlaceAssignment) → ((j : ℕ) → v (k + j) ≡ get_or (map (λ (n : Name). w n.text) ns) j (whole 0)) → Agree k ns w v
agree_from k [] w v h = tt
agree_from k (n ∷ ns) w v h = (
  subst (λ i. v i ≡ w n.text) (omega arith) (h 0),
  agree_from (suc k) ns w v (λ j. subst (λ i. v i ≡ get_or (map (λ (n : Name). w n.text) ns) j (whole 0)) (omega arith) (h (suc j))),
)

pub agree_places : (ns : List Name) (w : Assignment) → Agree 0 ns w (by_places ns w)
agree_places ns w = agree_from 0 ns w (by_places ns w) (λ j. ap (by_places ns w) (omega arith))

-- ---- by texts
-- each text has its place, from k on
abbrev pub Placed : ℕ → List Name → (List ℕ → ℕ) → Type 0
Placed k [] f = Unit {0}
Placed k (n ∷ ns) f = (f n.text ≡ k) × Placed (suc k) ns f

placed_later : (k : ℕ) (t : List ℕ) (ns : List Name) (f : List ℕ → ℕ) → Apart t (texts_of ns) → Placed k ns f → Placed (suc k) ns (λ m. cond (bytes_eq t m) 0 (suc (f m)))
placed_later k t [] f a h = tt
placed_later k t (n ∷ ns) f a h = (ap (λ b. cond b 0 (suc (f n.text))) (other_text t n.text (λ e. a.0 (sym e))) ∙ ap suc h.0, placed_later (suc k) t ns f a.1 h.1)

pub placed : (ns : List Name) → Differ (texts_of ns) → Placed 0 ns (place_in ns)
placed [] h = tt
placed (n ∷ ns) h = (ap (λ b. cond b 0 (suc (place_in ns n.text))) (own_text n.text), placed_later 0 n.text ns (place_in ns) h.0 (placed ns h.1))

agree_placed : (k : ℕ) (ns : List Name) (f : List ℕ → ℕ) (v : PlaceAssignment) → Placed k ns f → Agree k ns (λ n. v (f n)) v
agree_placed k [] f v h = tt
agree_placed k (n ∷ ns) f v h = (ap v (sym h.0), agree_placed (suc k) ns f v h.1)

pub agree_texts : (ns : List Name) (v : PlaceAssignment) → Differ (texts_of ns) → Agree 0 ns (by_texts ns v) v
agree_texts ns v h = agree_placed 0 ns (place_in ns) v (placed ns h)

-- ---- a declared name
pub found_place : (k : ℕ) (ns : List Name) (w : Assignment) (v : PlaceAssignment) (n : List ℕ) (m : Name) (j : ℕ) → Agree k ns w v → look ns n ≡ Some m → j ≡ k + place_in ns n → v j ≡ w n
found_place k [] w v n m j a h e = absurd (cc)
found_place k (x ∷ ns) w v n m j a h e = go (bytes_eq x.text n) refl h e (found_place (suc k) ns w v n m j a.1)
  where
    go : (b : Bool) → bytes_eq x.text n ≡ b → cond b (Some x) (look ns n) ≡ Some m → j ≡ k + cond b 0 (suc (place_in ns n)) → (look ns n ≡ Some m → j ≡ suc k + place_in ns n → v j ≡ w n) → v j ≡ w n
    go true i h e f = let l : j ≡ k = omega (arith, e) in ap v l ∙ a.0 ∙ ap w (same_text x.text n i)
    go false i h e f = f h (omega (arith, e))

pub at_place : (ns : List Name) (w : Assignment) (v : PlaceAssignment) (n : List ℕ) (m : Name) → Agree 0 ns w v → look ns n ≡ Some m → v (place_in ns n) ≡ w n
at_place ns w v n m a h = found_place 0 ns w v n m (place_in ns n) a h (omega arith)

pub some_name : (x m : Name) → Some x ≡ Some m → x ≡ m
some_name x m e = ap (λ o. elim o as (λ o. Name) [ Some y ↦ y | None ↦ x ]) e

pub found_name : (P : Name → Type 0) (ns : List Name) (n : List ℕ) (m : Name) → AllByRecursion P ns → look ns n ≡ Some m → P m × (m.text ≡ n)
found_name P [] n m h e = absurd (cc)
found_name P (x ∷ ns) n m h e = go (bytes_eq x.text n) refl e (found_name P ns n m h.1)
  where
    go : (b : Bool) → bytes_eq x.text n ≡ b → cond b (Some x) (look ns n) ≡ Some m → (look ns n ≡ Some m → P m × (m.text ≡ n)) → P m × (m.text ≡ n)
    go true i e f = let s : x ≡ m = some_name x m e in (subst P s h.0, sym (ap (λ (y : Name). y.text) s) ∙ same_text x.text n i)
    go false i e f = f e

-- ---- there and back
pub texts_again : (ns : List Name) (w : Assignment) (n : List ℕ) (m : Name) → look ns n ≡ Some m → by_texts ns (by_places ns w) n ≡ w n
texts_again ns w n m h = at_place ns w (by_places ns w) n m (agree_places ns w) h

placed_again : (j : ℕ) (ns : List Name) (f : List ℕ → ℕ) (v : PlaceAssignment) → Placed j ns f → (k i : ℕ) → i ≡ j + k → k < length ns → get_or (map (λ (n : Name). v (f n.text)) ns) k (whole 0) ≡ v i
placed_again j [] f v h k i e l = absurd (omega (arith, l))
placed_again j (n ∷ ns) f v h zero i e l = ap v (h.0 ∙ omega (arith, e))
placed_again j (n ∷ ns) f v h (suc k) i e l = placed_again (suc j) ns f v h.1 k i (omega (arith, e)) (omega (arith, l))

pub places_again : (ns : List Name) (v : PlaceAssignment) (k : ℕ) → Differ (texts_of ns) → k < length ns → by_places ns (by_texts ns v) k ≡ v k
places_again ns v k d l = placed_again 0 ns (place_in ns) v (placed ns d) k k (omega arith) l
