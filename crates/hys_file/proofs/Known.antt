-- The names that a set of texts has.
use Rattle.std.proofs.Common.{◌≡◌, ℕ, List, [], ◌∷◌, ◌++◌, Bool, true, false, cond, ◌||◌, if◌then◌else◌, map, bytes_eq, String, Global, string_bytes, refl, sym, ◌∙◌, ap, subst}
use Rattle.std.specs.Prelude.{string_eq}
use Rattle.std.specs.List.{list_any}
use Rattle.std.proofs.lemmas.List.{map-append}
use Rattle.std.proofs.lemmas.Slice.Eq.{bytes_eq-Decides}
use Rattle.std.proofs.lemmas.Bool.Decides.{same_from_decides}
use Rattle.indexmap.specs.IndexSet.{insert_key}
use Rattle.hys_json.specs.Values.{is_one_of}

turned : (xs ys : List ℕ) → bytes_eq xs ys ≡ bytes_eq ys xs
turned xs ys = same_from_decides (bytes_eq xs ys) (bytes_eq ys xs) (bytes_eq-Decides xs ys) (
  λ e. sym ((bytes_eq-Decides ys xs).0 e),
  λ e. (bytes_eq-Decides ys xs).1 (sym e),
)

pub has_key : (ks : List (String Global)) (name : List ℕ) → list_any (λ (k : String Global). bytes_eq name (string_bytes k)) ks ≡ is_one_of (map string_bytes ks) name
has_key [] name = refl
has_key (k ∷ ks) name = ap (λ b. b || list_any (λ (k : String Global). bytes_eq name (string_bytes k)) ks) (turned name (string_bytes k)) ∙ go (bytes_eq (string_bytes k) name) (has_key ks name)
  where
    go : (b : Bool) → list_any (λ (k : String Global). bytes_eq name (string_bytes k)) ks ≡ is_one_of (map string_bytes ks) name →
        (b || list_any (λ (k : String Global). bytes_eq name (string_bytes k)) ks) ≡ cond b true (is_one_of (map string_bytes ks) name)
    go true h = refl
    go false h = h

pub added : (ks new : List (String Global)) (v : String Global) (name : List ℕ) → is_one_of (map string_bytes ks) name ≡ false → string_bytes v ≡ name →
    new ≡ insert_key string_eq ks v → map string_bytes new ≡ map string_bytes ks ++ name ∷ []
added ks new v name h e i =
    ap (map string_bytes) i
    ∙ go (list_any (string_eq v) ks) (has_key ks (string_bytes v) ∙ subst (λ n. is_one_of (map string_bytes ks) n ≡ false) (sym e) h)
  where
    go : (b : Bool) → b ≡ false → map string_bytes (if b then ks else ks ++ v ∷ []) ≡ map string_bytes ks ++ name ∷ []
    go true f = absurd (cc)
    go false f = map-append string_bytes ks (v ∷ []) ∙ ap (λ n. map string_bytes ks ++ n ∷ []) e
