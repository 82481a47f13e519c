-- Where a declared name stands, and the set of the texts.
use Rattle.std.proofs.Common.{◌≡◌, ℕ, suc, zero, ◌+◌, ◌<◌, ◌≤◌, List, [], ◌∷◌, ◌++◌, Some, None, Bool, true, false, not, ◌||◌, ◌&&◌, cond, if◌then◌else◌, map, take, set, replicate, length, get_or, nat_lt, String, Global, string_bytes, refl, sym, ◌∙◌, ap, ap₂, arith}
use Rattle.std.specs.Prelude.{string_eq}
use Rattle.std.specs.Str.{bytes_eq}
use Rattle.std.specs.List.{list_any, position, position_or_len}
use Rattle.std.proofs.lemmas.List.{map-append, length-map}
use Rattle.std.proofs.lemmas.Slice.Eq.{bytes_eq-Decides}
use Rattle.std.proofs.lemmas.Bool.Decides.{same_from_decides}
use Rattle.indexmap.specs.IndexSet.{insert_key}
use Rattle.hys_number.specs.Number.{Number}
use Rattle.hys_number.specs.Ops.{whole}
use Rattle.hys_ast.specs.Tree.{Decl}
use Rattle.hys_meaning.specs.Names.{Name, look}
use Rattle.hys_meaning.specs.Typed.{differ}
use Rattle.hys_type.specs.Operands.{seen}
use Rattle.hys_type.specs.Translation.{place_in}
use Rattle.hys_type.specs.Indexed.{texts, AreTexts}
use Rattle.hys_type.specs.Made.{declared}
use Rattle.hys_type.specs.declared.constant.Known.{Known}
use Rattle.hys_type.specs.declared.scope.Declared.{Declared}
use Rattle.hys_type.proofs.Walks.{longer}

-- ---- texts
turned : (xs ys : List ℕ) → bytes_eq xs ys ≡ bytes_eq ys xs
turned xs ys = same_from_decides (bytes_eq xs ys) (bytes_eq ys xs) (bytes_eq-Decides xs ys) (
  λ e. sym ((bytes_eq-Decides ys xs).0 e),
  λ e. (bytes_eq-Decides ys xs).1 (sym e),
)

none_first : (n m : List ℕ) (ns : List (List ℕ)) → list_any (bytes_eq n) (m ∷ ns) ≡ false → (bytes_eq n m ≡ false) × (list_any (bytes_eq n) ns ≡ false)
none_first n m ns h = go (bytes_eq n m) (list_any (bytes_eq n) ns) h
  where
    go : (a b : Bool) → a || b ≡ false → (a ≡ false) × (b ≡ false)
    go true b h = absurd (cc)
    go false b h = (refl, h)

differ_first : (n : List ℕ) (ns : List (List ℕ)) → differ (n ∷ ns) ≡ true → (list_any (bytes_eq n) ns ≡ false) × (differ ns ≡ true)
differ_first n ns h = go (list_any (bytes_eq n) ns) (differ ns) h
  where
    go : (a b : Bool) → not a && b ≡ true → (a ≡ false) × (b ≡ true)
    go true b h = absurd (cc)
    go false b h = (refl, h)

-- ---- the set
others_at : (n : List ℕ) (ds : List Declared) (i : ℕ) (d : Declared) → list_any (bytes_eq n) (texts ds) ≡ false → i < length ds → d ≡ get_or ds i d → bytes_eq n d.text ≡ false
others_at n [] i d h l e = absurd (omega (arith, l))
others_at n (x ∷ ds) zero d h l e = ap (λ (y : Declared). bytes_eq n y.text) e ∙ (none_first n x.text (texts ds) h).0
others_at n (x ∷ ds) (suc i) d h l e = others_at n ds i d (none_first n x.text (texts ds) h).1 (omega (arith, l)) e

none_before : (ds : List Declared) (i : ℕ) (d : Declared) → differ (texts ds) ≡ true → i < length ds → d ≡ get_or ds i d → list_any (bytes_eq d.text) (texts (take i ds)) ≡ false
none_before [] i d h l e = absurd (omega (arith, l))
none_before (x ∷ ds) zero d h l e = refl
none_before (x ∷ ds) (suc i) d h l e =
    let f = differ_first x.text (texts ds) h in
    ap₂ (λ (a b : Bool). a || b) (turned d.text x.text ∙ others_at x.text ds i d f.0 (omega (arith, l)) e) (none_before ds i d f.1 (omega (arith, l)) e)

has_text : (ks : List (String Global)) (v : String Global) → list_any (string_eq v) ks ≡ list_any (bytes_eq (string_bytes v)) (map string_bytes ks)
has_text [] v = refl
has_text (k ∷ ks) v = ap (λ b. bytes_eq (string_bytes v) (string_bytes k) || b) (has_text ks v)

-- the text at a place is none of those before it, so it is put behind them
pub text_put : (ds : List Declared) (i : ℕ) (d : Declared) (ks new : List (String Global)) (v : String Global) (n : List ℕ) → differ (texts ds) ≡ true → i < length ds → d ≡ get_or ds i d →
    map string_bytes ks ≡ texts (take i ds) → n ≡ d.text → string_bytes v ≡ n → new ≡ insert_key string_eq ks v → map string_bytes new ≡ texts (take (i + 1) ds)
text_put ds i d ks new v n h l e m o w p =
    let t : string_bytes v ≡ d.text = w ∙ o in
    ap (map string_bytes) p
    ∙ go (list_any (string_eq v) ks) (has_text ks v ∙ ap₂ (λ x xs. list_any (bytes_eq x) xs) t m ∙ none_before ds i d h l e)
    ∙ ap₂ (λ x xs. xs ++ x ∷ []) t m ∙ sym (longer (λ (x : Declared). x.text) ds i d l e)
  where
    go : (b : Bool) → b ≡ false → map string_bytes (if b then ks else ks ++ v ∷ []) ≡ map string_bytes ks ++ string_bytes v ∷ []
    go true f = absurd (cc)
    go false f = map-append string_bytes ks (v ∷ [])

-- ---- places
place_of : (ds : List Declared) (ks : List (String Global)) (n : List ℕ) → map string_bytes ks ≡ texts ds → position_or_len (λ (k : String Global). bytes_eq n (string_bytes k)) ks ≡ place_in (map seen ds) n
place_of [] [] n e = refl
place_of [] (k ∷ ks) n e = absurd (cc)
place_of (d ∷ ds) [] n e = absurd (cc)
place_of (d ∷ ds) (k ∷ ks) n e =
    let f : string_bytes k ≡ d.text = cc in
    let g : map string_bytes ks ≡ texts ds = cc in
    ap (λ b. cond (not b) (1 + position_or_len (λ (k : String Global). bytes_eq n (string_bytes k)) ks) 0) (ap (bytes_eq n) f ∙ turned n d.text) ∙ go (bytes_eq d.text n) (place_of ds ks n g)
  where
    go : (b : Bool) → {i j : ℕ} → i ≡ j → cond (not b) (1 + i) 0 ≡ cond b 0 (suc j)
    go true h = refl
    go false h = omega (arith, h)

pub place_within : (ds : List Declared) (n : List ℕ) → place_in (map seen ds) n ≤ length ds
place_within [] n = omega arith
place_within (d ∷ ds) n = go (bytes_eq d.text n) (place_within ds n)
  where
    go : (b : Bool) → {i : ℕ} → i ≤ length ds → cond b 0 (suc i) ≤ suc (length ds)
    go true h = omega arith
    go false h = omega (arith, h)

pub place_found : (ds : List Declared) (ks : List (String Global)) (n : List ℕ) (i : ℕ) → AreTexts ds ks → Some i ≡ position (λ (k : String Global). bytes_eq n (string_bytes k)) ks → i ≡ place_in (map seen ds) n
place_found ds ks n i h e = go (nat_lt (position_or_len (λ (k : String Global). bytes_eq n (string_bytes k)) ks) (length ks)) e ∙ place_of ds ks n h.same
  where
    go : (b : Bool) → {j : ℕ} → Some i ≡ cond b (Some j) None → i ≡ j
    go true e = cc
    go false e = absurd (cc)

pub none_found : (ds : List Declared) (ks : List (String Global)) (n : List ℕ) → AreTexts ds ks → None ≡ position (λ (k : String Global). bytes_eq n (string_bytes k)) ks → length ds ≡ place_in (map seen ds) n
none_found ds ks n h e =
    let p = position_or_len (λ (k : String Global). bytes_eq n (string_bytes k)) ks in
    let l : length ks ≡ length ds = sym (length-map ks string_bytes) ∙ ap length h.same ∙ length-map ds (λ (d : Declared). d.text) in
    let a : p ≡ place_in (map seen ds) n = place_of ds ks n h.same in
    let b : length ks ≤ p = beyond p (length ks) (go (nat_lt p (length ks)) p e) in
    omega (arith, l, a, b, place_within ds n)
  where
    go : (b : Bool) (j : ℕ) → None ≡ cond b (Some j) None → b ≡ false
    go true j e = absurd (cc)
    go false j e = refl

    beyond : (i j : ℕ) → nat_lt i j ≡ false → j ≤ i
    beyond i j h = grind arith

-- ---- the name at a place
pub name_at : (ds : List Declared) (n : List ℕ) (i : ℕ) (d : Declared) → i ≡ place_in (map seen ds) n → i < length ds → d ≡ get_or ds i d → look (map seen ds) n ≡ Some (seen d)
name_at [] n i d p l e = absurd (omega (arith, l))
name_at (x ∷ ds) n i d p l e = go (bytes_eq x.text n) i p l e (name_at ds n)
  where
    go : (b : Bool) (i : ℕ) → i ≡ cond b 0 (suc (place_in (map seen ds) n)) → i < suc (length ds) → d ≡ get_or (x ∷ ds) i d →
        ((i : ℕ) (d : Declared) → i ≡ place_in (map seen ds) n → i < length ds → d ≡ get_or ds i d → look (map seen ds) n ≡ Some (seen d)) → cond b (Some (seen x)) (look (map seen ds) n) ≡ Some (seen d)
    go true i p l e k = ap (λ y. Some (seen y)) (sym (e ∙ ap (λ j. get_or (x ∷ ds) j d) p))
    go false zero p l e k = absurd (omega (arith, p))
    go false (suc i) p l e k = k i d (omega (arith, p)) (omega (arith, l)) e

pub no_name : (ds : List Declared) (n : List ℕ) (i : ℕ) → i ≡ place_in (map seen ds) n → length ds ≤ i → look (map seen ds) n ≡ None
no_name [] n i p l = refl
no_name (x ∷ ds) n i p l = go (bytes_eq x.text n) p (no_name ds n (place_in (map seen ds) n) refl)
  where
    go : (b : Bool) → i ≡ cond b 0 (suc (place_in (map seen ds) n)) → (length ds ≤ place_in (map seen ds) n → look (map seen ds) n ≡ None) → cond b (Some (seen x)) (look (map seen ds) n) ≡ None
    go true p k = absurd (omega (arith, p, l))
    go false p k = k (omega (arith, p, l))

-- ---- forms
pub each_number : (ds : List Declared) (a : Number) → replicate (length ds) a ≡ map (λ (n : Name). a) (map seen ds)
each_number [] a = refl
each_number (d ∷ ds) a = ap (λ xs. a ∷ xs) (each_number ds a)

abbrev unit : List ℕ → Name → Number
unit n m = cond (bytes_eq n m.text) (whole 1) (whole 0)

no_unit : (ds : List Declared) (n : List ℕ) → list_any (bytes_eq n) (texts ds) ≡ false → replicate (length ds) (whole 0) ≡ map (unit n) (map seen ds)
no_unit [] n h = refl
no_unit (d ∷ ds) n h =
    let f = none_first n d.text (texts ds) h in
    ap₂ (λ x xs. x ∷ xs) (sym (ap (λ b. cond b (whole 1) (whole 0)) f.0)) (no_unit ds n f.1)

pub one_number : (ds : List Declared) (n : List ℕ) → differ (texts ds) ≡ true → set (replicate (length ds) (whole 0)) (place_in (map seen ds) n) (whole 1) ≡ map (unit n) (map seen ds)
one_number [] n h = refl
one_number (d ∷ ds) n h =
    let f = differ_first d.text (texts ds) h in
    go (bytes_eq d.text n) refl f.0 (one_number ds n f.1)
  where
    zeros : List Number
    zeros = replicate (length ds) (whole 0)

    go : (b : Bool) → bytes_eq d.text n ≡ b → list_any (bytes_eq d.text) (texts ds) ≡ false → set zeros (place_in (map seen ds) n) (whole 1) ≡ map (unit n) (map seen ds) →
        set (whole 0 ∷ zeros) (cond b 0 (suc (place_in (map seen ds) n))) (whole 1) ≡ unit n (seen d) ∷ map (unit n) (map seen ds)
    go true e h w =
        ap₂ (λ x xs. x ∷ xs) (sym (ap (λ b. cond b (whole 1) (whole 0)) (turned n d.text ∙ e)))
        (no_unit ds n (ap (λ x. list_any (bytes_eq x) (texts ds)) (sym ((bytes_eq-Decides d.text n).0 e)) ∙ h))
    go false e h w = ap₂ (λ x xs. x ∷ xs) (sym (ap (λ b. cond b (whole 1) (whole 0)) (turned n d.text ∙ e))) w

-- ---- declarations
same_texts : (ks : List Known) (ds : List Decl) → texts (map (declared ks) ds) ≡ map (λ (d : Decl). d.name) ds
same_texts ks [] = refl
same_texts ks (d ∷ ds) = ap (λ xs. d.name ∷ xs) (same_texts ks ds)

pub declared_once : (ks : List Known) (ds : List Decl) (xs : List Declared) → differ (map (λ (d : Decl). d.name) ds) ≡ true → xs ≡ map (declared ks) ds → differ (texts xs) ≡ true
declared_once ks ds xs h e = ap (λ ys. differ (texts ys)) e ∙ ap differ (same_texts ks ds) ∙ h
