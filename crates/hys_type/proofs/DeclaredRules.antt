-- The checks of declared names pass exactly where they differ and aren't too many.
use Rattle.std.proofs.Common.{◌≡◌, ℕ, ◌+◌, ◌≤◌, ◌<◌, List, [], ◌∷◌, ◌++◌, Bool, true, false, ◌||◌, ◌&&◌, not, length, nat_lt, refl, ◌∙◌, ap, ap₂, arith, ◌↔◌}
use Rattle.std.specs.Prelude.{IsTrue}
use Rattle.std.specs.Str.{bytes_eq}
use Rattle.std.specs.List.{AllByRecursion, list_any}
use Rattle.std.proofs.lemmas.List.{length-append}
use Rattle.hys_ast.specs.Tree.{Decl}
use Rattle.hys_meaning.specs.Typed.{differ}
use Rattle.hys_type.specs.Declarations.{name_checks}
use Rattle.hys_type.specs.Walks.{walk}
use Rattle.hys_type.proofs.KnownValues.{same_text, own_text, declared_texts}
use Rattle.hys_type.proofs.Passing.{Pass, EachPasses, walk_passes, passes_walk}

-- ---- a text among others
abbrev IsNew : List ℕ → List Decl → Type 0
IsNew n ds = list_any (λ (m : Decl). bytes_eq n m.name) ds ≡ false

turned : (m n : List ℕ) → bytes_eq m n ≡ false → bytes_eq n m ≡ false
turned m n h = go (bytes_eq n m) refl
  where
    go : (b : Bool) → bytes_eq n m ≡ b → b ≡ false
    go false e = refl
    go true e = let s : bytes_eq m n ≡ true = ap (bytes_eq m) (same_text n m e) ∙ own_text m in absurd (cc)

either_false : (a b : Bool) → a || b ≡ false → (a ≡ false) × (b ≡ false)
either_false false b h = (refl, h)
either_false true b h = absurd (cc)

is_not : (b : Bool) → not b ≡ true → b ≡ false
is_not false h = refl
is_not true h = absurd (cc)

new_front : (n : List ℕ) (xs ys : List Decl) → IsNew n (xs ++ ys) → IsNew n xs × IsNew n ys
new_front n [] ys h = (refl, h)
new_front n (x ∷ xs) ys h =
    let e = either_false (bytes_eq n x.name) (list_any (λ (m : Decl). bytes_eq n m.name) (xs ++ ys)) h in
    let r = new_front n xs ys e.1 in (ap₂ (λ (a b : Bool). a || b) e.0 r.0, r.1)

new_join : (n : List ℕ) (xs ys : List Decl) → IsNew n xs → IsNew n ys → IsNew n (xs ++ ys)
new_join n [] ys h k = k
new_join n (x ∷ xs) ys h k =
    let e = either_false (bytes_eq n x.name) (list_any (λ (m : Decl). bytes_eq n m.name) xs) h in
    ap₂ (λ (a b : Bool). a || b) e.0 (new_join n xs ys e.1 k)

-- ---- each name differs from those before it
abbrev AreNew : List Decl → List Decl → Type 0
AreNew before ds = AllByRecursion (λ (d : Decl). IsNew d.name before) ds

later_differ : (n : List ℕ) (d : Decl) (before ds : List Decl) → n ≡ d.name → AreNew (before ++ d ∷ []) ds → AreNew before ds × (list_any (bytes_eq n) (declared_texts ds) ≡ false)
later_differ n d before [] e h = (tt, refl)
later_differ n d before (x ∷ ds) e h =
    let f = new_front x.name before (d ∷ []) h.0 in
    let r = later_differ n d before ds e h.1 in
    let t : bytes_eq n x.name ≡ false = ap (λ m. bytes_eq m x.name) e ∙ turned x.name d.name (either_false (bytes_eq x.name d.name) false f.1).0 in
    ((f.0, r.0), ap₂ (λ (a b : Bool). a || b) t r.1)

differ_later : (d : Decl) (before ds : List Decl) → AreNew before ds → list_any (bytes_eq d.name) (declared_texts ds) ≡ false → AreNew (before ++ d ∷ []) ds
differ_later d before [] h e = tt
differ_later d before (x ∷ ds) h e =
    let f = either_false (bytes_eq d.name x.name) (list_any (bytes_eq d.name) (declared_texts ds)) e in
    (new_join x.name before (d ∷ []) h.0 (ap (λ (b : Bool). b || false) (turned d.name x.name f.0)), differ_later d before ds h.1 f.1)

under : (n : ℕ) → nat_lt n 200 ≡ true → n < 200
under n h = grind arith

is_under : (n : ℕ) → n < 200 → nat_lt n 200 ≡ true
is_under n l = grind arith

names_there : (before ds : List Decl) → length before ≤ 200 → EachPasses name_checks before ds → AreNew before ds × (differ (declared_texts ds) ≡ true) × (length before + length ds ≤ 200)
names_there before [] l h = (tt, refl, omega (arith, l))
names_there before (d ∷ ds) l h =
    let u : length before < 200 = under (length before) h.0.1.0 in
    let m : length (before ++ d ∷ []) ≡ length before + 1 = length-append before (d ∷ []) in
    let r = names_there (before ++ d ∷ []) ds (omega (arith, m, u)) h.1 in
    let f = later_differ d.name d before ds refl r.0 in
    ((is_not (list_any (λ (m : Decl). bytes_eq d.name m.name) before) h.0.0, f.0), ap₂ (λ (a b : Bool). not a && b) f.1 r.1, omega (arith, m, r.2))

both_hold : (a b : Bool) → not a && b ≡ true → (a ≡ false) × (b ≡ true)
both_hold false b h = (refl, h)
both_hold true b h = absurd (cc)

names_back : (before ds : List Decl) → AreNew before ds → differ (declared_texts ds) ≡ true → length before + length ds ≤ 200 → EachPasses name_checks before ds
names_back before [] n d l = tt
names_back before (d ∷ ds) n h l =
    let e = both_hold (list_any (bytes_eq d.name) (declared_texts ds)) (differ (declared_texts ds)) h in
    let m : length (before ++ d ∷ []) ≡ length before + 1 = length-append before (d ∷ []) in
    ((ap not n.0, (is_under (length before) (omega (arith, l)), tt)), names_back (before ++ d ∷ []) ds (differ_later d before ds n.1 e.0) e.1 (omega (arith, m, l)))

all_new : (ds : List Decl) → AreNew [] ds
all_new [] = tt
all_new (d ∷ ds) = (refl, all_new ds)

pub names_rule : (ds : List Decl) → Pass (walk name_checks [] ds) ↔ (IsTrue (differ (declared_texts ds)) × (length ds ≤ 200))
names_rule ds = (λ h. let r = names_there [] ds (omega arith) (walk_passes name_checks [] ds h) in (r.1, omega (arith, r.2)), λ h. passes_walk name_checks [] ds (names_back [] ds (all_new ds) h.0 (omega (arith, h.1))))
