-- The names of a built system's columns and outputs differ.
use Rattle.std.proofs.Common.{◌≡◌, ℕ, zero, suc, ◌+◌, ◌^◌, ◌<◌, ◌≤◌, List, [], ◌∷◌, ◌++◌, Bool, true, false, cond, ◌&&◌, not, get_or, map, refl, sym, ◌∙◌, ap, arith, subst, inl, inr, ◌⊎◌}
use Rattle.std.specs.List.{AllByRecursion, All}
use Rattle.std.specs.Fmt.{decimal}
use Rattle.std.proofs.lemmas.Fmt.{decimal_injective}
use Rattle.std.proofs.lemmas.List.Elements.{All-head, All-tail}
use Rattle.hys_base.specs.Differ.{Apart, Differ}
use Rattle.hys_lex.specs.Bytes.{is_letter}
use Rattle.hys_prog.specs.declared.program.Role.{Role}
use Rattle.hys_prog.specs.declared.program.Role.TheVariants.{State, Input, Output, Parameter, Aux}
use Rattle.hys_ast.specs.declared.source.Kind.{Kind}
use Rattle.hys_ast.specs.declared.source.Kind.TheVariants as source
use Rattle.hys_prog.specs.declared.program.Name.{Name}
use Rattle.hys_prog.specs.Programs.{text_of, IsNameText}
use Rattle.hys_prog.specs.Steps.{is_state, is_input, is_output, is_auxiliary}
use Rattle.hys_sys.specs.Exact.{Variable, fresh_name, fresh_variables}
use Rattle.hys_exact.specs.Columns.{of_each, is_state_name, is_input_name, is_boolean, is_boolean_auxiliary, is_real_auxiliary}
use Rattle.hys_exact.specs.Built.{is_output_name}
use Rattle.hys_exact.proofs.Names.{Stands}

-- ---- lists of texts
apart_append : (t : List ℕ) (xs ys : List (List ℕ)) → Apart t xs → Apart t ys → Apart t (xs ++ ys)
apart_append t [] ys a b = b
apart_append t (x ∷ xs) ys a b = (a.0, apart_append t xs ys a.1 b)

-- a text of which each has P, beside texts of which each has Q
apart_by : (Q : List ℕ → Type 0) (t : List ℕ) (ys : List (List ℕ)) → AllByRecursion Q ys → ((y : List ℕ) → Q y → y ≡ t → ⊥) → Apart t ys
apart_by Q t [] h f = tt
apart_by Q t (y ∷ ys) h f = (f y h.0, apart_by Q t ys h.1 f)

differ_append : (P Q : List ℕ → Type 0) (xs ys : List (List ℕ)) → AllByRecursion P xs → AllByRecursion Q ys → ((x y : List ℕ) → P x → Q y → y ≡ x → ⊥) → Differ xs → Differ ys → Differ (xs ++ ys)
differ_append P Q [] ys p q f d e = e
differ_append P Q (x ∷ xs) ys p q f d e = (apart_append x xs ys d.0 (apart_by Q x ys q (λ y h. f x y p.0 h)), differ_append P Q xs ys p.1 q f d.1 e)

all_append : (P : List ℕ → Type 0) (xs ys : List (List ℕ)) → AllByRecursion P xs → AllByRecursion P ys → AllByRecursion P (xs ++ ys)
all_append P [] ys a b = b
all_append P (x ∷ xs) ys a b = (a.0, all_append P xs ys a.1 b)

all_weaker : (P Q : List ℕ → Type 0) (xs : List (List ℕ)) → ((x : List ℕ) → P x → Q x) → AllByRecursion P xs → AllByRecursion Q xs
all_weaker P Q [] f h = tt
all_weaker P Q (x ∷ xs) f h = (f x h.0, all_weaker P Q xs f h.1)

-- ---- the texts of names that pass a test
abbrev pub texts_of : (Name → Bool) → ℕ → List Name → List (List ℕ)
texts_of t k xs = of_each t (λ n x. x.text) k xs

apart_kept : (text : List ℕ) (t : Name → Bool) (k : ℕ) (xs : List Name) → Apart text (map text_of xs) → Apart text (texts_of t k xs)
apart_kept text t k [] h = tt
apart_kept text t k (x ∷ xs) h = go (t x) (apart_kept text t (suc k) xs h.1)
  where
    go : (b : Bool) → Apart text (texts_of t (suc k) xs) → Apart text (cond b (x.text ∷ texts_of t (suc k) xs) (texts_of t (suc k) xs))
    go true r = (h.0, r)
    go false r = r

pub differ_kept : (t : Name → Bool) (k : ℕ) (xs : List Name) → Differ (map text_of xs) → Differ (texts_of t k xs)
differ_kept t k [] h = tt
differ_kept t k (x ∷ xs) h = go (t x) (differ_kept t (suc k) xs h.1)
  where
    go : (b : Bool) → Differ (texts_of t (suc k) xs) → Differ (cond b (x.text ∷ texts_of t (suc k) xs) (texts_of t (suc k) xs))
    go true r = (apart_kept x.text t (suc k) xs h.0, r)
    go false r = r

-- the text of a name that passes a test
pub record IsTextOf (names : List Name) (P : Name → Type 0) (text : List ℕ) : Type 0 where
  pub place : ℕ
  pub name : Name
  pub stands : Stands names place name
  pub passes : P name
  pub is : text ≡ name.text

texts_pass : (names : List Name) (P : Name → Type 0) (t : Name → Bool) → ((x : Name) → t x ≡ true → P x) → (k : ℕ) (xs : List Name) → ((j : ℕ) (x : Name) → Stands xs j x → Stands names (k + j) x) → AllByRecursion (IsTextOf names P) (texts_of t k xs)
texts_pass names P t f k [] h = tt
texts_pass names P t f k (x ∷ xs) h = go (t x) refl (texts_pass names P t f (suc k) xs (λ j y s. let e : k + suc j ≡ suc k + j = omega arith in subst (λ (i : ℕ). Stands names i y) e (h (suc j) y s)))
  where
    go : (b : Bool) → t x ≡ b → AllByRecursion (IsTextOf names P) (texts_of t (suc k) xs) → AllByRecursion (IsTextOf names P) (cond b (x.text ∷ texts_of t (suc k) xs) (texts_of t (suc k) xs))
    go true e r = (record { place = k + 0; name = x; stands = h 0 x refl; passes = f x e; is = refl }, r)
    go false e r = r

pub all_texts : (names : List Name) (P : Name → Type 0) (t : Name → Bool) → ((x : Name) → t x ≡ true → P x) → AllByRecursion (IsTextOf names P) (texts_of t 0 names)
all_texts names P t f = texts_pass names P t f 0 names (λ j x s. let e : 0 + j ≡ j = omega arith in rw e s)

apart_stands : (names : List Name) (n : ℕ) (x z : Name) → Apart z.text (map text_of names) → Stands names n x → x.text ≡ z.text → ⊥
apart_stands [] n x z a s e = s
apart_stands (y ∷ ys) zero x z a s e = a.0 (ap text_of (sym s) ∙ e)
apart_stands (y ∷ ys) (suc n) x z a s e = apart_stands ys n x z a.1 s e

-- names with one text are one name
same_place : (names : List Name) (n m : ℕ) (x y : Name) → Differ (map text_of names) → Stands names n x → Stands names m y → x.text ≡ y.text → x ≡ y
same_place [] n m x y d s r e = absurd s
same_place (z ∷ zs) zero zero x y d s r e = s ∙ sym r
same_place (z ∷ zs) zero (suc m) x y d s r e = absurd (apart_stands zs m y z d.0 r (sym e ∙ ap text_of s))
same_place (z ∷ zs) (suc n) zero x y d s r e = absurd (apart_stands zs n x z d.0 s (e ∙ ap text_of r))
same_place (z ∷ zs) (suc n) (suc m) x y d s r e = same_place zs n m x y d.1 s r e

-- texts of names that pass tests of which no name passes both
texts_apart : (names : List Name) (P Q : Name → Type 0) → Differ (map text_of names) → ((x : Name) → P x → Q x → ⊥) → (a b : List ℕ) → IsTextOf names P a → IsTextOf names Q b → b ≡ a → ⊥
texts_apart names P Q d f a b p q e = f p.name p.passes (subst Q (same_place names q.place p.place q.name p.name d q.stands p.stands (sym q.is ∙ e ∙ p.is)) q.passes)

-- ---- fresh names
other_byte : (a : ℕ) → a ≡ 64 → a ≡ 35 → ⊥
other_byte a e f = omega arith

-- no name of a program begins with `#`
no_hash : (ds text : List ℕ) → IsNameText text → text ≡ 35 ∷ ds → ⊥
no_hash ds text (inl w) e = let l : is_letter 35 ≡ true = rw e at w.0.0.0 in absurd (cc)
no_hash ds text (inr g) e = let q : 64 ∷ decimal g.number ≡ 35 ∷ ds = sym g.text_is ∙ e in other_byte (get_or (64 ∷ decimal g.number) 0 0) refl (ap (λ (bs : List ℕ). get_or bs 0 0) q)

-- the text of a fresh column whose number is from n on and below the top
pub record IsFresh (n top : ℕ) (text : List ℕ) : Type 0 where
  pub number : ℕ
  pub least : n ≤ number
  pub most : number < top
  pub is : text ≡ fresh_name number

abbrev pub fresh_texts : ℕ → ℕ → List (List ℕ)
fresh_texts k n = map (λ (v : Variable). v.name) (fresh_variables k n)

pub are_fresh : (k n top : ℕ) → k + n ≤ top → AllByRecursion (IsFresh k top) (fresh_texts k n)
are_fresh k zero top l = tt
are_fresh k (suc n) top l = (
  record { number = k; least = omega arith; most = omega arith; is = refl },
  all_weaker (IsFresh (suc k) top) (IsFresh k top) (fresh_texts (suc k) n) (λ x h. record { number = h.number; least = (let l : suc k ≤ h.number = h.least in omega arith); most = h.most; is = h.is }) (are_fresh (suc k) n top (omega arith)),
)

fresh_apart : (k top : ℕ) → k < top → top ≤ 2 ^ 64 → (y : List ℕ) → IsFresh (suc k) top y → y ≡ fresh_name k → ⊥
fresh_apart k top l m y h e =
    let q : 35 ∷ decimal h.number ≡ 35 ∷ decimal k = sym h.is ∙ e in
    let r : decimal h.number ≡ decimal k = cc in
    let a : h.number < top = h.most in
    let b : suc k ≤ h.number = h.least in
    let same : h.number ≡ k = decimal_injective h.number k (omega arith) (omega arith) r in
    omega arith

pub fresh_differ : (k n top : ℕ) → k + n ≤ top → top ≤ 2 ^ 64 → Differ (fresh_texts k n)
fresh_differ k zero top l m = tt
fresh_differ k (suc n) top l m =
    (apart_by (IsFresh (suc k) top) (fresh_name k) (fresh_texts (suc k) n) (are_fresh (suc k) n top (omega arith)) (fresh_apart k top (omega arith) m), fresh_differ (suc k) n top (omega arith) m)

-- ---- names by their ranks
-- the rank of a name in the order of columns, outputs behind; parameters have none
abbrev rank_by : Role → Kind → ℕ
rank_by State d = 0
rank_by Input d = 1
rank_by Output d = 5
rank_by Parameter d = 6
rank_by Aux source.Bool = 2
rank_by Aux source.Real = 4

abbrev Below : ℕ → Name → Type 0
Below n x = rank_by x.role x.kind < n

abbrev Ranked : ℕ → Name → Type 0
Ranked n x = rank_by x.role x.kind ≡ n

state_rank : (r : Role) (d : Kind) → is_state r ≡ true → rank_by r d ≡ 0
state_rank State d e = refl
state_rank Input d e = absurd (cc)
state_rank Output d e = absurd (cc)
state_rank Parameter d e = absurd (cc)
state_rank Aux d e = absurd (cc)

input_rank : (r : Role) (d : Kind) → is_input r ≡ true → rank_by r d ≡ 1
input_rank State d e = absurd (cc)
input_rank Input d e = refl
input_rank Output d e = absurd (cc)
input_rank Parameter d e = absurd (cc)
input_rank Aux d e = absurd (cc)

output_rank : (r : Role) (d : Kind) → is_output r ≡ true → rank_by r d ≡ 5
output_rank State d e = absurd (cc)
output_rank Input d e = absurd (cc)
output_rank Output d e = refl
output_rank Parameter d e = absurd (cc)
output_rank Aux d e = absurd (cc)

bool_rank : (r : Role) (d : Kind) → (is_auxiliary r && is_boolean d) ≡ true → rank_by r d ≡ 2
bool_rank State d e = absurd (cc)
bool_rank Input d e = absurd (cc)
bool_rank Output d e = absurd (cc)
bool_rank Parameter d e = absurd (cc)
bool_rank Aux source.Bool e = refl
bool_rank Aux source.Real e = absurd (cc)

real_rank : (r : Role) (d : Kind) → (is_auxiliary r && not (is_boolean d)) ≡ true → rank_by r d ≡ 4
real_rank State d e = absurd (cc)
real_rank Input d e = absurd (cc)
real_rank Output d e = absurd (cc)
real_rank Parameter d e = absurd (cc)
real_rank Aux source.Bool e = absurd (cc)
real_rank Aux source.Real e = refl

-- the text of a name whose rank is below n, or of a fresh column
abbrev Earlier : List Name → ℕ → ℕ → List ℕ → Type 0
Earlier names top n a = IsTextOf names (Below n) a ⊎ IsFresh 1 top a

earlier_more : (names : List Name) (top n m : ℕ) → n ≤ m → (a : List ℕ) → Earlier names top n a → Earlier names top m a
earlier_more names top n m l a (inl h) = inl (record { place = h.place; name = h.name; stands = h.stands; passes = (let p : Below n h.name = h.passes in omega arith); is = h.is })
earlier_more names top n m l a (inr h) = inr h

ranked_below : (names : List Name) (top n : ℕ) (a : List ℕ) → IsTextOf names (Ranked n) a → Earlier names top (suc n) a
ranked_below names top n a h = inl (record { place = h.place; name = h.name; stands = h.stands; passes = (let p : Ranked n h.name = h.passes in omega arith); is = h.is })

ranks_apart : (names : List Name) (n m : ℕ) → n ≤ m → Differ (map text_of names) → (a b : List ℕ) → IsTextOf names (Below n) a → IsTextOf names (Ranked m) b → b ≡ a → ⊥
ranks_apart names n m l d = texts_apart names (Below n) (Ranked m) d (λ x p q. omega arith)

fresh_no_name : (names : List Name) (P : Name → Type 0) (top : ℕ) → All (λ x. IsNameText x.text) names → (a b : List ℕ) → IsTextOf names P a → IsFresh 1 top b → b ≡ a → ⊥
fresh_no_name names P top s a b h k e = no_hash (decimal k.number) h.name.text (spelled names h.place h.name s h.stands) (sym h.is ∙ sym e ∙ k.is)
  where
    spelled : (xs : List Name) (n : ℕ) (x : Name) → All (λ x. IsNameText x.text) xs → Stands xs n x → IsNameText x.text
    spelled [] n x h s = absurd s
    spelled (y ∷ ys) zero x h s = subst (λ (z : Name). IsNameText z.text) (sym s) (All-head (λ x. IsNameText x.text) y ys h)
    spelled (y ∷ ys) (suc n) x h s = spelled ys n x (All-tail (λ x. IsNameText x.text) y ys h) s

earlier_apart : (names : List Name) (top n m : ℕ) → n ≤ m → Differ (map text_of names) → All (λ x. IsNameText x.text) names → (a b : List ℕ) → Earlier names top n a → IsTextOf names (Ranked m) b → b ≡ a → ⊥
earlier_apart names top n m l d s a b (inl h) k e = ranks_apart names n m l d a b h k e
earlier_apart names top n m l d s a b (inr h) k e = fresh_no_name names (Ranked m) top s b a k h (sym e)

-- ---- all names
-- one more list of texts of names with the next rank
one_more : (names : List Name) (top n m : ℕ) (xs : List (List ℕ)) (t : Name → Bool) → n ≤ m → Differ (map text_of names) → All (λ x. IsNameText x.text) names → ((x : Name) → t x ≡ true → Ranked m x) →
    AllByRecursion (Earlier names top n) xs → Differ xs → AllByRecursion (Earlier names top (suc m)) (xs ++ texts_of t 0 names) × Differ (xs ++ texts_of t 0 names)
one_more names top n m xs t l d s f a e =
    let b : AllByRecursion (IsTextOf names (Ranked m)) (texts_of t 0 names) = all_texts names (Ranked m) t f in (
      all_append (Earlier names top (suc m)) xs (texts_of t 0 names) (all_weaker (Earlier names top n) (Earlier names top (suc m)) xs (earlier_more names top n (suc m) (omega arith)) a) (all_weaker (IsTextOf names (Ranked m)) (Earlier names top (suc m)) (texts_of t 0 names) (ranked_below names top m) b),
      differ_append (Earlier names top n) (IsTextOf names (Ranked m)) xs (texts_of t 0 names) a b (earlier_apart names top n m l d s) e (differ_kept t 0 names d),
    )

pub names_differ : (names : List Name) (n : ℕ) → 1 + n ≤ 2 ^ 64 → Differ (map text_of names) → All (λ x. IsNameText x.text) names →
    Differ (texts_of is_state_name 0 names ++ texts_of is_input_name 0 names ++ texts_of is_boolean_auxiliary 0 names ++ fresh_texts 1 n ++ texts_of is_real_auxiliary 0 names ++ texts_of is_output_name 0 names)
names_differ names n l d s =
    let a = one_more names 0 0 0 [] is_state_name (omega arith) d s (λ x e. state_rank x.role x.kind e) tt tt in
    let b = one_more names 0 1 1 (texts_of is_state_name 0 names) is_input_name (omega arith) d s (λ x e. input_rank x.role x.kind e) a.0 a.1 in
    let c = one_more names 0 2 2 (texts_of is_state_name 0 names ++ texts_of is_input_name 0 names) is_boolean_auxiliary (omega arith) d s (λ x e. bool_rank x.role x.kind e) b.0 b.1 in
    let h = with_fresh (texts_of is_state_name 0 names ++ texts_of is_input_name 0 names ++ texts_of is_boolean_auxiliary 0 names) c.0 c.1 in
    let f = one_more names (1 + n) 3 4 (texts_of is_state_name 0 names ++ texts_of is_input_name 0 names ++ texts_of is_boolean_auxiliary 0 names ++ fresh_texts 1 n) is_real_auxiliary (omega arith) d s (λ x e. real_rank x.role x.kind e) h.0 h.1 in
    (one_more names (1 + n) 5 5 (texts_of is_state_name 0 names ++ texts_of is_input_name 0 names ++ texts_of is_boolean_auxiliary 0 names ++ fresh_texts 1 n ++ texts_of is_real_auxiliary 0 names) is_output_name (omega arith) d s (λ x e. output_rank x.role x.kind e) f.0 f.1).1
  where
    named_only : (a : List ℕ) → Earlier names 0 3 a → IsTextOf names (Below 3) a
    named_only a (inl h) = h
    named_only a (inr h) = let m : h.number < 0 = h.most in absurd (omega arith)

    with_fresh : (xs : List (List ℕ)) → AllByRecursion (Earlier names 0 3) xs → Differ xs → AllByRecursion (Earlier names (1 + n) 3) (xs ++ fresh_texts 1 n) × Differ (xs ++ fresh_texts 1 n)
    with_fresh xs a e =
        let b : AllByRecursion (IsTextOf names (Below 3)) xs = all_weaker (Earlier names 0 3) (IsTextOf names (Below 3)) xs named_only a in
        let f : AllByRecursion (IsFresh 1 (1 + n)) (fresh_texts 1 n) = are_fresh 1 n (1 + n) (omega arith) in (
          all_append (Earlier names (1 + n) 3) xs (fresh_texts 1 n) (all_weaker (IsTextOf names (Below 3)) (Earlier names (1 + n) 3) xs (λ x h. inl h) b) (all_weaker (IsFresh 1 (1 + n)) (Earlier names (1 + n) 3) (fresh_texts 1 n) (λ x h. inr h) f),
          differ_append (IsTextOf names (Below 3)) (IsFresh 1 (1 + n)) xs (fresh_texts 1 n) b f (fresh_no_name names (Below 3) (1 + n) s) e (fresh_differ 1 n (1 + n) (omega arith) l),
        )
