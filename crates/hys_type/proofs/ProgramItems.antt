-- A translation of a source that keeps the rules is a program.
use Rattle.std.proofs.Common.{◌≡◌, ℕ, zero, suc, ◌+◌, List, [], ◌∷◌, ◌++◌, Option, Some, None, Bool, true, false, inl, inr, map, cond, eqb, refl, sym, ◌∙◌, ap, ap₂, subst, arith}
use Rattle.std.specs.Prelude.{IsTrue}
use Rattle.std.specs.Str.{bytes_eq}
use Rattle.std.specs.List.{AllByRecursion, count_by}
use Rattle.std.proofs.lemmas.List.Sums.{sum_by-cons}
use Rattle.hys_number.specs.Number.{Number}
use Rattle.hys_number.specs.Ops.{◌<ₙ◌, whole}
use Rattle.hys_ast.specs.declared.source.Section.{Section}
use Rattle.hys_ast.specs.declared.source.Section.TheVariants as section
use Rattle.hys_ast.specs.Tree.{Decl, Item, Source}
use Rattle.hys_meaning.specs.Values.{Assignment}
use Rattle.hys_meaning.specs.Names.{Name, names, name_of, parameters, look}
use Rattle.hys_meaning.specs.Bodies.{body}
use Rattle.hys_meaning.specs.Typed.{DeclaredOnce, Typed, Bounded, HaveValues, DefinedOnce, ItemTyped, LeftTyped, RightTyped, left, suits, defines, is_defined}
use Rattle.hys_meaning.specs.Unfolded.{Guard, guards, guard_decl, unfolded}
use Rattle.hys_type.specs.Rules.{KeepsTyping}
use Rattle.hys_prog.specs.declared.program.Name.{Name as ProgName}
use Rattle.hys_prog.specs.declared.program.ProgItem.{ProgItem}
use Rattle.hys_prog.specs.declared.program.Program.{Program}
use Rattle.hys_prog.specs.Programs.{NameAt, EachItem, BodyOver, Named, Suits, IsNameText, IsGuardText, IsProgram, definitions, is_named, is_must}
use Rattle.hys_prog.specs.Programs as program
use Rattle.hys_type.specs.Translation.{place_in, place_if, role_in, IsNameOf, OneByOne, Setting, setting, IsBodyOf, IsItemOf, IsNamedTranslation, IsTranslation, left_kind, kind_of}
use Rattle.hys_type.specs.Declaring.{declares, IsDeclaration}
use Rattle.hys_prog.proofs.Names.{name_map}
use Rattle.hys_type.proofs.KnownValues.{same_text, own_text, declared_texts, differ_texts}
use Rattle.hys_type.proofs.Agree.{Placed, placed}
use Rattle.hys_type.proofs.FormPlaces.{same_column, own_column}
use Rattle.hys_type.proofs.SameSteps.{left_declared, names_differ, own_values}
use Rattle.hys_type.proofs.ProgramNames.{Ruled, all_ruled, parameter_bits, roles_kept, names_spelled, texts_differ, columns_weigh}
use Rattle.hys_type.proofs.ProgramForms.{Stands, stands_at, look_own}
use Rattle.hys_type.proofs.ProgramBodies.{body_over, must_is, item_suits}
use Rattle.hys_type.proofs.ProgramWeight.{left_kind_is, items_weigh}

each_translated : (R : Item → ProgItem → Type 0) (T : Item → Type 0) (Q : ProgItem → Type 0) → ((i : Item) (t : ProgItem) → R i t → T i → Q t) → (xs : List Item) (ts : List ProgItem) → OneByOne R xs ts → AllByRecursion T xs → EachItem Q ts
each_translated R T Q f [] [] h r = tt
each_translated R T Q f [] (t ∷ ts) h r = absurd h
each_translated R T Q f (i ∷ xs) [] h r = absurd h
each_translated R T Q f (i ∷ xs) (t ∷ ts) h r = (f i t h.0 r.0, each_translated R T Q f xs ts h.1 r.1)

-- ---- bodies
body_of : (c : Setting) (i : Item) (t : ProgItem) → IsItemOf c i t → IsBodyOf c (kind_of (left c.names i.name)) (body i) t.body
body_of c i t h = subst (λ k. IsBodyOf c k (body i) t.body) (left_kind_is c.names i.name) h.body

-- ---- names of items
named_item : (c : Setting) (u : Assignment) (ds : List Decl) (xs : List ProgName) → c.names ≡ map (name_of u) ds → OneByOne (IsNameOf u) ds xs → (i : Item) (t : ProgItem) → IsItemOf c i t → ItemTyped c.names i → Named xs t.name t.body
named_item c u ds xs e h i t q r = go i.name t.name q.name r.0 r.1 q.body
  where
    at_left : (n : List ℕ) (o : Option Name) → look c.names n ≡ o → IsTrue (suits i.section o) → RightTyped c.names o (body i) → IsBodyOf c (kind_of o) (body i) t.body → NameAt xs (place_in c.names n) (Suits t.body)
    at_left n None f l r b = absurd (left_declared i.section l)
    at_left n (Some m) f l r b = name_map (Stands m) (Suits t.body) xs (place_in c.names n) (λ x s. item_suits c (Some m) m x i.section i.shape t.body s l r b)
        (subst (λ ns. NameAt xs (place_in ns n) (Stands m)) (sym e) (stands_at u ds xs h n m (ap (λ ns. look ns n) (sym e) ∙ f)))

    go : (o : Option (List ℕ)) (p : Option ℕ) → p ≡ place_if c.names o → LeftTyped i.section c.names o → RightTyped c.names (left c.names o) (body i) → IsBodyOf c (left_kind c.names o) (body i) t.body → Named xs p t.body
    go None p f l r b = subst (λ p. Named xs p t.body) (sym f) (must_is c None None i.section i.shape t.body r b ∙ l)
    go (Some n) p f l r b = subst (λ p. Named xs p t.body) (sym f) (at_left n (look c.names n) refl l r b)

-- ---- each defined name is defined once
pub place_injective : (ns : List Name) (m n : List ℕ) (y z : Name) → look ns m ≡ Some y → look ns n ≡ Some z → place_in ns m ≡ place_in ns n → m ≡ n
place_injective [] m n y z h k e = absurd (cc)
place_injective (x ∷ ns) m n y z h k e = go (bytes_eq x.text m) (bytes_eq x.text n) refl refl h k e (place_injective ns m n y z)
  where
    go : (b c : Bool) → bytes_eq x.text m ≡ b → bytes_eq x.text n ≡ c → cond b (Some x) (look ns m) ≡ Some y → cond c (Some x) (look ns n) ≡ Some z → cond b 0 (suc (place_in ns m)) ≡ cond c 0 (suc (place_in ns n)) →
        (look ns m ≡ Some y → look ns n ≡ Some z → place_in ns m ≡ place_in ns n → m ≡ n) → m ≡ n
    go true true i j h k e f = sym (same_text x.text m i) ∙ same_text x.text n j
    go true false i j h k e f = absurd (omega (arith, e))
    go false true i j h k e f = absurd (omega (arith, e))
    go false false i j h k e f = f h k (omega (arith, e))

both_true : (b c : Bool) → (b ≡ true → c ≡ true) → (c ≡ true → b ≡ true) → b ≡ c
both_true true c f g = sym (f refl)
both_true false true f g = g refl
both_true false false f g = refl

-- an item defines the name at a place just where it defines its text
pub same_definition : (c : Setting) (n : ℕ) (q : List ℕ) (z : Name) → place_in c.names q ≡ n → look c.names q ≡ Some z → (i : Item) (t : ProgItem) → IsItemOf c i t → ItemTyped c.names i → is_named n t.name ≡ defines q i.name
same_definition c n q z e l i t h r = go i.name t.name h.name r.0
  where
    at_text : (m : List ℕ) (o : Option Name) → look c.names m ≡ o → IsTrue (suits i.section o) → eqb (place_in c.names m) n ≡ bytes_eq q m
    at_text m None f k = absurd (left_declared i.section k)
    at_text m (Some y) f k = both_true (eqb (place_in c.names m) n) (bytes_eq q m)
        (λ b. let s : m ≡ q = place_injective c.names m q y z f l (same_column (place_in c.names m) n b ∙ sym e) in ap (bytes_eq q) s ∙ own_text q)
        (λ b. let s : q ≡ m = same_text q m b in ap (λ k. eqb k n) (ap (place_in c.names) (sym s) ∙ e) ∙ own_column n)

    go : (o : Option (List ℕ)) (p : Option ℕ) → p ≡ place_if c.names o → LeftTyped i.section c.names o → is_named n p ≡ defines q o
    go None p f k = ap (is_named n) f
    go (Some m) p f k = ap (is_named n) f ∙ at_text m (look c.names m) refl k

same_count : (c : Setting) (n : ℕ) (q : List ℕ) (z : Name) → place_in c.names q ≡ n → look c.names q ≡ Some z → (xs : List Item) (ts : List ProgItem) → OneByOne (IsItemOf c) xs ts → AllByRecursion (ItemTyped c.names) xs →
    definitions n ts ≡ count_by (λ i. defines q i.name) xs
same_count c n q z e l [] [] h r = refl
same_count c n q z e l [] (t ∷ ts) h r = absurd h
same_count c n q z e l (i ∷ xs) [] h r = absurd h
same_count c n q z e l (i ∷ xs) (t ∷ ts) h r =
    ap₂ (λ (b : Bool) (m : ℕ). cond b 1 0 + m) (same_definition c n q z e l i t h.0 r.0) (same_count c n q z e l xs ts h.1 r.1)
    ∙ sym (sum_by-cons (λ (y : Item). cond (defines q y.name) 1 0) i xs)

-- the declaration of the name at a place
pub record Found (u : Assignment) (ns : List Name) (R : Decl → Type 0) (P : ProgName → Type 0) (n : ℕ) : Type 0 where
  pub decl : Decl
  pub name : ProgName
  pub is : IsNameOf u decl name
  pub has : P name
  pub ruled : R decl
  pub place : place_in ns decl.name ≡ n
  pub found : look ns decl.name ≡ Some (name_of u decl)

pub at_decl : (u : Assignment) (ns : List Name) (R : Decl → Type 0) (P : ProgName → Type 0) (k : ℕ) (ds : List Decl) (xs : List ProgName) → OneByOne (IsNameOf u) ds xs → AllByRecursion R ds → Placed k (map (name_of u) ds) (place_in ns) →
    AllByRecursion (λ n. look ns n.text ≡ Some n) (map (name_of u) ds) → (i j : ℕ) → j ≡ k + i → NameAt xs i P → Found u ns R P j
at_decl u ns R P k [] [] h r p l i j e x = absurd x
at_decl u ns R P k [] (y ∷ xs) h r p l i j e x = absurd h
at_decl u ns R P k (d ∷ ds) [] h r p l i j e x = absurd h
at_decl u ns R P k (d ∷ ds) (y ∷ xs) h r p l zero j e x = record { decl = d; name = y; is = h.0; has = x; ruled = r.0; place = p.0 ∙ omega (arith, e); found = l.0 }
at_decl u ns R P k (d ∷ ds) (y ∷ xs) h r p l (suc i) j e x = at_decl u ns R P (suc k) ds xs h.1 r.1 p.1 l.1 i j (omega (arith, e)) x

defined_role : (s : Section) → IsTrue (declares s) → program.is_defined (role_in s) ≡ true → is_defined s ≡ true
defined_role section.State h e = refl
defined_role section.Output h e = refl
defined_role section.Aux h e = refl
defined_role section.Input h e = absurd (cc)
defined_role section.Parameter h e = absurd (cc)
defined_role section.Ad h e = absurd (cc)
defined_role section.Da h e = absurd (cc)
defined_role section.Logic h e = absurd (cc)
defined_role section.Linear h e = absurd (cc)
defined_role section.Automata h e = absurd (cc)
defined_role section.Continuous h e = absurd (cc)
defined_role section.OutputItem h e = absurd (cc)
defined_role section.Must h e = absurd (cc)

-- ---- programs
abbrev IsSpelled : Decl → Type 0
IsSpelled d = IsTrue (declares d.section) × IsNameText d.name

abbrev DefinedIn : List Item → Decl → Type 0
DefinedIn xs d = IsTrue (declares d.section) × (IsTrue (is_defined d.section) → count_by (λ i. defines d.name i.name) xs ≡ 1)

defined_in : (xs : List Item) (ds : List Decl) → AllByRecursion IsSpelled ds → AllByRecursion (λ d. IsTrue (is_defined d.section) → count_by (λ i. defines d.name i.name) xs ≡ 1) ds → AllByRecursion (DefinedIn xs) ds
defined_in xs [] h r = tt
defined_in xs (d ∷ ds) h r = ((h.0.0, r.0), defined_in xs ds h.1 r.1)

pub named_program : (tolerance : Number) (s : Source) (p : Program) → IsNamedTranslation tolerance s p → DeclaredOnce s → HaveValues s → Typed s → Bounded s → DefinedOnce s → AllByRecursion IsSpelled s.decls → whole 0 <ₙ tolerance → IsProgram p
named_program tolerance s p h once values typed bounded defined spelled positive = record {
  roles = roles_kept (parameters s.decls) s.decls p.names h.names ruled;
  bodies = each_translated (IsItemOf (setting tolerance s)) (ItemTyped (names s)) (λ t. BodyOver p.names t.body) (λ i t q r. body_over tolerance (parameters s.decls) s.decls p.names h.names (names_differ s once) (own_values (parameters s.decls) s.decls) positive (left (names s) i.name) (body i) t.body (body_of (setting tolerance s) i t q) r.1) s.items p.items h.items typed.items;
  named = each_translated (IsItemOf (setting tolerance s)) (ItemTyped (names s)) (λ t. Named p.names t.name t.body) (named_item (setting tolerance s) (parameters s.decls) s.decls p.names refl h.names) s.items p.items h.items typed.items;
  once = one_definition;
  texts = texts_differ (parameters s.decls) s.decls p.names h.names (differ_texts (declared_texts s.decls) once);
  spelled = names_spelled (parameters s.decls) s.decls p.names h.names ruled;
  weight = h.weight ∙ ap₂ (λ (m n : ℕ). m + n) (columns_weigh (parameters s.decls) s.decls p.names h.names ruled) (items_weigh (setting tolerance s) s.items p.items h.items typed.items);
}
  where
    ruled : AllByRecursion (Ruled (parameters s.decls)) s.decls
    ruled = all_ruled (parameters s.decls) s.decls bounded (parameter_bits s.decls (differ_texts (declared_texts s.decls) once) values) spelled

    one_definition : (n : ℕ) → NameAt p.names n (λ x. program.is_defined x.role ≡ true) → definitions n p.items ≡ 1
    one_definition n x =
        let f : Found (parameters s.decls) (names s) (DefinedIn s.items) (λ x. program.is_defined x.role ≡ true) n =
        at_decl (parameters s.decls) (names s) (DefinedIn s.items) (λ x. program.is_defined x.role ≡ true) 0 s.decls p.names h.names (defined_in s.items s.decls spelled defined) (placed (names s) (names_differ s once)) (look_own (names s) (names_differ s once)) n n (omega arith) x in
        same_count (setting tolerance s) n f.decl.name (name_of (parameters s.decls) f.decl) f.place f.found s.items p.items h.items typed.items
        ∙ f.ruled.1 (defined_role f.decl.section f.ruled.0 (ap program.is_defined (sym f.is.role) ∙ f.has))

-- ---- unnamed guards
pub all_append : (P : Decl → Type 0) (xs ys : List Decl) → AllByRecursion P xs → AllByRecursion P ys → AllByRecursion P (xs ++ ys)
all_append P [] ys h k = k
all_append P (x ∷ xs) ys h k = (h.0, all_append P xs ys h.1 k)

words_spelled : (ds : List Decl) → AllByRecursion IsDeclaration ds → AllByRecursion IsSpelled ds
words_spelled [] h = tt
words_spelled (d ∷ ds) h = ((h.0.0, inl h.0.1), words_spelled ds h.1)

guards_spelled : (gs : List Guard) → AllByRecursion IsSpelled (map guard_decl gs)
guards_spelled [] = tt
guards_spelled (g ∷ gs) = ((refl, inr (record { number = g.number; text_is = refl })), guards_spelled gs)

pub translation_program : (tolerance : Number) (s : Source) (p : Program) → IsTranslation tolerance s p → KeepsTyping (unfolded s) → AllByRecursion IsDeclaration s.decls → whole 0 <ₙ tolerance → IsProgram p
translation_program tolerance s p h r d l = named_program tolerance (unfolded s) p h r.declared r.values r.typed r.bounded r.defined
    (all_append IsSpelled s.decls (map guard_decl (guards s)) (words_spelled s.decls d) (guards_spelled (guards s))) l
