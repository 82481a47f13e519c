-- The checks of the values of parameters pass exactly where each has a value of its kind and the numbers fit.
use Rattle.std.proofs.Common.{◌≡◌, ℕ, List, [], ◌∷◌, ◌++◌, Option, Some, None, Bool, true, false, cond, map, refl, sym, ◌∙◌, ap, subst, subst₂}
use Rattle.std.specs.Prelude.{IsTrue}
use Rattle.std.specs.Str.{bytes_eq}
use Rattle.std.proofs.lemmas.List.{append-nil}
use Rattle.hys_number.specs.Number.{Number}
use Rattle.hys_base.specs.Differ.{Apart, Differ}
use Rattle.hys_ast.specs.Tree.{Tree, Decl}
use Rattle.hys_meaning.specs.Values.{Assignment, given}
use Rattle.hys_meaning.specs.Names.{Name, name_of, look, is_parameter, valued, with_value}
use Rattle.hys_meaning.specs.Typed.{only_parameters, has_value}
use Rattle.hys_type.specs.Constants.{find_known, known_values}
use Rattle.hys_type.specs.Declarations.{given_value, with_parameter}
use Rattle.hys_type.specs.Written.{KnownAs, AreKnown, AreAmong}
use Rattle.hys_type.specs.declared.constant.Known.{Known}
use Rattle.hys_type.proofs.KnownValues.{same_text, own_text, other_text, declared_texts, or_else, find_last, Fresh, fresh_more, one_more}

-- ---- names before others
pub look_front : (ns ms : List Name) (n : List ℕ) (m : Name) → look ns n ≡ Some m → look (ns ++ ms) n ≡ Some m
look_front [] ms n m h = absurd (cc)
look_front (x ∷ ns) ms n m h = go (bytes_eq x.text n) h (look_front ns ms n m)
  where
    go : (b : Bool) → cond b (Some x) (look ns n) ≡ Some m → (look ns n ≡ Some m → look (ns ++ ms) n ≡ Some m) → cond b (Some x) (look (ns ++ ms) n) ≡ Some m
    go true h f = h
    go false h f = f h

abbrev pub or_name : Option Name → Option Name → Option Name
or_name (Some m) o = Some m
or_name None o = o

pub look_join : (ns ms : List Name) (n : List ℕ) → look (ns ++ ms) n ≡ or_name (look ns n) (look ms n)
look_join [] ms n = refl
look_join (x ∷ ns) ms n = go (bytes_eq x.text n) (look_join ns ms n)
  where
    go : (b : Bool) → look (ns ++ ms) n ≡ or_name (look ns n) (look ms n) → cond b (Some x) (look (ns ++ ms) n) ≡ or_name (cond b (Some x) (look ns n)) (look ms n)
    go true h = refl
    go false h = h

-- ---- parameters among names
apart_look : (n : List ℕ) (w : Assignment) (ds : List Decl) → Apart n (declared_texts ds) → look (only_parameters (map (name_of w) ds)) n ≡ None
apart_look n w [] a = refl
apart_look n w (d ∷ ds) a = go (is_parameter d.section) (apart_look n w ds a.1)
  where
    go : (b : Bool) → look (only_parameters (map (name_of w) ds)) n ≡ None → look (cond b (name_of w d ∷ only_parameters (map (name_of w) ds)) (only_parameters (map (name_of w) ds))) n ≡ None
    go true h = ap (λ b. cond b (Some (name_of w d)) (look (only_parameters (map (name_of w) ds)) n)) (other_text d.name n a.0) ∙ h
    go false h = h

pub parameter_among : (w : Assignment) (ds : List Decl) → Differ (declared_texts ds) → AreAmong (only_parameters (map (name_of w) ds)) (map (name_of w) ds)
parameter_among w [] d n m h = absurd (cc)
parameter_among w (x ∷ ds) d n m h = go (is_parameter x.section) (bytes_eq x.name n) refl h (parameter_among w ds d.1 n m)
  where
    go : (b c : Bool) → bytes_eq x.name n ≡ c → look (cond b (name_of w x ∷ only_parameters (map (name_of w) ds)) (only_parameters (map (name_of w) ds))) n ≡ Some m →
        (look (only_parameters (map (name_of w) ds)) n ≡ Some m → look (map (name_of w) ds) n ≡ Some m) → cond c (Some (name_of w x)) (look (map (name_of w) ds) n) ≡ Some m
    go true true e h f = sym (ap (λ c. cond c (Some (name_of w x)) (look (only_parameters (map (name_of w) ds)) n)) e) ∙ h
    go true false e h f = f (sym (ap (λ c. cond c (Some (name_of w x)) (look (only_parameters (map (name_of w) ds)) n)) e) ∙ h)
    go false true e h f =
        let s : look (only_parameters (map (name_of w) ds)) x.name ≡ None = apart_look x.name w ds d.0 in
        let t : look (only_parameters (map (name_of w) ds)) n ≡ None = ap (look (only_parameters (map (name_of w) ds))) (sym (same_text x.name n e)) ∙ s in
        absurd (cc)
    go false false e h f = f h

-- ---- what is known in front of the rest
pub record Prefix (ks : List Known) (qs : List Name) (w : Assignment) (rest : List Decl) : Type 0 where
  pub known : AreKnown ks qs
  pub fresh : Fresh ks rest
  pub apart : Differ (declared_texts rest)
  pub values : w ≡ valued (known_values ks) rest

valued_kept : (n : List ℕ) (w : Assignment) (ds : List Decl) → Apart n (declared_texts ds) → valued w ds n ≡ w n
valued_kept n w [] a = refl
valued_kept n w (d ∷ ds) a = valued_kept n (with_value (is_parameter d.section) d.kind d.name d.value w) ds a.1 ∙ go (is_parameter d.section) d.value
  where
    go : (b : Bool) (o : Option Tree) → with_value b d.kind d.name o w n ≡ w n
    go true (Some e) = ap (λ b. cond b (given d.kind w e) (w n)) (other_text d.name n a.0)
    go true None = refl
    go false o = refl

known_value_last : (ks : List Known) (qs : List Name) (x : Known) (m : Name) → x.text ≡ m.text → find_known ks x.text ≡ None → KnownAs (Some x) (Some m) → AreKnown ks qs → AreKnown (ks ++ x ∷ []) (qs ++ m ∷ [])
known_value_last ks qs x m t e k h n = subst₂ KnownAs (sym (find_last ks x n)) (sym (look_join qs (m ∷ []) n)) (go (bytes_eq x.text n) refl (find_known ks n) (look qs n) refl (h n))
  where
    go : (b : Bool) → bytes_eq x.text n ≡ b → (y : Option Known) (o : Option Name) → find_known ks n ≡ y → KnownAs y o → KnownAs (or_else y (cond b (Some x) None)) (or_name o (cond (bytes_eq m.text n) (Some m) None))
    go true i None None f g = subst (λ c. KnownAs (Some x) (cond c (Some m) None)) (sym (ap (λ z. bytes_eq z n) (sym t) ∙ i)) k
    go true i None (Some z) f g = absurd g
    go true i (Some y) o f g = let s : find_known ks n ≡ None = ap (find_known ks) (sym (same_text x.text n i)) ∙ e in absurd (cc)
    go false i None None f g = subst (λ c. KnownAs None (cond c (Some m) None)) (sym (ap (λ z. bytes_eq z n) (sym t) ∙ i)) tt
    go false i None (Some z) f g = absurd g
    go false i (Some y) (Some z) f g = g
    go false i (Some y) None f g = subst (λ c. KnownAs (Some y) (cond c (Some m) None)) (sym (ap (λ z. bytes_eq z n) (sym t) ∙ i)) g

abbrev pub front_names : Assignment → Decl → List Name → List Name
front_names w d qs = qs ++ only_parameters (name_of w d ∷ [])

pub prefix_more : (ks : List Known) (qs : List Name) (w : Assignment) (d : Decl) (rest : List Decl) → (IsTrue (is_parameter d.section) → IsTrue (has_value d.value)) → Prefix ks qs w (d ∷ rest) → Prefix (with_parameter ks d) (front_names w d qs) w rest
prefix_more ks qs w d rest v h = record {
  known = go (is_parameter d.section) d.value (h.fresh.0) v (ap (λ (u : Assignment). u d.name) h.values ∙ valued_kept d.name (with_value (is_parameter d.section) d.kind d.name d.value (known_values ks)) rest h.apart.0) refl;
  fresh = fresh_more ks d rest h.apart.0 h.fresh.1;
  apart = h.apart.1;
  values = h.values ∙ ap (λ (u : Assignment). valued u rest) (sym (one_more ks d h.fresh.0));
}
  where
    parameter_known : (s : Bool) (a : Number) → s ≡ is_parameter d.section → s ≡ true → w d.name ≡ a → KnownAs (Some (record { text = d.name; kind = d.kind; value = Some a })) (Some (name_of w d))
    parameter_known s a e t q = (refl, refl, sym q, sym e ∙ t)

    go : (b : Bool) (o : Option Tree) → (IsTrue b → find_known ks d.name ≡ None) → (IsTrue b → IsTrue (has_value o)) → w d.name ≡ with_value b d.kind d.name o (known_values ks) d.name → b ≡ is_parameter d.section →
        AreKnown (cond b (ks ++ record { text = d.name; kind = d.kind; value = given_value d.kind (known_values ks) o } ∷ []) ks) (qs ++ cond b (name_of w d ∷ []) [])
    go true (Some e) f v q s =
        known_value_last ks qs (record { text = d.name; kind = d.kind; value = Some (given d.kind (known_values ks) e) }) (name_of w d) refl (f refl)
        (parameter_known true (given d.kind (known_values ks) e) s refl (q ∙ ap (λ b. cond b (given d.kind (known_values ks) e) (known_values ks d.name)) (own_text d.name))) h.known
    go true None f v q s = absurd (let i : false ≡ true = v refl in cc)
    go false o f v q s = subst (λ xs. AreKnown ks xs) (sym (append-nil qs)) h.known
