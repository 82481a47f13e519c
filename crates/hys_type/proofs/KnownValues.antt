-- What constant expressions know of the parameters are the parameters' values.
use Rattle.std.proofs.Common.{◌≡◌, ℕ, List, [], ◌∷◌, ◌++◌, Option, Some, None, Bool, true, false, ◌||◌, ◌&&◌, not, map, cond, refl, sym, ◌∙◌, ap}
use Rattle.std.specs.Prelude.{IsTrue, filter}
use Rattle.std.specs.Str.{bytes_eq}
use Rattle.std.specs.List.{AllByRecursion, list_any}
use Rattle.std.proofs.Math.Path.{fun_ext}
use Rattle.std.proofs.lemmas.Slice.Eq.{bytes_eq-Decides}
use Rattle.hys_number.specs.Number.{Number}
use Rattle.hys_number.specs.Ops.{whole}
use Rattle.hys_base.specs.Differ.{Apart, Differ}
use Rattle.hys_ast.specs.declared.source.Kind.{Kind}
use Rattle.hys_ast.specs.declared.source.Kind.TheVariants as kind
use Rattle.hys_ast.specs.Tree.{Tree, Decl}
use Rattle.hys_meaning.specs.Values.{Assignment, value, given}
use Rattle.hys_meaning.specs.Names.{is_parameter, set_to, with_value, valued, parameters, name_of, end_of}
use Rattle.hys_meaning.specs.Typed.{differ, is_real}
use Rattle.hys_meaning.specs.Steps.{is_given}
use Rattle.hys_type.specs.Constants.{find_known, known_value, known_values, number_or_zero}
use Rattle.hys_type.specs.Declarations.{other, others, given_value, with_parameter, with_parameters, known, end_value, box_of, usual_box}
use Rattle.hys_type.specs.declared.constant.Known.{Known}

-- ---- texts
pub same_text : (n m : List ℕ) → bytes_eq n m ≡ true → n ≡ m
same_text n m h = (bytes_eq-Decides n m).0 h

pub own_text : (n : List ℕ) → bytes_eq n n ≡ true
own_text n = (bytes_eq-Decides n n).1 refl

pub other_text : (n m : List ℕ) → ¬ (n ≡ m) → bytes_eq n m ≡ false
other_text n m d = go (bytes_eq n m) refl
  where
    go : (b : Bool) → bytes_eq n m ≡ b → b ≡ false
    go true e = absurd (d (same_text n m e))
    go false e = refl

pub not_same : (n m : List ℕ) → bytes_eq n m ≡ false → ¬ (n ≡ m)
not_same n m h e = never (sym h ∙ (bytes_eq-Decides n m).1 e)
  where
    never : false ≡ true → ⊥
    never e = absurd (cc)

apart_texts : (n : List ℕ) (ns : List (List ℕ)) → list_any (bytes_eq n) ns ≡ false → Apart n ns
apart_texts n [] h = tt
apart_texts n (m ∷ ns) h = go (bytes_eq n m) refl h (apart_texts n ns)
  where
    go : (b : Bool) → bytes_eq n m ≡ b → b || list_any (bytes_eq n) ns ≡ false → (list_any (bytes_eq n) ns ≡ false → Apart n ns) → Apart n (m ∷ ns)
    go true e h f = absurd (cc)
    go false e h f = (λ o. not_same n m e (sym o), f h)

pub differ_texts : (ns : List (List ℕ)) → differ ns ≡ true → Differ ns
differ_texts [] h = tt
differ_texts (n ∷ ns) h = go (list_any (bytes_eq n) ns) refl h (differ_texts ns)
  where
    go : (b : Bool) → list_any (bytes_eq n) ns ≡ b → not b && differ ns ≡ true → (differ ns ≡ true → Differ ns) → Differ (n ∷ ns)
    go true e h f = absurd (cc)
    go false e h f = (apart_texts n ns e, f h)

-- ---- the names of declarations
abbrev pub declared_texts : List Decl → List (List ℕ)
declared_texts ds = map (λ d. d.name) ds

-- ---- one name more
abbrev pub or_else : Option Known → Option Known → Option Known
or_else (Some k) o = Some k
or_else None o = o

pub find_last : (ks : List Known) (k : Known) (n : List ℕ) → find_known (ks ++ k ∷ []) n ≡ or_else (find_known ks n) (find_known (k ∷ []) n)
find_last [] k n = refl
find_last (x ∷ ks) k n = go (bytes_eq x.text n) (find_last ks k n)
  where
    go : (b : Bool) → find_known (ks ++ k ∷ []) n ≡ or_else (find_known ks n) (find_known (k ∷ []) n) →
        cond b (Some x) (find_known (ks ++ k ∷ []) n) ≡ or_else (cond b (Some x) (find_known ks n)) (find_known (k ∷ []) n)
    go true h = refl
    go false h = h

-- no parameter among the declarations is known
abbrev pub Fresh : List Known → List Decl → Type 0
Fresh ks ds = AllByRecursion (λ d. IsTrue (is_parameter d.section) → find_known ks d.name ≡ None) ds

fresh_first : (k : Known) (ks : List Known) (ds : List Decl) → Apart k.text (declared_texts ds) → Fresh ks ds → Fresh (k ∷ ks) ds
fresh_first k ks [] a f = tt
fresh_first k ks (d ∷ ds) a f = (λ p. ap (λ b. cond b (Some k) (find_known ks d.name)) (other_text k.text d.name (λ e. a.0 (sym e))) ∙ f.0 p, fresh_first k ks ds a.1 f.1)

fresh_last : (k : Known) (ks : List Known) (ds : List Decl) → Apart k.text (declared_texts ds) → Fresh ks ds → Fresh (ks ++ k ∷ []) ds
fresh_last k ks [] a f = tt
fresh_last k ks (d ∷ ds) a f = (
  λ p. find_last ks k d.name ∙ ap (λ o. or_else o (find_known (k ∷ []) d.name)) (f.0 p) ∙ ap (λ b. cond b (Some k) None) (other_text k.text d.name (λ e. a.0 (sym e))),
  fresh_last k ks ds a.1 f.1,
)

-- ---- the names that are no parameters
absent_others : (n : List ℕ) (ds : List Decl) → Apart n (declared_texts ds) → find_known (others ds) n ≡ None
absent_others n [] a = refl
absent_others n (d ∷ ds) a = go (is_parameter d.section) (absent_others n ds a.1)
  where
    go : (b : Bool) → find_known (others ds) n ≡ None →
        find_known (map other (cond (not b) (d ∷ filter (λ d. not (is_parameter d.section)) ds) (filter (λ d. not (is_parameter d.section)) ds))) n ≡ None
    go true h = h
    go false h = ap (λ b. cond b (Some (other d)) (find_known (others ds) n)) (other_text d.name n a.0) ∙ h

pub fresh_others : (ds : List Decl) → Differ (declared_texts ds) → Fresh (others ds) ds
fresh_others [] h = tt
fresh_others (d ∷ ds) h = go (is_parameter d.section) (fresh_others ds h.1)
  where
    go : (b : Bool) → Fresh (others ds) ds → (IsTrue b → find_known (map other (cond (not b) (d ∷ filter (λ d. not (is_parameter d.section)) ds) (filter (λ d. not (is_parameter d.section)) ds))) d.name ≡ None)
        × Fresh (map other (cond (not b) (d ∷ filter (λ d. not (is_parameter d.section)) ds) (filter (λ d. not (is_parameter d.section)) ds))) ds
    go true f = (λ p. absent_others d.name ds h.0, f)
    go false f = (λ p. absurd (cc), fresh_first (other d) (others ds) ds h.0 f)

pub others_zero : (ds : List Decl) (n : List ℕ) → known_values (others ds) n ≡ whole 0
others_zero [] n = refl
others_zero (d ∷ ds) n = go (is_parameter d.section) (others_zero ds n)
  where
    here : (b : Bool) → known_values (others ds) n ≡ whole 0 → known_value (cond b (Some (other d)) (find_known (others ds) n)) ≡ whole 0
    here true h = refl
    here false h = h

    go : (b : Bool) → known_values (others ds) n ≡ whole 0 → known_values (map other (cond (not b) (d ∷ filter (λ d. not (is_parameter d.section)) ds) (filter (λ d. not (is_parameter d.section)) ds))) n ≡ whole 0
    go true h = h
    go false h = here (bytes_eq d.name n) h

-- ---- one parameter more
or_none : (o : Option Known) → known_value (or_else o None) ≡ known_value o
or_none (Some k) = refl
or_none None = refl

one_value : (ks : List Known) (k : Known) (n : List ℕ) → find_known ks k.text ≡ None → known_values (ks ++ k ∷ []) n ≡ set_to k.text (number_or_zero k.value) (known_values ks) n
one_value ks k n h = ap known_value (find_last ks k n) ∙ go (bytes_eq k.text n) refl
  where
    go : (b : Bool) → bytes_eq k.text n ≡ b → known_value (or_else (find_known ks n) (cond b (Some k) None)) ≡ cond b (number_or_zero k.value) (known_values ks n)
    go true e = ap (λ o. known_value (or_else o (Some k))) (ap (find_known ks) (sym (same_text k.text n e)) ∙ h)
    go false e = or_none (find_known ks n)

zero_value : (ks : List Known) (t n : List ℕ) → find_known ks t ≡ None → set_to t (whole 0) (known_values ks) n ≡ known_values ks n
zero_value ks t n h = go (bytes_eq t n) refl
  where
    go : (b : Bool) → bytes_eq t n ≡ b → cond b (whole 0) (known_values ks n) ≡ known_values ks n
    go true e = sym (ap known_value (ap (find_known ks) (sym (same_text t n e)) ∙ h))
    go false e = refl

pub one_more : (ks : List Known) (d : Decl) → (IsTrue (is_parameter d.section) → find_known ks d.name ≡ None) → known_values (with_parameter ks d) ≡ with_value (is_parameter d.section) d.kind d.name d.value (known_values ks)
one_more ks d h = go (is_parameter d.section) d.value h
  where
    go : (b : Bool) (o : Option Tree) → (IsTrue b → find_known ks d.name ≡ None) →
        known_values (cond b (ks ++ record { text = d.name; kind = d.kind; value = given_value d.kind (known_values ks) o } ∷ []) ks) ≡ with_value b d.kind d.name o (known_values ks)
    go true (Some e) h = fun_ext (λ n. one_value ks (record { text = d.name; kind = d.kind; value = Some (given d.kind (known_values ks) e) }) n (h refl))
    go true None h = fun_ext (λ n. one_value ks (record { text = d.name; kind = d.kind; value = None }) n (h refl) ∙ zero_value ks d.name n (h refl))
    go false o h = refl

pub fresh_more : (ks : List Known) (d : Decl) (ds : List Decl) → Apart d.name (declared_texts ds) → Fresh ks ds → Fresh (with_parameter ks d) ds
fresh_more ks d ds a f = go (is_parameter d.section)
  where
    go : (b : Bool) → Fresh (cond b (ks ++ record { text = d.name; kind = d.kind; value = given_value d.kind (known_values ks) d.value } ∷ []) ks) ds
    go true = fresh_last (record { text = d.name; kind = d.kind; value = given_value d.kind (known_values ks) d.value }) ks ds a f
    go false = f

pub all_values : (ks : List Known) (ds : List Decl) → Fresh ks ds → Differ (declared_texts ds) → known_values (with_parameters ks ds) ≡ valued (known_values ks) ds
all_values ks [] f h = refl
all_values ks (d ∷ ds) f h = all_values (with_parameter ks d) ds (fresh_more ks d ds h.0 f.1) h.1 ∙ ap (λ w. valued w ds) (one_more ks d f.0)

-- ---- what is known of declarations in which no name stands twice
pub values_known : (ds : List Decl) → IsTrue (differ (declared_texts ds)) → known_values (known ds ds) ≡ parameters ds
values_known ds h =
    let a : Differ (declared_texts ds) = differ_texts (declared_texts ds) h in
    all_values (others ds) ds (fresh_others ds a) a ∙ ap (λ w. valued w ds) (fun_ext (others_zero ds))

pub value_known : (ds : List Decl) (n : List ℕ) → IsTrue (differ (declared_texts ds)) → known_values (known ds ds) n ≡ parameters ds n
value_known ds n h = ap (λ (w : Assignment). w n) (values_known ds h)

-- ---- boxes
box_ends : (ks : List Known) (w : Assignment) (d : Decl) → known_values ks ≡ w → IsTrue (is_given d.section) → ((box_of ks d).low ≡ (name_of w d).low) × ((box_of ks d).high ≡ (name_of w d).high)
box_ends ks w d e g = go d.kind (is_given d.section) g
  where
    an_end : (usual : Number) (o : Option Tree) → end_value ks o ≡ end_of kind.Real usual w o
    an_end usual (Some t) = ap (λ (v : Assignment). value v t) e
    an_end usual None = refl

    go : (k : Kind) (b : Bool) → IsTrue b →
        ((cond (b && is_real k) (record { low = end_value ks d.low; high = end_value ks d.high }) (usual_box k)).low ≡ end_of k (whole 0) w d.low)
        × ((cond (b && is_real k) (record { low = end_value ks d.low; high = end_value ks d.high }) (usual_box k)).high ≡ end_of k (whole 1) w d.high)
    go kind.Real true g = (an_end (whole 0) d.low, an_end (whole 1) d.high)
    go kind.Real false g = absurd (cc)
    go kind.Bool true g = (refl, refl)
    go kind.Bool false g = absurd (cc)

-- a state or an input has the box of its name
pub box_known : (ds : List Decl) (d : Decl) → IsTrue (differ (declared_texts ds)) → IsTrue (is_given d.section) →
    ((box_of (known ds ds) d).low ≡ (name_of (parameters ds) d).low) × ((box_of (known ds ds) d).high ≡ (name_of (parameters ds) d).high)
box_known ds d h g = box_ends (known ds ds) (parameters ds) d (values_known ds h) g
