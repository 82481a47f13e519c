-- The faults of a whole source.
use Rattle.std.proofs.Common.{◌≡◌, ℕ, List, [], ◌∷◌, ◌++◌, Some, None, Bool, true, false, ◌||◌, ◌&&◌, not, cond, map, refl, sym, ◌∙◌, ap, ap₂, subst, append_assoc}
use Rattle.std.specs.Str.{bytes_eq}
use Rattle.std.specs.List.{list_any}
use Rattle.std.specs.Prelude.{nat_lt, length}
use Rattle.hys_number.specs.Ops.{whole}
use Rattle.hys_ast.specs.Tree.{Decl, Item}
use Rattle.hys_meaning.specs.Values.{Assignment}
use Rattle.hys_meaning.specs.Names.{Name, name_of, parameters}
use Rattle.hys_meaning.specs.Typed.{differ}
use Rattle.hys_type.specs.Faults.{Check, check, first_fault}
use Rattle.hys_type.specs.Walks.{walk}
use Rattle.hys_type.specs.Constants.{known_values}
use Rattle.hys_type.specs.Declarations.{name_checks, known, most_names}
use Rattle.hys_type.specs.Checks.{scoped, scope_by, item_checks}
use Rattle.hys_type.specs.Operands.{seen}
use Rattle.hys_type.specs.Made.{declared}
use Rattle.hys_type.specs.declared.constant.Known.{Known}
use Rattle.hys_type.specs.declared.fault.TypeFault.{TypeFault}
use Rattle.hys_type.specs.declared.fault.TypeFault.TheVariants as fault
use Rattle.hys_type.proofs.Firsts.{fault_after}
use Rattle.hys_type.proofs.KnownValues.{declared_texts, other_text, not_same, values_known}
use Rattle.hys_type.proofs.Unboxed.{unboxed, same_item}

-- ---- lists of checks
pub front_passes : (xs ys : List Check) → None ≡ first_fault (xs ++ ys) → None ≡ first_fault xs
front_passes [] ys h = refl
front_passes (x ∷ xs) ys h = one x.passes x.fault (front_passes xs ys) h
  where
    one : (b : Bool) (f : TypeFault) → (None ≡ first_fault (xs ++ ys) → None ≡ first_fault xs) → None ≡ cond b (first_fault (xs ++ ys)) (Some f) → None ≡ cond b (first_fault xs) (Some f)
    one true f k h = k h
    one false f k h = absurd (cc)

pub back_passes : (xs ys : List Check) → None ≡ first_fault (xs ++ ys) → None ≡ first_fault ys
back_passes xs ys h = h ∙ fault_after xs ys (front_passes xs ys h)

pub passed : (c : Check) (cs : List Check) → None ≡ first_fault (c ∷ cs) → c.passes ≡ true
passed c cs h = one c.passes h
  where
    one : (b : Bool) → None ≡ cond b (first_fault cs) (Some c.fault) → b ≡ true
    one true h = refl
    one false h = absurd (cc)

-- ---- each name once
Once : List Decl → List Decl → Type 0
Once before ds = None ≡ first_fault (walk name_checks before ds)

first_differs : (before : List Decl) (d : Decl) (ds : List Decl) → Once before (d ∷ ds) → list_any (λ m. bytes_eq d.name m.name) before ≡ false
unfolding Once
first_differs before d ds h = not_true (list_any (λ m. bytes_eq d.name m.name) before) (passed (check (not (list_any (λ m. bytes_eq d.name m.name) before)) (fault.Twice d.place)) (check (nat_lt (length before) most_names) fault.Limit ∷ []) (front_passes (name_checks before d) (walk name_checks (before ++ d ∷ []) ds) h))
  where
    not_true : (b : Bool) → not b ≡ true → b ≡ false
    not_true true h = absurd (cc)
    not_true false h = refl

rest_once : (before : List Decl) (d : Decl) (ds : List Decl) → Once before (d ∷ ds) → Once (before ++ d ∷ []) ds
unfolding Once
rest_once before d ds h = back_passes (name_checks before d) (walk name_checks (before ++ d ∷ []) ds) h

among : (n : List ℕ) (xs : List Decl) (b : Decl) (ys : List Decl) → list_any (λ m. bytes_eq n m.name) (xs ++ b ∷ ys) ≡ false → bytes_eq n b.name ≡ false
among n [] b ys h = first_of (bytes_eq n b.name) (list_any (λ m. bytes_eq n m.name) ys) h
  where
    first_of : (a c : Bool) → a || c ≡ false → a ≡ false
    first_of true c h = absurd (cc)
    first_of false c h = refl
among n (x ∷ xs) b ys h = among n xs b ys (second_of (bytes_eq n x.name) (list_any (λ m. bytes_eq n m.name) (xs ++ b ∷ ys)) h)
  where
    second_of : (a c : Bool) → a || c ≡ false → c ≡ false
    second_of true c h = absurd (cc)
    second_of false c h = h

absent : (xs : List Decl) (b : Decl) (ys ds : List Decl) → Once (xs ++ b ∷ ys) ds → list_any (bytes_eq b.name) (declared_texts ds) ≡ false
absent xs b ys [] h = refl
absent xs b ys (d ∷ ds) h =
    neither (bytes_eq b.name d.name) (list_any (bytes_eq b.name) (declared_texts ds)) (other_text b.name d.name (λ e. not_same d.name b.name (among d.name xs b ys (first_differs (xs ++ b ∷ ys) d ds h)) (sym e)))
    (absent xs b (ys ++ d ∷ []) ds (subst (λ zs. Once zs ds) (append_assoc xs (b ∷ ys) (d ∷ [])) (rest_once (xs ++ b ∷ ys) d ds h)))
  where
    neither : (a c : Bool) → a ≡ false → c ≡ false → a || c ≡ false
    neither true c h k = h
    neither false c h k = k

once_differs : (before ds : List Decl) → Once before ds → differ (declared_texts ds) ≡ true
once_differs before [] h = refl
once_differs before (d ∷ ds) h = both (list_any (bytes_eq d.name) (declared_texts ds)) (differ (declared_texts ds)) (absent before d [] ds (rest_once before d ds h)) (once_differs (before ++ d ∷ []) ds (rest_once before d ds h))
  where
    both : (a c : Bool) → a ≡ false → c ≡ true → not a && c ≡ true
    both true c h k = absurd (cc)
    both false c h k = k

pub names_differ : (ds : List Decl) → None ≡ first_fault (walk name_checks [] ds) → differ (declared_texts ds) ≡ true
unfolding Once
names_differ ds h = once_differs [] ds h

-- ---- items
abbrev one_name : Decl → Assignment → Name
one_name d v = record { text = d.name; section = d.section; kind = d.kind; low = whole 0; high = whole 0; value = v d.name }

pub seen_scope : (w : Assignment) (ks : List Known) (ds : List Decl) → known_values ks ≡ w → map seen (map (declared ks) ds) ≡ map unboxed (map (name_of w) ds)
seen_scope w ks [] h = refl
seen_scope w ks (d ∷ ds) h = ap₂ (λ (n : Name) (ns : List Name). n ∷ ns) (ap (λ (v : Assignment). one_name d v) h) (seen_scope w ks ds h)

walk_same : {A : Type 0} (f g : List A → A → List Check) → ((before : List A) (a : A) → f before a ≡ g before a) → (before rest : List A) → walk f before rest ≡ walk g before rest
walk_same f g h before [] = refl
walk_same f g h before (a ∷ rest) = ap₂ (λ (xs ys : List Check). xs ++ ys) (h before a) (walk_same f g h (before ++ a ∷ []) rest)

pub same_items : (ds : List Decl) (is : List Item) (ks : List Known) (ns : List Name) → differ (declared_texts ds) ≡ true → ks ≡ known ds ds → ns ≡ map seen (map (declared ks) ds) → walk (item_checks (scoped ns ks)) [] is ≡ walk (item_checks (scope_by ds)) [] is
same_items ds is ks ns h k e =
    let ms : List Name = map (name_of (parameters ds)) ds in
    ap₂ (λ (xs : List Name) (ls : List Known). walk (item_checks (scoped xs ls)) [] is) (e ∙ seen_scope (parameters ds) ks ds (ap known_values k ∙ values_known ds h)) k
    ∙ walk_same (item_checks (scoped (map unboxed ms) (known ds ds))) (item_checks (scoped ms (known ds ds))) (λ before i. same_item ms (known ds ds) before i) [] is
