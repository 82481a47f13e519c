-- The names that constant expressions know, one declaration after the other.
use Rattle.std.proofs.Common.{◌||◌, Bool, ◌≡◌, ℕ, ◌+◌, ◌<◌, ◌≤◌, List, [], ◌∷◌, ◌++◌, true, false, map, take, drop, length, get_or, refl, sym, ◌∙◌, ap, subst, zero, suc, append_assoc, Some, None}
use Rattle.std.proofs.lemmas.List.{drop_all, append-nil}
use Rattle.std.proofs.Math.Seq.{drop-nil}
use Rattle.std.specs.List.{AllByRecursion, list_any}
use Rattle.hys_ast.specs.Tree as tree
use Rattle.hys_ast.specs.declared.source.Decl.{Decl}
use Rattle.hys_ast.specs.declared.source.Item.{Item}
use Rattle.hys_ast.specs.Seen.{decl_of, item_of}
use Rattle.hys_meaning.specs.Typed.{defines, is_defined}
use Rattle.hys_type.specs.Checks.{missing_checks}
use Rattle.hys_type.specs.Faults.{first_fault}
use Rattle.hys_type.specs.declared.fault.TypeFault.TheVariants as fault
use Rattle.hys_meaning.specs.Names.{is_parameter}
use Rattle.hys_type.specs.Declarations.{other, others, with_parameter, with_parameters, known}
use Rattle.hys_type.specs.declared.constant.Known.{Known}
use Rattle.hys_type.proofs.Walks.{drop_here, longer}

-- ---- other names
pub kept_here : (ks : List Known) (ds : List Decl) (i : ℕ) (d : Decl) (k : Known) → i < length ds → d ≡ get_or ds i d → is_parameter d.section ≡ false → k ≡ other (decl_of d) →
    ks ++ others (map decl_of (drop i ds)) ≡ others (map decl_of ds) → (ks ++ k ∷ []) ++ others (map decl_of (drop (i + 1) ds)) ≡ others (map decl_of ds)
kept_here ks ds i d k h e n o w =
    append_assoc ks (k ∷ []) (others (map decl_of (drop (i + 1) ds))) ∙ ap (λ ys. ks ++ ys) (ap (λ x. x ∷ others (map decl_of (drop (i + 1) ds))) o ∙ sym (ap (λ ys. others (map decl_of ys)) (drop_here ds i d h e) ∙ rw n refl)) ∙ w

pub left_here : (ks : List Known) (ds : List Decl) (i : ℕ) (d : Decl) → i < length ds → d ≡ get_or ds i d → is_parameter d.section ≡ true →
    ks ++ others (map decl_of (drop i ds)) ≡ others (map decl_of ds) → ks ++ others (map decl_of (drop (i + 1) ds)) ≡ others (map decl_of ds)
left_here ks ds i d h e n w = ap (λ ys. ks ++ ys) (sym (ap (λ ys. others (map decl_of ys)) (drop_here ds i d h e) ∙ rw n refl)) ∙ w

pub all_others : (ks : List Known) (ds : List Decl) (i : ℕ) → length ds ≤ i → ks ++ others (map decl_of (drop i ds)) ≡ others (map decl_of ds) → ks ≡ others (map decl_of ds)
all_others ks ds i h w = sym (append-nil ks) ∙ ap (λ ys. ks ++ others (map decl_of ys)) (sym (drop_all i ds h)) ∙ w

-- ---- parameters
pub with_last : (ks : List Known) (ds : List tree.Decl) (d : tree.Decl) → with_parameters ks (ds ++ d ∷ []) ≡ with_parameter (with_parameters ks ds) d
with_last ks [] d = refl
with_last ks (x ∷ ds) d = with_last (with_parameter ks x) ds d

pub one_known : (ks ls : List Known) (ds : List Decl) (i : ℕ) (d : Decl) → i < length ds → d ≡ get_or ds i d → ks ≡ known (map decl_of ds) (map decl_of (take i ds)) → ls ≡ with_parameter ks (decl_of d) →
    ls ≡ known (map decl_of ds) (map decl_of (take (i + 1) ds))
one_known ks ls ds i d h e w o =
    o ∙ ap (λ xs. with_parameter xs (decl_of d)) w ∙ sym (with_last (others (map decl_of ds)) (map decl_of (take i ds)) (decl_of d)) ∙ ap (λ xs. known (map decl_of ds) xs) (sym (longer decl_of ds i d h e))

-- ---- what holds of each declaration
dropped : (P : tree.Decl → Type 0) (xs : List Decl) (n : ℕ) → AllByRecursion P (map decl_of xs) → AllByRecursion P (map decl_of (drop n xs))
dropped P [] n w = subst (λ ys. AllByRecursion P (map decl_of ys)) (sym (drop-nil n)) tt
dropped P (x ∷ xs) zero w = w
dropped P (x ∷ xs) (suc n) w = dropped P xs n w.1

pub each_has : (P : tree.Decl → Type 0) (ds : List Decl) (i : ℕ) (d : Decl) → i < length ds → d ≡ get_or ds i d → AllByRecursion P (map decl_of ds) → P (decl_of d)
each_has P ds i d h e w = (subst (λ zs. AllByRecursion P (map decl_of zs)) (drop_here ds i d h e) (dropped P ds i w)).0

-- ---- items that define a name
pub any_item : (n : List ℕ) (is : List Item) → list_any (λ i. defines n i.name) (map item_of is) ≡ list_any (λ i. defines n i.name) is
any_item n [] = refl
any_item n (i ∷ is) = ap (λ (b : Bool). defines n i.name || b) (any_item n is)

pub missing_name : (m : List ℕ) (d : Decl) (is : List Item) → m ≡ d.name → true ≡ is_defined d.section → false ≡ list_any (λ i. defines d.name i.name) is → Some (fault.Missing m) ≡ first_fault (missing_checks (map item_of is) (decl_of d))
missing_name m d is e h k = ap (λ (n : List ℕ). Some (fault.Missing n)) e ∙ rw (sym h, any_item d.name is, sym k) refl

pub found_name : (d : Decl) (is : List Item) → true ≡ is_defined d.section → true ≡ list_any (λ i. defines d.name i.name) is → None ≡ first_fault (missing_checks (map item_of is) (decl_of d))
found_name d is h k = rw (sym h, any_item d.name is, sym k) refl

pub no_need : (d : Decl) (is : List Item) → false ≡ is_defined d.section → None ≡ first_fault (missing_checks (map item_of is) (decl_of d))
no_need d is h = rw (sym h) refl
