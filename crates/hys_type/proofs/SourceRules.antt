-- The checks of a source pass exactly where it keeps its rules and its numbers fit.
use Rattle.std.proofs.Common.{◌≡◌, ℕ, List, [], ◌∷◌, ◌++◌, Option, Some, None, Bool, true, false, cond, map, flat_map, refl, sym, ◌∙◌, ap, subst, ◌↔◌}
use Rattle.std.specs.Prelude.{IsTrue}
use Rattle.std.specs.Str.{bytes_eq}
use Rattle.std.specs.List.{AllByRecursion, list_any}
use Rattle.std.proofs.lemmas.List.{append-nil}
use Rattle.hys_number.specs.Ops.{whole}
use Rattle.hys_ast.specs.declared.source.Section.TheVariants as section
use Rattle.hys_ast.specs.Tree.{Decl, Item, Source}
use Rattle.hys_ast.specs.Nodes.{items_expressions}
use Rattle.hys_meaning.specs.Values.{Assignment}
use Rattle.hys_meaning.specs.Names.{Name, name_of, names, look, parameters, valued, with_value, is_parameter}
use Rattle.hys_meaning.specs.Folding.{value_of, bounds_of, judged}
use Rattle.hys_meaning.specs.Unfolded.{Guard, guard_name, guard_decl, guards, unfolded}
use Rattle.hys_meaning.specs.Typed.{only_parameters, suits, defines, is_defined}
use Rattle.hys_type.specs.Faults.{check}
use Rattle.hys_type.specs.Declarations.{name_checks, value_checks, box_checks, known}
use Rattle.hys_type.specs.Walks.{walk}
use Rattle.hys_type.specs.Checks.{checks, scope, item_checks, missing_checks}
use Rattle.hys_type.specs.Written.{IsNoGuard, AreNamed, GoTogether, IsReadDecl}
use Rattle.hys_type.specs.DeclarationKeeping.{declared_names, KeepDeclarations, IsReadSource, KeepsItsRules}
use Rattle.hys_type.specs.declared.fault.TypeFault.TheVariants as fault
use Rattle.hys_type.proofs.KnownValues.{own_text, other_text, differ_texts, declared_texts}
use Rattle.hys_type.proofs.Passing.{Pass, pass_join, pass_front, pass_behind, EachPasses, walk_passes, passes_walk}
use Rattle.hys_type.proofs.ParameterRules.{look_front, look_join, or_name, parameter_among}
use Rattle.hys_type.proofs.ValueRules.{FitOf, fit_of_join, fit_of_split, filter_join, all_known}
use Rattle.hys_type.proofs.DeclarationRules.{declarations_rule}
use Rattle.hys_type.proofs.ItemRules.{items_rule}

-- ---- the names of guards
valued_guards : (w : Assignment) (gs : List Guard) → valued w (map guard_decl gs) ≡ w
valued_guards w [] = refl
valued_guards w (g ∷ gs) = valued_guards w gs

valued_join : (w : Assignment) (xs ys : List Decl) → valued w (xs ++ ys) ≡ valued (valued w xs) ys
valued_join w [] ys = refl
valued_join w (x ∷ xs) ys = valued_join (with_value (is_parameter x.section) x.kind x.name x.value w) xs ys

map_join : (w : Assignment) (xs ys : List Decl) → map (name_of w) (xs ++ ys) ≡ map (name_of w) xs ++ map (name_of w) ys
map_join w [] ys = refl
map_join w (x ∷ xs) ys = ap (λ zs. name_of w x ∷ zs) (map_join w xs ys)

abbrev guard_names : Assignment → List Guard → List Name
guard_names w gs = map (name_of w) (map guard_decl gs)

pub values_more : (s : Source) → parameters (unfolded s).decls ≡ parameters s.decls
values_more s = valued_join (λ n. whole 0) s.decls (map guard_decl (guards s)) ∙ valued_guards (parameters s.decls) (guards s)

pub names_more : (s : Source) → names (unfolded s) ≡ names s ++ guard_names (parameters s.decls) (guards s)
names_more s =
    ap (λ (w : Assignment). map (name_of w) (s.decls ++ map guard_decl (guards s))) (valued_join (λ n. _) s.decls (map guard_decl (guards s)) ∙ valued_guards (parameters s.decls) (guards s))
    ∙ map_join (parameters s.decls) s.decls (map guard_decl (guards s))

no_guard_name : (w : Assignment) (gs : List Guard) (n : List ℕ) → IsNoGuard n → look (guard_names w gs) n ≡ None
no_guard_name w [] n h = refl
no_guard_name w (g ∷ gs) n h = ap (λ b. cond b (Some (name_of w (guard_decl g))) (look (guard_names w gs) n)) (other_text (guard_name g.number) n (λ e. h g.number (sym e))) ∙ no_guard_name w gs n h

no_declared_guard : (w : Assignment) (ds : List Decl) → AllByRecursion IsReadDecl ds → (k : ℕ) → look (map (name_of w) ds) (guard_name k) ≡ None
no_declared_guard w [] r k = refl
no_declared_guard w (d ∷ ds) r k = ap (λ b. cond b (Some (name_of w d)) (look (map (name_of w) ds) (guard_name k))) (other_text d.name (guard_name k) (λ e. r.0.0 k e)) ∙ no_declared_guard w ds r.1 k

or_none : (o : Option Name) → or_name o None ≡ o
or_none (Some m) = refl
or_none None = refl

-- ---- each guard is found
abbrev IsFound : Assignment → List Guard → Guard → Type 0
IsFound w gs h = suits section.Ad (look (guard_names w gs) (guard_name h.number)) ≡ true

found_later : (w : Assignment) (g : Guard) (gs hs : List Guard) → AllByRecursion (IsFound w gs) hs → AllByRecursion (IsFound w (g ∷ gs)) hs
found_later w g gs [] h = tt
found_later w g gs (x ∷ hs) h = (go (bytes_eq (guard_name g.number) (guard_name x.number)) h.0, found_later w g gs hs h.1)
  where
    go : (b : Bool) → IsFound w gs x → suits section.Ad (cond b (Some (name_of w (guard_decl g))) (look (guard_names w gs) (guard_name x.number))) ≡ true
    go true i = refl
    go false i = i

all_found : (w : Assignment) (gs : List Guard) → AllByRecursion (IsFound w gs) gs
all_found w [] = tt
all_found w (g ∷ gs) = (ap (λ b. suits section.Ad (cond b (Some (name_of w (guard_decl g))) (look (guard_names w gs) (guard_name g.number)))) (own_text (guard_name g.number)), found_later w g gs gs (all_found w gs))

are_named : (w : Assignment) (ds : List Decl) (gs hs : List Guard) → AllByRecursion IsReadDecl ds → AllByRecursion (IsFound w gs) hs → AreNamed (map (name_of w) ds ++ guard_names w gs) hs
are_named w ds gs [] r h = tt
are_named w ds gs (x ∷ hs) r h = (
  ap (suits section.Ad) (look_join (map (name_of w) ds) (guard_names w gs) (guard_name x.number) ∙ ap (λ o. or_name o (look (guard_names w gs) (guard_name x.number))) (no_declared_guard w ds r x.number)) ∙ h.0,
  are_named w ds gs hs r h.1,
)

no_parameters : (w : Assignment) (gs : List Guard) → only_parameters (guard_names w gs) ≡ []
no_parameters w [] = refl
no_parameters w (g ∷ gs) = no_parameters w gs

pub same_parameters : (s : Source) → only_parameters (names (unfolded s)) ≡ only_parameters (names s)
same_parameters s =
    ap only_parameters (names_more s) ∙ filter_join (names s) (guard_names (parameters s.decls) (guards s)) ∙ ap (λ xs. only_parameters (names s) ++ xs) (no_parameters (parameters s.decls) (guards s)) ∙ append-nil (only_parameters (names s))

-- ---- names and guards go together
go_together_by : (ds : List Decl) (gs : List Guard) → AllByRecursion IsReadDecl ds → KeepDeclarations ds → GoTogether (declared_names ds) (declared_names ds ++ guard_names (parameters ds) gs) (known ds ds)
go_together_by ds gs r k = record {
  same = λ n h. look_join (declared_names ds) (guard_names (parameters ds) gs) n ∙ ap (or_name (look (declared_names ds) n)) (no_guard_name (parameters ds) gs n h) ∙ or_none (look (declared_names ds) n);
  known = all_known ds k.once k.values;
  among = parameter_among (parameters ds) ds (differ_texts (declared_texts ds) k.once);
  still = λ n m h. look_front (declared_names ds) (guard_names (parameters ds) gs) n m (parameter_among (parameters ds) ds (differ_texts (declared_texts ds) k.once) n m h);
  parameters = filter_join (declared_names ds) (guard_names (parameters ds) gs) ∙ ap (λ xs. only_parameters (declared_names ds) ++ xs) (no_parameters (parameters ds) gs) ∙ append-nil (only_parameters (declared_names ds));
}

pub go_together : (s : Source) → AllByRecursion IsReadDecl s.decls → KeepDeclarations s.decls → GoTogether (names s) (names (unfolded s)) (known s.decls s.decls)
go_together s r k = subst (λ ms. GoTogether (names s) ms (known s.decls s.decls)) (sym (names_more s)) (go_together_by s.decls (guards s) r k)

pub guards_named : (s : Source) → AllByRecursion IsReadDecl s.decls → AreNamed (names (unfolded s)) (guards s)
guards_named s r = subst (λ ms. AreNamed ms (guards s)) (sym (names_more s)) (are_named (parameters s.decls) s.decls (guards s) (guards s) r (all_found (parameters s.decls) (guards s)))

-- ---- names that are missing
abbrev AreDefined : List Item → List Decl → Type 0
AreDefined is ds = AllByRecursion (λ (d : Decl). IsTrue (is_defined d.section) → IsTrue (list_any (λ (i : Item). defines d.name i.name) is)) ds

missing_there : (is : List Item) (before ds : List Decl) → EachPasses (λ before d. missing_checks is d) before ds → AreDefined is ds
missing_there is before [] c = tt
missing_there is before (d ∷ ds) c = (go (is_defined d.section) c.0, missing_there is (before ++ d ∷ []) ds c.1)
  where
    go : (b : Bool) → Pass (cond b (check (list_any (λ (i : Item). defines d.name i.name) is) (fault.Missing d.name) ∷ []) []) → b ≡ true → list_any (λ (i : Item). defines d.name i.name) is ≡ true
    go true c e = c.0
    go false c e = absurd (cc)

missing_back : (is : List Item) (before ds : List Decl) → AreDefined is ds → EachPasses (λ before d. missing_checks is d) before ds
missing_back is before [] h = tt
missing_back is before (d ∷ ds) h = (go (is_defined d.section) h.0, missing_back is (before ++ d ∷ []) ds h.1)
  where
    go : (b : Bool) → (b ≡ true → list_any (λ (i : Item). defines d.name i.name) is ≡ true) → Pass (cond b (check (list_any (λ (i : Item). defines d.name i.name) is) (fault.Missing d.name) ∷ []) [])
    go true f = (f refl, tt)
    go false f = tt

-- ---- a source
pub source_rule : (s : Source) → IsReadSource s → Pass (checks s) ↔ (KeepsItsRules s × FitOf (names s) (judged s))
source_rule s r = (there, back)
  where
    there : Pass (checks s) → KeepsItsRules s × FitOf (names s) (judged s)
    there c =
        let c2 = pass_behind (walk name_checks [] s.decls) ((walk (value_checks s.decls) [] s.decls) ++ ((walk (λ (before : List Decl) (d : Decl). box_checks (known s.decls s.decls) d) [] s.decls) ++ ((walk (item_checks (scope s)) [] s.items) ++ (walk (λ (before : List Decl) (d : Decl). missing_checks s.items d) [] s.decls)))) c in
        let c3 = pass_behind (walk (value_checks s.decls) [] s.decls) ((walk (λ (before : List Decl) (d : Decl). box_checks (known s.decls s.decls) d) [] s.decls) ++ ((walk (item_checks (scope s)) [] s.items) ++ (walk (λ (before : List Decl) (d : Decl). missing_checks s.items d) [] s.decls))) c2 in
        let c4 = pass_behind (walk (λ before d. box_checks (known s.decls s.decls) d) [] s.decls) ((walk (item_checks (scope s)) [] s.items) ++ (walk (λ (before : List Decl) (d : Decl). missing_checks s.items d) [] s.decls)) c3 in
        let c5 = pass_behind (walk (item_checks (scope s)) [] s.items) (walk (λ (before : List Decl) (d : Decl). missing_checks s.items d) [] s.decls) c4 in
        let d = (declarations_rule s.decls r.decls).0 (pass_join (walk name_checks [] s.decls) _ (pass_front (walk name_checks [] s.decls) _ c) (pass_join (walk (value_checks s.decls) [] s.decls) _ (pass_front (walk (value_checks s.decls) [] s.decls) _ c2) (pass_front (walk (λ (before : List Decl) (d : Decl). box_checks (known s.decls s.decls) d) [] s.decls) _ c3))) in
        let i = (items_rule (names s) (names (unfolded s)) (known s.decls s.decls) (go_together s r.decls d.0) s.items 1 r.items (guards_named s r.decls)).0 (pass_front (walk (item_checks (scope s)) [] s.items) (walk (λ (before : List Decl) (d : Decl). missing_checks s.items d) [] s.decls) c4) in
        let f = fit_of_split (names s) (flat_map value_of s.decls) (flat_map bounds_of s.decls) d.1 in (
          record { declarations = d.0; typed = i.1; once = i.0; defined = missing_there s.items [] s.decls (walk_passes _ [] s.decls c5) },
          fit_of_join (names s) (flat_map value_of s.decls) (flat_map bounds_of s.decls ++ items_expressions s.items) f.0 (fit_of_join (names s) (flat_map bounds_of s.decls) (items_expressions s.items) f.1 i.2),
        )

    back : KeepsItsRules s × FitOf (names s) (judged s) → Pass (checks s)
    back t =
        let k : KeepsItsRules s = t.0 in
        let f = fit_of_split (names s) (flat_map value_of s.decls) (flat_map bounds_of s.decls ++ items_expressions s.items) t.1 in
        let h = fit_of_split (names s) (flat_map bounds_of s.decls) (items_expressions s.items) f.1 in
        let d = (declarations_rule s.decls r.decls).1 (k.declarations, fit_of_join (names s) (flat_map value_of s.decls) (flat_map bounds_of s.decls) f.0 h.0) in
        let i = (items_rule (names s) (names (unfolded s)) (known s.decls s.decls) (go_together s r.decls k.declarations) s.items 1 r.items (guards_named s r.decls)).1 (k.once, k.typed, h.1) in
        let e = pass_behind (walk name_checks [] s.decls) ((walk (value_checks s.decls) [] s.decls) ++ (walk (λ (before : List Decl) (d : Decl). box_checks (known s.decls s.decls) d) [] s.decls)) d in
        pass_join (walk name_checks [] s.decls) _ (pass_front (walk name_checks [] s.decls) ((walk (value_checks s.decls) [] s.decls) ++ (walk (λ (before : List Decl) (d : Decl). box_checks (known s.decls s.decls) d) [] s.decls)) d) (pass_join (walk (value_checks s.decls) [] s.decls) _ (pass_front (walk (value_checks s.decls) [] s.decls) (walk (λ (before : List Decl) (d : Decl). box_checks (known s.decls s.decls) d) [] s.decls) e) (pass_join (walk (λ (before : List Decl) (d : Decl). box_checks (known s.decls s.decls) d) [] s.decls) _ (pass_behind (walk (value_checks s.decls) [] s.decls) (walk (λ (before : List Decl) (d : Decl). box_checks (known s.decls s.decls) d) [] s.decls) e) (pass_join (walk (item_checks (scope s)) [] s.items) (walk (λ (before : List Decl) (d : Decl). missing_checks s.items d) [] s.decls) i (passes_walk _ [] s.decls (missing_back s.items [] s.decls k.defined)))))
