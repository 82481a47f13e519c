-- The checks of values and boxes pass exactly where these are typed, the boxes aren't empty, and the numbers fit.
use Rattle.std.proofs.Common.{◌≡◌, ℕ, List, [], ◌∷◌, ◌++◌, Option, Some, None, Bool, true, false, not, cond, map, flat_map, filter, refl, sym, ◌∙◌, ap, subst, subst₂, append_assoc, ◌↔◌}
use Rattle.std.specs.Prelude.{IsTrue}
use Rattle.std.specs.List.{AllByRecursion}
use Rattle.std.specs.Str.{bytes_eq}
use Rattle.std.specs.Ordering.{is_le}
use Rattle.std.specs.declared.cmp.Ordering.{Ordering}
use Rattle.std.specs.declared.cmp.Ordering.TheVariants.{Less, Equal, Greater}
use Rattle.std.proofs.lemmas.List.{append-nil}
use Rattle.std.proofs.Math.Path.{fun_ext}
use Rattle.hys_number.specs.Ops.{◌≤ₙ◌}
use Rattle.hys_frac.specs.Compare.{number_cmp}
use Rattle.hys_frac.proofs.Comparisons.{is_le-cmp}
use Rattle.hys_ast.specs.declared.source.Kind.TheVariants as kind
use Rattle.hys_ast.specs.Tree.{Tree, Decl}
use Rattle.hys_ast.specs.Nodes.{if_any}
use Rattle.hys_meaning.specs.Values.{Assignment, value}
use Rattle.hys_meaning.specs.Names.{Name, name_of, look, is_parameter, parameters, valued}
use Rattle.hys_meaning.specs.Folding.{numbers_of, value_of, bounds_of}
use Rattle.hys_meaning.specs.Typed.{differ, only_parameters, IsMaybe, IsOfKind, IsReal, ValuesTyped, BoxTyped, IsBox, has_value, has_box}
use Rattle.hys_type.specs.Faults.{check}
use Rattle.hys_type.specs.declared.fault.TypeFault.TheVariants as fault
use Rattle.hys_type.specs.Constants.{find_known, known_values}
use Rattle.hys_type.specs.Declarations.{other, others, with_parameter, with_parameters, known, is_given, if_some, parameter_checks, value_checks, constant_of_kind, at_most, ends_checks, bounds_checks, given_bounds_checks, box_checks}
use Rattle.hys_type.specs.Walks.{walk}
use Rattle.hys_type.specs.Written.{KnownAs, AreKnown, AreAmong, IsReadDecl}
use Rattle.hys_type.specs.declared.constant.Known.{Known}
use Rattle.hys_type.proofs.KnownValues.{declared_texts, differ_texts, fresh_others, others_zero, values_known}
use Rattle.hys_type.proofs.Knowing.{with_last}
use Rattle.hys_type.proofs.Passing.{all_join, all_front, all_behind, Pass, pass_join, pass_front, pass_behind, EachPasses, walk_passes, passes_walk, Fit}
use Rattle.hys_type.proofs.PlaceRules.{constant_rule}
use Rattle.hys_type.proofs.ParameterRules.{look_front, parameter_among, Prefix, prefix_more, front_names}

-- ---- numbers of several expressions
abbrev pub FitOf : List Name → List Tree → Type 0
FitOf ns es = Fit (flat_map (numbers_of ns) es)

pub fit_of_join : (ns : List Name) (xs ys : List Tree) → FitOf ns xs → FitOf ns ys → FitOf ns (xs ++ ys)
fit_of_join ns [] ys h k = k
fit_of_join ns (x ∷ xs) ys h k = all_join _ (numbers_of ns x) (flat_map (numbers_of ns) (xs ++ ys)) (all_front _ (numbers_of ns x) (flat_map (numbers_of ns) xs) h) (fit_of_join ns xs ys (all_behind _ (numbers_of ns x) (flat_map (numbers_of ns) xs) h) k)

pub fit_of_split : (ns : List Name) (xs ys : List Tree) → FitOf ns (xs ++ ys) → FitOf ns xs × FitOf ns ys
fit_of_split ns [] ys h = (tt, h)
fit_of_split ns (x ∷ xs) ys h =
    let r = fit_of_split ns xs ys (all_behind _ (numbers_of ns x) (flat_map (numbers_of ns) (xs ++ ys)) h) in
    (all_join _ (numbers_of ns x) (flat_map (numbers_of ns) xs) (all_front _ (numbers_of ns x) (flat_map (numbers_of ns) (xs ++ ys)) h) r.0, r.1)

pub fit_one : (ns : List Name) (e : Tree) → Fit (numbers_of ns e) → FitOf ns (e ∷ [])
fit_one ns e h = all_join _ (numbers_of ns e) [] h tt

pub one_fit : (ns : List Name) (e : Tree) → FitOf ns (e ∷ []) → Fit (numbers_of ns e)
one_fit ns e h = all_front _ (numbers_of ns e) [] h

-- ---- one value
abbrev Valued : List Name → List Name → Decl → Type 0
Valued qs ns d = (IsTrue (is_parameter d.section) → IsTrue (has_value d.value)) × IsMaybe (IsOfKind d.kind qs) d.value × FitOf ns (value_of d)

never : {A : Type 0} → false ≡ true → A
never e = absurd (cc)

value_rule : (ks : List Known) (qs ns : List Name) (d : Decl) → AreKnown ks qs → AreAmong qs ns → IsReadDecl d → Pass (parameter_checks ks d) ↔ Valued qs ns d
value_rule ks qs ns d h a r = go (is_parameter d.section) d.value r.1
  where
    go : (b : Bool) (o : Option Tree) → (b ≡ false → o ≡ None) →
        Pass (cond b (check (is_given o) (fault.NoValue d.place) ∷ if_some (constant_of_kind d.kind ks) o) []) ↔ ((IsTrue b → IsTrue (has_value o)) × IsMaybe (IsOfKind d.kind qs) o × FitOf ns (cond b (if_any o) []))
    go true (Some e) f = (
      λ c. let s = (constant_rule ks qs ns h a d.kind e).0 c.1 in (λ i. refl, s.0, fit_one ns e s.1),
      λ t. (refl, (constant_rule ks qs ns h a d.kind e).1 (t.1, one_fit ns e t.2)),
    )
    go true None f = (λ c. never c.0, λ t. never (t.0 refl))
    go false None f = (λ c. (λ i. never i, tt, tt), λ t. tt)
    go false (Some e) f = let i = f refl in absurd (cc)

-- ---- all values
pub filter_join : (xs ys : List Name) → only_parameters (xs ++ ys) ≡ only_parameters xs ++ only_parameters ys
filter_join [] ys = refl
filter_join (x ∷ xs) ys = go (is_parameter x.section) (filter_join xs ys)
  where
    go : (b : Bool) → only_parameters (xs ++ ys) ≡ only_parameters xs ++ only_parameters ys →
        cond b (x ∷ only_parameters (xs ++ ys)) (only_parameters (xs ++ ys)) ≡ cond b (x ∷ only_parameters xs) (only_parameters xs) ++ only_parameters ys
    go true h = ap (λ zs. x ∷ zs) h
    go false h = h

front_among : (ns bs cs : List Name) → ns ≡ bs ++ cs → AreAmong (only_parameters ns) ns → AreAmong (only_parameters bs) ns
front_among ns bs cs e a n m h = a n m (ap (λ xs. look xs n) (ap only_parameters e ∙ filter_join bs cs) ∙ look_front (only_parameters bs) (only_parameters cs) n m h)

abbrev pub HaveV : List Decl → Type 0
HaveV ds = AllByRecursion (λ (d : Decl). IsTrue (is_parameter d.section) → IsTrue (has_value d.value)) ds

module _ (all : List Decl) (once : IsTrue (differ (declared_texts all))) where
  abbrev final : Assignment
  final = parameters all

  abbrev every : List Name
  every = map (name_of final) all

  every_among : AreAmong (only_parameters every) every
  every_among = parameter_among final all (differ_texts (declared_texts all) once)

  values_step : (before rest : List Decl) (bs : List Name) (d : Decl) → (IsTrue (is_parameter d.section) → IsTrue (has_value d.value)) → Prefix (known all before) (only_parameters bs) final (d ∷ rest) →
      Prefix (known all (before ++ d ∷ [])) (only_parameters (bs ++ name_of final d ∷ [])) final rest
  values_step before rest bs d v h = subst₂ (λ ks qs. Prefix ks qs final rest) (sym (with_last (others all) before d)) (sym (filter_join bs (name_of final d ∷ []))) (prefix_more (known all before) (only_parameters bs) final d rest v h)

  next_names : (bs : List Name) (d : Decl) (rest : List Decl) → every ≡ bs ++ map (name_of final) (d ∷ rest) → every ≡ (bs ++ name_of final d ∷ []) ++ map (name_of final) rest
  next_names bs d rest e = e ∙ sym (append_assoc bs (name_of final d ∷ []) (map (name_of final) rest))

  values_there : (before rest : List Decl) (bs : List Name) → every ≡ bs ++ map (name_of final) rest → AllByRecursion IsReadDecl rest → Prefix (known all before) (only_parameters bs) final rest → EachPasses (value_checks all) before rest →
      HaveV rest × ValuesTyped final bs rest × FitOf every (flat_map value_of rest)
  values_there before [] bs e r h c = (tt, tt, tt)
  values_there before (d ∷ rest) bs e r h c =
      let v = (value_rule (known all before) (only_parameters bs) every d h.known (front_among every bs (map (name_of final) (d ∷ rest)) e every_among) r.0).0 c.0 in
      let i = values_there (before ++ d ∷ []) rest (bs ++ name_of final d ∷ []) (next_names bs d rest e) r.1 (values_step before rest bs d v.0 h) c.1 in
      ((v.0, i.0), (v.1, i.1), fit_of_join every (value_of d) (flat_map value_of rest) v.2 i.2)

  values_back : (before rest : List Decl) (bs : List Name) → every ≡ bs ++ map (name_of final) rest → AllByRecursion IsReadDecl rest → Prefix (known all before) (only_parameters bs) final rest →
      HaveV rest → ValuesTyped final bs rest → FitOf every (flat_map value_of rest) → EachPasses (value_checks all) before rest
  values_back before [] bs e r h v t f = tt
  values_back before (d ∷ rest) bs e r h v t f =
      let g = fit_of_split every (value_of d) (flat_map value_of rest) f in (
        (value_rule (known all before) (only_parameters bs) every d h.known (front_among every bs (map (name_of final) (d ∷ rest)) e every_among) r.0).1 (v.0, t.0, g.0),
        values_back (before ++ d ∷ []) rest (bs ++ name_of final d ∷ []) (next_names bs d rest e) r.1 (values_step before rest bs d v.0 h) v.1 t.1 g.1,
      )

  others_plain : (ds : List Decl) (n : List ℕ) → KnownAs (find_known (others ds) n) None
  others_plain [] n = tt
  others_plain (d ∷ ds) n = go (is_parameter d.section) (others_plain ds n)
    where
      here : (c : Bool) → KnownAs (find_known (others ds) n) None → KnownAs (cond c (Some (other d)) (find_known (others ds) n)) None
      here true h = refl
      here false h = h

      go : (b : Bool) → KnownAs (find_known (others ds) n) None →
          KnownAs (find_known (map other (cond (not b) (d ∷ filter (λ (d : Decl). not (is_parameter d.section)) ds) (filter (λ (d : Decl). not (is_parameter d.section)) ds))) n) None
      go true h = h
      go false h = here (bytes_eq d.name n) h

  start : Prefix (known all []) (only_parameters []) final all
  start = record { known = others_plain all; fresh = fresh_others all (differ_texts (declared_texts all) once); apart = differ_texts (declared_texts all) once; values = ap (λ (w : Assignment). valued w all) (sym (fun_ext (others_zero all))) }

  pub values_rule : AllByRecursion IsReadDecl all → Pass (walk (value_checks all) [] all) ↔ (HaveV all × ValuesTyped final [] all × FitOf every (flat_map value_of all))
  values_rule r = (λ c. values_there [] all [] refl r start (walk_passes (value_checks all) [] all c), λ t. passes_walk (value_checks all) [] all (values_back [] all [] refl r start t.0 t.1 t.2))

  -- ---- what all know
  end_known : (ks : List Known) (qs : List Name) (rest : List Decl) → HaveV rest → Prefix ks qs final rest → AreKnown (with_parameters ks rest) (qs ++ only_parameters (map (name_of final) rest))
  end_known ks qs [] v h = subst (λ xs. AreKnown ks xs) (sym (append-nil qs)) h.known
  end_known ks qs (d ∷ rest) v h =
      subst (λ xs. AreKnown (with_parameters ks (d ∷ rest)) xs) (append_assoc qs (only_parameters (name_of final d ∷ [])) (only_parameters (map (name_of final) rest)) ∙ ap (λ xs. qs ++ xs) (sym (filter_join (name_of final d ∷ []) (map (name_of final) rest))))
      (end_known (with_parameter ks d) (front_names final d qs) rest v.1 (prefix_more ks qs final d rest v.0 h))

  pub all_known : HaveV all → AreKnown (known all all) (only_parameters every)
  all_known v = end_known (others all) [] all v start

  -- ---- boxes
  most_is : (o : Ordering) → at_most o ≡ is_le o
  most_is Less = refl
  most_is Equal = refl
  most_is Greater = refl

  abbrev Boxed : Decl → Type 0
  Boxed d = BoxTyped every d × (IsTrue (has_box d) → IsBox final d.low d.high) × FitOf every (bounds_of d)

  box_rule : (ks : List Known) → AreKnown ks (only_parameters every) → known_values ks ≡ final → (d : Decl) → IsReadDecl d → Pass (box_checks ks d) ↔ Boxed d
  box_rule ks h e d r = go (has_box d) d.low d.high r.2
    where
      there : (low high : Tree) → Pass (bounds_checks ks low high d.place) → (IsReal (only_parameters every) low × IsReal (only_parameters every) high) × (value final low ≤ₙ value final high) × FitOf every (low ∷ high ∷ [])
      there low high c =
          let rest = pass_behind (constant_of_kind kind.Real ks low) _ c in
          let i = (constant_rule ks (only_parameters every) every h every_among kind.Real low).0 (pass_front (constant_of_kind kind.Real ks low) _ c) in
          let j = (constant_rule ks (only_parameters every) every h every_among kind.Real high).0 (pass_front (constant_of_kind kind.Real ks high) (ends_checks (value (known_values ks) low) (value (known_values ks) high) d.place) rest) in
          let l = (pass_behind (constant_of_kind kind.Real ks high) (ends_checks (value (known_values ks) low) (value (known_values ks) high) d.place) rest).0 in (
            (i.0, j.0),
            subst (λ (w : Assignment). value w low ≤ₙ value w high) e ((is_le-cmp (value (known_values ks) low) (value (known_values ks) high)).0 (sym (most_is (number_cmp (value (known_values ks) low) (value (known_values ks) high))) ∙ l)),
            fit_of_join every (low ∷ []) (high ∷ []) (fit_one every low i.1) (fit_one every high j.1),
          )

      back : (low high : Tree) → IsReal (only_parameters every) low → IsReal (only_parameters every) high → value final low ≤ₙ value final high → FitOf every (low ∷ high ∷ []) → Pass (bounds_checks ks low high d.place)
      back low high i j l f =
          let g = fit_of_split every (low ∷ []) (high ∷ []) f in
          let m = subst (λ (w : Assignment). value w low ≤ₙ value w high) (sym e) l in
          pass_join (constant_of_kind kind.Real ks low) _ ((constant_rule ks (only_parameters every) every h every_among kind.Real low).1 (i, one_fit every low g.0))
          (pass_join (constant_of_kind kind.Real ks high) _ ((constant_rule ks (only_parameters every) every h every_among kind.Real high).1 (j, one_fit every high g.1))
          (most_is (number_cmp (value (known_values ks) low) (value (known_values ks) high)) ∙ (is_le-cmp (value (known_values ks) low) (value (known_values ks) high)).1 m, tt))

      go : (b : Bool) (low high : Option Tree) → (b ≡ false → (low ≡ None) × (high ≡ None)) → Pass (cond b (given_bounds_checks ks low high d.place) []) ↔
          ((IsMaybe (IsReal (only_parameters every)) low × IsMaybe (IsReal (only_parameters every)) high) × (IsTrue b → IsBox final low high) × FitOf every (cond b (if_any low ++ if_any high) []))
      go true (Some low) (Some high) f = (
        λ c. let t = there low high c in (t.0, λ i. t.1, t.2),
        λ t. back low high t.0.0 t.0.1 (t.1 refl) t.2,
      )
      go true (Some low) None f = (λ c. never c.0, λ t. absurd (t.1 refl))
      go true None high f = (λ c. never c.0, λ t. absurd (t.1 refl))
      go false None None f = (λ c. ((tt, tt), λ i. never i, tt), λ t. tt)
      go false (Some low) high f = let i = (f refl).0 in absurd (cc)
      go false None (Some high) f = let i = (f refl).1 in absurd (cc)

  abbrev Boxes : List Decl → Type 0
  Boxes ds = AllByRecursion (BoxTyped every) ds × AllByRecursion (λ (d : Decl). IsTrue (has_box d) → IsBox final d.low d.high) ds × FitOf every (flat_map bounds_of ds)

  boxes_there : (ks : List Known) → AreKnown ks (only_parameters every) → known_values ks ≡ final → (before ds : List Decl) → AllByRecursion IsReadDecl ds → EachPasses (λ before d. box_checks ks d) before ds → Boxes ds
  boxes_there ks h e before [] r c = (tt, tt, tt)
  boxes_there ks h e before (d ∷ ds) r c =
      let i = (box_rule ks h e d r.0).0 c.0 in
      let j = boxes_there ks h e (before ++ d ∷ []) ds r.1 c.1 in
      ((i.0, j.0), (i.1, j.1), fit_of_join every (bounds_of d) (flat_map bounds_of ds) i.2 j.2)

  boxes_back : (ks : List Known) → AreKnown ks (only_parameters every) → known_values ks ≡ final → (before ds : List Decl) → AllByRecursion IsReadDecl ds → Boxes ds → EachPasses (λ before d. box_checks ks d) before ds
  boxes_back ks h e before [] r t = tt
  boxes_back ks h e before (d ∷ ds) r t =
      let g = fit_of_split every (bounds_of d) (flat_map bounds_of ds) t.2 in
      ((box_rule ks h e d r.0).1 (t.0.0, t.1.0, g.0), boxes_back ks h e (before ++ d ∷ []) ds r.1 (t.0.1, t.1.1, g.1))

  pub boxes_rule : AllByRecursion IsReadDecl all → HaveV all → Pass (walk (λ before d. box_checks (known all all) d) [] all) ↔ Boxes all
  boxes_rule r v = (
    λ c. boxes_there (known all all) (all_known v) (values_known all once) [] all r (walk_passes _ [] all c),
    λ t. passes_walk _ [] all (boxes_back (known all all) (all_known v) (values_known all once) [] all r t),
  )
