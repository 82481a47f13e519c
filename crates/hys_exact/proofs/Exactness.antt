-- A system that is made of parts that mean the items of a program is exact for it.
use Rattle.std.proofs.Common.{◌≡◌, ◌↔◌, ℕ, ◌+◌, ◌-◌, ◌<◌, List, [], ◌∷◌, ◌++◌, true, false, length, get_or, map, refl, sym, ◌∙◌, ap, ap₂, arith, subst, inl, inr, ◌⊎◌, append_assoc, length-append, IsTrue, set, length-set}
use Rattle.std.specs.List.{HoldsAt}
use Rattle.std.proofs.lemmas.List.{map-append, length-map, get_or_append_left, get_or-map}
use Rattle.std.proofs.lemmas.Simd.{map-map}
use Rattle.hys_number.specs.Number.{Number}
use Rattle.hys_number.specs.Ops.{whole, ◌≤ₙ◌}
use Rattle.hys_number.proofs.Order.{le_refl'}
use Rattle.hys_number.proofs.Field.{ratios}
use Rattle.hys_number.proofs.Laws.{whole-ratio}
use Rattle.hys_lin.specs.declared.form.Interval.{Interval}
use Rattle.hys_lin.specs.Bits.{IsBit, bit}
use Rattle.hys_lin.specs.Ranges.{box_at}
use Rattle.hys_lin.specs.Sums.{Assignment, at, HoldAll, Within, value}
use Rattle.hys_ast.specs.declared.source.Kind.{Kind}
use Rattle.hys_ast.specs.declared.source.Kind.TheVariants as source
use Rattle.hys_prog.specs.declared.program.Role.{Role}
use Rattle.hys_prog.specs.declared.program.Role.TheVariants.{State, Input, Output, Parameter, Aux}
use Rattle.hys_prog.specs.declared.program.Name.{Name}
use Rattle.hys_prog.specs.declared.program.ProgItem.{ProgItem}
use Rattle.hys_prog.specs.declared.program.Program.{Program}
use Rattle.hys_prog.specs.declared.program.Order.{Order}
use Rattle.hys_prog.specs.Programs.{IsProgram, EachItem, NameAt, Has, IsVariable, IsBooleanVariable, has_column, is_defined}
use Rattle.hys_prog.specs.Steps.{Legal, CaseOf, InGap, Demand, IsOfKind, InBox, places, is_state, is_input, is_output, is_auxiliary, is_given}
use Rattle.hys_prog.specs.Orders.{IsIn, IsOrder}
use Rattle.hys_prog.specs.Stops.{IsValued, number_in, numbers_in}
use Rattle.hys_prog.specs.Walk.{exact, found, started}
use Rattle.hys_prog.proofs.Members.{at_in}
use Rattle.hys_prog.proofs.Names.{name_map, aux_defined}
use Rattle.hys_prog.proofs.Placing.{state_defined, output_defined}
use Rattle.hys_prog.proofs.Walking.{started_count}
use Rattle.hys_prog.proofs.Valuing.{exact_valued, cases_follow}
use Rattle.hys_prog.proofs.Assigning.{Is, is_fixed}
use Rattle.hys_prog.proofs.Judging.{given_step, one_assignment, one_step, step_valued}
use Rattle.hys_prog.proofs.Reading.{Same, all_read, reads_for, same_number_in}
use Rattle.hys_bound.specs.Ranges.{intervals, unit}
use Rattle.hys_bound.specs.Values.{TakesValues, has_value}
use Rattle.hys_bound.proofs.Holding.{intervals_hold}
use Rattle.hys_logic.specs.Literals.{column_in}
use Rattle.hys_logic.specs.Rows.{Agrees, BitsFrom}
use Rattle.hys_sys.specs.declared.system.Kind2.{Kind2}
use Rattle.hys_sys.specs.declared.system.Kind2.TheVariants as kind
use Rattle.hys_sys.specs.declared.system.Column.{Column}
use Rattle.hys_sys.specs.declared.system.Output.{Output as SystemOutput}
use Rattle.hys_sys.specs.declared.system.System.{System}
use Rattle.hys_sys.specs.Solution.{Solution, IsOfKind as IsOfColumnKind}
use Rattle.hys_sys.specs.Exact.{AreIn, From, ExactAt, Exact, Named, values, bools, reals}
use Rattle.hys_exact.specs.Automata.{kind_of, automaton_of, LegalSteps, by_places}
use Rattle.hys_exact.specs.Columns.{front, behind, of_each, own_place, is_boolean_auxiliary, is_real_auxiliary}
use Rattle.hys_exact.specs.Parts.{HasBits, IsMet, AreSame, AreInside, by_columns, rows_of, count_of, fresh_of, forms_of}
use Rattle.hys_exact.specs.Built.{IsBuilt, form_for, is_output_name, output_with}
use Rattle.hys_exact.proofs.Places.{Placed, Side, of_name, fresh, side_of, spread, spread_at, spread_middle, spread_is, spread_same, length-spread, place_below, map_same}
use Rattle.hys_exact.proofs.Names.{Stands, name_at, stands_as, has_place, place_variable, place_is, each_map, each_places, places_each}
use Rattle.hys_exact.proofs.Columns.{name_column, column_by, column_is, columns_spread, fresh_columns, fresh_count, fresh_is, arranged, bools_each, reals_each}
use Rattle.hys_exact.proofs.Parts.{forms_give, parts_cases, parts_hold, fresh_long, fresh_same, agrees_get, agrees_from, bits_at}
use Rattle.hys_exact.proofs.Moving.{all_met, all_inside, boolean_in, all_after}
use Rattle.hys_exact.proofs.Along.{same_along}
use Rattle.hys_exact.proofs.Given.{are_in_long, each_name, given_boxes, given_place, places_long, to_kind, values_each, values_part}
use Rattle.hys_exact.proofs.Texts.{named_by, texts_again}

-- ---- kinds of columns
boolean_kind : (r : Role) (d : Kind) (boxes : List Interval) (n : ℕ) (x : Name) → d ≡ source.Bool → x.kind ≡ source.Bool → (column_by r d boxes n x).kind ≡ kind.Bool
boolean_kind State d boxes n x e f = ap kind_of f
boolean_kind Input d boxes n x e f = ap kind_of f
boolean_kind Output d boxes n x e f = refl
boolean_kind Parameter d boxes n x e f = refl
boolean_kind Aux source.Bool boxes n x e f = refl
boolean_kind Aux source.Real boxes n x e f = absurd (cc)

-- the number of a name is one of its column's kind
column_kind : (r : Role) (d : Kind) (boxes : List Interval) (n : ℕ) (x : Name) (a : Number) → x.kind ≡ d → has_column r ≡ true → IsOfKind d a → IsOfColumnKind (column_by r d boxes n x).kind a
column_kind State d boxes n x a e c h = subst (λ (k : Kind). IsOfColumnKind (kind_of k) a) (sym e) (to_kind d a h)
column_kind Input d boxes n x a e c h = subst (λ (k : Kind). IsOfColumnKind (kind_of k) a) (sym e) (to_kind d a h)
column_kind Output d boxes n x a e c h = absurd (cc)
column_kind Parameter d boxes n x a e c h = absurd (cc)
column_kind Aux source.Bool boxes n x a e c h = h
column_kind Aux source.Real boxes n x a e c h = tt

variable_value : (x : Name) → IsVariable x → has_value x.role ≡ true
variable_value x h = go x.role h
  where
    go : (r : Role) → has_column r ≡ true → has_value r ≡ true
    go State e = refl
    go Input e = refl
    go Output e = absurd (cc)
    go Parameter e = absurd (cc)
    go Aux e = refl

no_output : (r : Role) → has_column r ≡ true → is_output r ≡ false
no_output State e = refl
no_output Input e = refl
no_output Output e = absurd (cc)
no_output Parameter e = absurd (cc)
no_output Aux e = refl

-- ---- items
items_weaker : (P Q : ProgItem → Type 0) → ((t : ProgItem) → P t → Q t) → (ts : List ProgItem) → EachItem P ts → EachItem Q ts
items_weaker P Q f [] h = tt
items_weaker P Q f (t ∷ ts) h = (f t h.0, items_weaker P Q f ts h.1)

items_met : (w : Assignment) (ts : List ProgItem) → EachItem (CaseOf w) ts → EachItem (λ t. ¬ (InGap w t)) ts → EachItem (Demand w) ts → EachItem (IsMet w) ts
items_met w [] c n d = tt
items_met w (t ∷ ts) c n d = (record { case = c.0; no_gap = n.0; demand = d.0 }, items_met w ts c.1 n.1 d.1)

-- ---- more of roles
state_no_aux : (r : Role) → is_state r ≡ true → r ≡ Aux → ⊥
state_no_aux r e f = let h : is_state Aux ≡ true = rw f at e in absurd (cc)

output_no_aux : (r : Role) → is_output r ≡ true → r ≡ Aux → ⊥
output_no_aux r e f = let h : is_output Aux ≡ true = rw f at e in absurd (cc)

aux_column : (r : Role) → is_auxiliary r ≡ true → has_column r ≡ true
aux_column State e = absurd (cc)
aux_column Input e = absurd (cc)
aux_column Output e = absurd (cc)
aux_column Parameter e = absurd (cc)
aux_column Aux e = refl

-- ---- lists of numbers
numbers_map : (w : Assignment) (ts : List ProgItem) (ns : List ℕ) → numbers_in w ts ns ≡ map (λ n. number_in w n ts) ns
numbers_map w ts [] = refl
numbers_map w ts (n ∷ ns) = ap (λ vs. number_in w n ts ∷ vs) (numbers_map w ts ns)

found_long : (ts : List ProgItem) (ns : List ℕ) (vs : List Number) → length (found ts ns vs) ≡ length vs
found_long ts [] vs = refl
found_long ts (n ∷ ns) vs = found_long ts ns (set vs n (number_in (at vs) n ts)) ∙ length-set vs n (number_in (at vs) n ts)

-- ---- boxes
pub zero_one : whole 0 ≤ₙ whole 1
zero_one = let above : 0 < 1 = omega arith in rw (whole-ratio 0 1 above, whole-ratio 1 1 above) (simp (ratios, above) (omega arith))

pub bit_within : (a : Number) → IsBit a → Within unit a
bit_within a (inl e) = rw e (record { low = le_refl' (whole 0); high = zero_one })
bit_within a (inr e) = rw e (record { low = zero_one; high = le_refl' (whole 1) })

-- a number is in the box of its name's column
column_within : (r : Role) (d : Kind) (boxes : List Interval) (n : ℕ) (x : Name) (a : Number) → has_column r ≡ true → (IsTrue (is_given r) → Within x.bounds a) → (d ≡ source.Bool → IsBit a) → Within (box_at boxes n) a → Within (column_by r d boxes n x).bounds a
column_within State d boxes n x a c g b w = g refl
column_within Input d boxes n x a c g b w = g refl
column_within Output d boxes n x a c g b w = absurd (cc)
column_within Parameter d boxes n x a c g b w = absurd (cc)
column_within Aux source.Bool boxes n x a c g b w = bit_within a (b refl)
column_within Aux source.Real boxes n x a c g b w = w

module _ (p : Program) (o : Order) (S : System) (g : IsProgram p) (q : IsOrder p o) (b : IsBuilt p (intervals p o) S) where
  -- ---- columns
  placed : Placed (front p) (behind p) (count_of b.parts) (column_in b.place)
  placed = record { before = b.placing.before; after = b.placing.after }

  columns_are : S.columns ≡ spread (front p) (behind p) (name_column p (intervals p o)) (fresh_columns (count_of b.parts))
  columns_are = b.columns ∙ columns_spread p (intervals p o) (count_of b.parts)

  pub columns_long : length S.columns ≡ length (front p) + (count_of b.parts + length (behind p))
  columns_long = ap length columns_are ∙ length-spread (front p) (behind p) (name_column p (intervals p o)) (fresh_columns (count_of b.parts)) ∙ ap (λ n. length (front p) + (n + length (behind p))) (fresh_count (count_of b.parts))

  column_at : (n : ℕ) (d : Column) → NameAt p.names n IsVariable → get_or S.columns (column_in b.place n) d ≡ name_column p (intervals p o) n
  column_at n d h = rw columns_are (spread_at (front p) (behind p) (count_of b.parts) (column_in b.place) placed (name_column p (intervals p o)) (fresh_columns (count_of b.parts)) d (fresh_count (count_of b.parts)) n (has_place p n h))

  fresh_at : (j : ℕ) (d : Column) → j < count_of b.parts → get_or S.columns (length (front p) + j) d ≡ get_or (fresh_columns (count_of b.parts)) j d
  fresh_at j d l = let e : length (fresh_columns (count_of b.parts)) ≡ count_of b.parts = fresh_count (count_of b.parts) in
      rw columns_are (spread_middle (front p) (behind p) (name_column p (intervals p o)) (fresh_columns (count_of b.parts)) d j (omega arith))

  place_within : (n : ℕ) → NameAt p.names n IsVariable → column_in b.place n < length S.columns
  place_within n h = rw columns_long (place_below (front p) (behind p) (count_of b.parts) (column_in b.place) placed n (has_place p n h))

  -- ---- numbers within intervals
  pub within : (w : Assignment) → TakesValues p w → (n : ℕ) → NameAt p.names n IsVariable → Within (box_at (intervals p o) n) (w n)
  within w t n h =
      let x : (x : Name) × IsVariable x × Stands p.names n x = name_at IsVariable p.names n h in
      each_name (λ n k. IsTrue (has_value k.role) → Within (box_at (intervals p o) n) (w n)) 0 n n p.names x.0 (intervals_hold p o (intervals p o) g q refl w t) (omega arith) x.2 (variable_value x.0 x.1)

  -- ---- rows
  rows_met : (v w : Assignment) → HasBits p.names (by_columns b.place v) → BitsFrom v (length (front p)) (count_of b.parts) → AreSame p.names (by_columns b.place v) w →
      ((n : ℕ) → NameAt p.names n IsVariable → Within (box_at (intervals p o) n) (w n)) →
      HoldAll v S.rows ↔ (EachItem (IsMet w) p.items × Agrees v (length (front p)) (fresh_of b.parts w))
  rows_met v w h f s i =
      let inside : EachItem (λ t. AreInside (intervals p o) (by_columns b.place v) t.body) p.items = all_inside p.names (intervals p o) (by_columns b.place v) p.items g.bodies (λ n k. rw (s n k) (i n k)) in
      let e : HoldAll v (rows_of b.parts) ↔ (EachItem (IsMet (by_columns b.place v)) p.items × Agrees v (length (front p)) (fresh_of b.parts (by_columns b.place v))) =
      parts_hold p.names (intervals p o) b.place (length (front p)) p.items b.parts v b.mean h f inside in
      let r : fresh_of b.parts (by_columns b.place v) ≡ fresh_of b.parts w = fresh_same p.names (intervals p o) b.place (length (front p)) p.items b.parts (by_columns b.place v) w b.mean s in (
        λ k. let m : EachItem (IsMet (by_columns b.place v)) p.items × Agrees v (length (front p)) (fresh_of b.parts (by_columns b.place v)) = e.0 (subst (HoldAll v) b.rows k) in
            (all_met p.names (by_columns b.place v) w p.items g.bodies g.named s m.0, subst (Agrees v (length (front p))) r m.1),
        λ k. subst (HoldAll v) (sym b.rows) (e.1 (all_met p.names w (by_columns b.place v) p.items g.bodies g.named (λ n a. sym (s n a)) k.0, subst (Agrees v (length (front p))) (sym r) k.1)),
      )

  -- ---- a solution's numbers
  name_kind : (n : ℕ) (d : Column) → NameAt p.names n IsBooleanVariable → (get_or S.columns (column_in b.place n) d).kind ≡ kind.Bool
  name_kind n d h =
      let x : (x : Name) × IsBooleanVariable x × Stands p.names n x = name_at IsBooleanVariable p.names n h in
      ap (λ c. c.kind) (column_at n d (name_map IsBooleanVariable IsVariable p.names n (λ x k. k.0) h) ∙ column_is p (intervals p o) n x.0 x.2)
      ∙ boolean_kind x.0.role x.0.kind (intervals p o) n x.0 x.1.1 x.1.1

  solution_bits : (v : List Number) → Solution S v → HasBits p.names (by_columns b.place (at v))
  solution_bits v s n h =
      let d : Column = name_column p (intervals p o) n in
      subst (λ (k : Kind2). IsOfColumnKind k (at v (column_in b.place n))) (name_kind n d h) (s.kinds (column_in b.place n) (place_within n (name_map IsBooleanVariable IsVariable p.names n (λ x k. k.0) h)) d)

  fresh_kind : (j : ℕ) (d : Column) → j < count_of b.parts → (get_or S.columns (length (front p) + j) d).kind ≡ kind.Bool
  fresh_kind j d l = ap (λ c. c.kind) (fresh_at j d l) ∙ (fresh_is (count_of b.parts) j d l).0

  fresh_within : (j : ℕ) → j < count_of b.parts → length (front p) + j < length S.columns
  fresh_within j l = rw columns_long (omega arith)

  solution_fresh : (v : List Number) → Solution S v → BitsFrom (at v) (length (front p)) (count_of b.parts)
  solution_fresh v s c l m =
      let j : ℕ = c - length (front p) in
      let e : length (front p) + (c - length (front p)) ≡ c = omega arith in
      let k : c - length (front p) < count_of b.parts = omega arith in
      let d : Column = name_column p (intervals p o) 0 in
      subst (λ (i : ℕ). IsBit (at v i)) e (subst (λ (k : Kind2). IsOfColumnKind k (at v (length (front p) + (c - length (front p))))) (fresh_kind (c - length (front p)) d k) (s.kinds (length (front p) + (c - length (front p))) (fresh_within (c - length (front p)) k) d))

  -- ---- the beginning of a solution
  starts : (x u : List Number) (w : Assignment) → map w (places is_state p) ≡ x → map w (places is_input p) ≡ u → map w (places is_state p ++ places is_input p) ≡ x ++ u
  starts x u w e f = map-append w (places is_state p) (places is_input p) ∙ ap₂ ◌++◌ e f

  begins : (x u : List Number) (w : Assignment) (v : List Number) → map w (places is_state p ++ places is_input p) ≡ x ++ u → From S x u v → (n : ℕ) → IsIn n (places is_state p ++ places is_input p) → at v (column_in b.place n) ≡ w n
  begins x u w v e f n i =
      let k : (j : ℕ) × (j < length (places is_state p ++ places is_input p)) × (get_or (places is_state p ++ places is_input p) j 0 ≡ n) = at_in (places is_state p ++ places is_input p) n i in
      let l : k.0 < length (places is_state p ++ places is_input p) = k.1 in
      let a : length (front p) ≡ length (places is_state p ++ places is_input p) + length (of_each is_boolean_auxiliary own_place 0 p.names) = length-append (places is_state p ++ places is_input p) (of_each is_boolean_auxiliary own_place 0 p.names) in
      let m : k.0 < length (front p) = omega arith in
      let here : get_or (front p) k.0 0 ≡ n = get_or_append_left (places is_state p ++ places is_input p) (of_each is_boolean_auxiliary own_place 0 p.names) 0 k.0 k.1 ∙ k.2 in
      let c : column_in b.place n ≡ k.0 = subst (λ (i : ℕ). column_in b.place i ≡ k.0) here (b.placing.before k.0 m) in
      let y : length (x ++ u) ≡ length (places is_state p ++ places is_input p) = ap length (sym e) ∙ length-map (places is_state p ++ places is_input p) w in
      let z : at v k.0 ≡ at (x ++ u) k.0 = rw (f.begins) (get_or_append_left (x ++ u) f.rest (whole 0) k.0 (omega arith)) in
      ap (at v) c ∙ z ∙ ap (λ xs. at xs k.0) (sym e) ∙ get_or-map w (places is_state p ++ places is_input p) k.0 0 (whole 0) k.1 ∙ ap w k.2

  -- ---- the numbers of the columns that an assignment stands for
  abbrev bits_of : Assignment → List Number
  bits_of w = map bit (fresh_of b.parts w)

  abbrev encoded : Assignment → List Number
  encoded w = spread (front p) (behind p) w (bits_of w)

  fresh_count_of : (w : Assignment) → length (fresh_of b.parts w) ≡ count_of b.parts
  fresh_count_of w = fresh_long p.names (intervals p o) b.place (length (front p)) p.items b.parts w b.mean

  bits_long : (w : Assignment) → length (bits_of w) ≡ count_of b.parts
  bits_long w = length-map (fresh_of b.parts w) bit ∙ fresh_count_of w

  -- ---- from a state and an input in their boxes
  module _ (x u : List Number) (ix : AreIn (automaton_of p).states x) (iu : AreIn (automaton_of p).inputs u) where
    abbrev pub valued : Assignment
    valued = at (exact p o x u)

    pub is_valued : IsValued p x u valued
    is_valued = exact_valued p o x u g q (are_in_long (automaton_of p).states x ix ∙ places_long is_state 0 p.names) (are_in_long (automaton_of p).inputs u iu ∙ places_long is_input 0 p.names)

    pub takes : (w : Assignment) → IsValued p x u w → TakesValues p w
    takes w a = record {
      parameters = a.parameters;
      boxes = given_boxes w 0 p.names (subst (AreIn (automaton_of p).states) (sym a.states) ix) (subst (AreIn (automaton_of p).inputs) (sym a.inputs) iu);
      cases = a.cases;
    }

    -- a solution has the numbers of the valued assignment
    solution_same : (v : List Number) → From S x u v → AreSame p.names (by_columns b.place (at v)) valued
    solution_same v f = same_along p (intervals p o) (by_columns b.place (at v)) valued [] o.names g q
        (parts_cases p.names (intervals p o) b.place (length (front p)) p.items b.parts (at v) b.mean (solution_bits v f.solution) (solution_fresh v f.solution) (subst (HoldAll (at v)) b.rows f.solution.rows))
        is_valued.cases (within valued (takes valued is_valued)) known
      where
        known : (n : ℕ) → NameAt p.names n IsVariable → Is is_fixed p n ⊎ IsIn n [] → at v (column_in b.place n) ≡ at (exact p o x u) n
        known n k (inl i) = begins x u valued v (starts x u valued is_valued.states is_valued.inputs) f n (given_place p n k i)
        known n k (inr i) = absurd i

    solution_met : (v : List Number) → From S x u v → EachItem (IsMet valued) p.items × Agrees (at v) (length (front p)) (fresh_of b.parts valued)
    solution_met v f = (rows_met (at v) valued (solution_bits v f.solution) (solution_fresh v f.solution) (solution_same v f) (within valued (takes valued is_valued))).0 f.solution.rows

    solution_is : (v : List Number) → From S x u v → v ≡ encoded valued
    solution_is v f =
        let c : length (fresh_of b.parts valued) ≡ count_of b.parts = fresh_count_of valued in
        spread_is (front p) (behind p) (count_of b.parts) (column_in b.place) placed v (whole 0) valued (bits_of valued) (bits_long valued) (f.solution.long ∙ columns_long)
        (λ n i. solution_same v f n (place_variable p n i)) (λ j l. agrees_get (at v) (length (front p)) (fresh_of b.parts valued) j (solution_met v f).1 (omega arith) (whole 0))

    -- ---- the columns of a valued assignment
    encoded_same : (w : Assignment) → AreSame p.names (by_columns b.place (at (encoded w))) w
    encoded_same w n h = spread_at (front p) (behind p) (count_of b.parts) (column_in b.place) placed w (bits_of w) (whole 0) (bits_long w) n (has_place p n h)

    encoded_fresh : (w : Assignment) (j : ℕ) → j < count_of b.parts → at (encoded w) (length (front p) + j) ≡ get_or (bits_of w) j (whole 0)
    encoded_fresh w j l = let e : length (bits_of w) ≡ count_of b.parts = bits_long w in spread_middle (front p) (behind p) w (bits_of w) (whole 0) j (omega arith)

    bit_at : (w : Assignment) (j : ℕ) → j < count_of b.parts → IsBit (get_or (bits_of w) j (whole 0))
    bit_at w j l = let e : length (fresh_of b.parts w) ≡ count_of b.parts = fresh_count_of w in bits_at (fresh_of b.parts w) j (whole 0) (omega arith)

    given_box : (w : Assignment) → TakesValues p w → (n : ℕ) (y : Name) → Stands p.names n y → IsTrue (is_given y.role) → InBox y (w n)
    given_box w t n y s = each_name (λ n k. IsTrue (is_given k.role) → InBox k (w n)) 0 n n p.names y t.boxes (omega arith) s

    valued_bit : (w : Assignment) → TakesValues p w → (n : ℕ) (y : Name) (r : Role) → y.role ≡ r → has_column r ≡ true → y.kind ≡ source.Bool → Stands p.names n y → IsBit (w n)
    valued_bit w t n y State e c k s = subst (λ (d : Kind). IsOfKind d (w n)) k (given_box w t n y s (ap is_given e)).1
    valued_bit w t n y Input e c k s = subst (λ (d : Kind). IsOfKind d (w n)) k (given_box w t n y s (ap is_given e)).1
    valued_bit w t n y Output e c k s = absurd (cc)
    valued_bit w t n y Parameter e c k s = absurd (cc)
    valued_bit w t n y Aux e c k s =
        let a : NameAt p.names n (λ x. is_auxiliary x.role ≡ true) = stands_as (λ x. is_auxiliary x.role ≡ true) p.names n y s (ap is_auxiliary e) in
        let d = g.once n (name_map (λ x. is_auxiliary x.role ≡ true) (λ x. is_defined x.role ≡ true) p.names n (λ x h. aux_defined x.role h) a) in
        rw (cases_follow p w g t.cases n a) (boolean_in p.names w n p.items g.named (stands_as (Has Aux source.Bool) p.names n y s (e, k)) (omega arith))

    valued_bits : (w : Assignment) → TakesValues p w → HasBits p.names w
    valued_bits w t n h =
        let y : (y : Name) × IsBooleanVariable y × Stands p.names n y = name_at IsBooleanVariable p.names n h in
        valued_bit w t n y.0 y.0.role refl y.1.0 y.1.1 y.2

    of_kind : (w : Assignment) → HasBits p.names w → (n : ℕ) (y : Name) (d : Kind) → y.kind ≡ d → IsVariable y → Stands p.names n y → IsOfKind d (w n)
    of_kind w h n y source.Real e v s = tt
    of_kind w h n y source.Bool e v s = h n (stands_as IsBooleanVariable p.names n y s (v, e))

    encoded_kinds : (w : Assignment) → HasBits p.names w → (i : ℕ) → i < length S.columns → HoldsAt (λ c. IsOfColumnKind c.kind (at (encoded w) i)) S.columns i
    encoded_kinds w h i l d = go (side_of (front p) (behind p) (count_of b.parts) (column_in b.place) placed i (subst (λ (n : ℕ). i < n) columns_long l))
      where
        go : Side (front p) (behind p) (count_of b.parts) (column_in b.place) i → IsOfColumnKind (get_or S.columns i d).kind (at (encoded w) i)
        go (of_name n k e) =
            let y : (y : Name) × IsVariable y × Stands p.names n y = name_at IsVariable p.names n (place_variable p n k) in
            rw (e, column_at n d (place_variable p n k) ∙ column_is p (intervals p o) n y.0 y.2, encoded_same w n (place_variable p n k))
            (column_kind y.0.role y.0.kind (intervals p o) n y.0 (w n) refl y.1 (of_kind w h n y.0 y.0.kind refl y.1 y.2))
        go (fresh j k e) = rw (e, fresh_kind j d k, encoded_fresh w j k) (bit_at w j k)

    encoded_bits : (w : Assignment) → BitsFrom (at (encoded w)) (length (front p)) (count_of b.parts)
    encoded_bits w c l m =
        let e : length (front p) + (c - length (front p)) ≡ c = omega arith in
        let k : c - length (front p) < count_of b.parts = omega arith in
        subst (λ (i : ℕ). IsBit (at (encoded w) i)) e (rw (encoded_fresh w (c - length (front p)) k) (bit_at w (c - length (front p)) k))

    encoded_solves : (w : Assignment) → TakesValues p w → EachItem (IsMet w) p.items → Solution S (encoded w)
    encoded_solves w t m = record {
      long = length-spread (front p) (behind p) w (bits_of w) ∙ ap (λ n. length (front p) + (n + length (behind p))) (bits_long w) ∙ sym columns_long;
      rows = (rows_met (at (encoded w)) w (λ n h. rw (encoded_same w n (name_map IsBooleanVariable IsVariable p.names n (λ x k. k.0) h)) (valued_bits w t n h)) (encoded_bits w) (encoded_same w) (within w t)).1
          (m, agrees_from (at (encoded w)) (length (front p)) (fresh_of b.parts w) (whole 0) (λ i l. encoded_fresh w i (let e : length (fresh_of b.parts w) ≡ count_of b.parts = fresh_count_of w in omega arith)));
      kinds = encoded_kinds w (valued_bits w t);
    }

    encoded_begins : (w : Assignment) → map w (places is_state p) ≡ x → map w (places is_input p) ≡ u →
        encoded w ≡ (x ++ u) ++ (map w (of_each is_boolean_auxiliary own_place 0 p.names) ++ (bits_of w ++ map w (behind p)))
    encoded_begins w e f =
        let h : map w (front p) ≡ (x ++ u) ++ map w (of_each is_boolean_auxiliary own_place 0 p.names) =
        map-append w (places is_state p ++ places is_input p) (of_each is_boolean_auxiliary own_place 0 p.names) ∙ ap (λ a. a ++ map w (of_each is_boolean_auxiliary own_place 0 p.names)) (starts x u w e f) in
        ap (λ a. a ++ (bits_of w ++ map w (behind p))) h ∙ append_assoc (x ++ u) (map w (of_each is_boolean_auxiliary own_place 0 p.names)) (bits_of w ++ map w (behind p))

    encoded_from : (w : Assignment) → IsValued p x u w → EachItem (IsMet w) p.items → From S x u (encoded w)
    encoded_from w a m = record {
      solution = encoded_solves w (takes w a) m;
      rest = map w (of_each is_boolean_auxiliary own_place 0 p.names) ++ (bits_of w ++ map w (behind p));
      begins = encoded_begins w a.states a.inputs;
    }

    -- ---- legal steps
    legal_valued : (w : Assignment) (x' y : List Number) → Legal p x u w x' y → IsValued p x u w
    legal_valued w x' y l = step_valued p x u w x' y l.step

    legal_met : (w : Assignment) (x' y : List Number) → Legal p x u w x' y → EachItem (IsMet w) p.items
    legal_met w x' y l = items_met w p.items l.step.cases l.no_gap l.demands

    valued_legal : EachItem (IsMet valued) p.items → Legal p x u valued (numbers_in valued p.items (places is_state p)) (numbers_in valued p.items (places is_output p))
    valued_legal m = record {
      step = given_step p x u valued g is_valued;
      boxes = (takes valued is_valued).boxes;
      demands = items_weaker (IsMet valued) (Demand valued) (λ t h. h.demand) p.items m;
      no_gap = items_weaker (IsMet valued) (λ t. ¬ (InGap valued t)) (λ t h. h.no_gap) p.items m;
    }

    legal_same : (w : Assignment) (x' y : List Number) → Legal p x u w x' y → AreSame p.names valued w
    legal_same w x' y l n h = one_assignment p o x u valued w g q is_valued (legal_valued w x' y l) n (name_map IsVariable (λ k. is_output k.role ≡ false) p.names n (λ k c. no_output k.role c) h)

    -- ---- next values and outputs
    number_same : (w w' : Assignment) (n : ℕ) → AreSame p.names w w' → number_in w n p.items ≡ number_in w' n p.items
    number_same w w' n h = same_number_in w w' n p.items (reads_for (Same w w') n p.items (all_read (Same w w') p.names p.items g.bodies h))

    form_gives : (v : List Number) (n : ℕ) → From S x u v → NameAt p.names n (λ k. ¬ (k.role ≡ Aux)) → NameAt p.names n (λ k. is_defined k.role ≡ true) →
        value (form_for p.items (forms_of b.parts) n) (at v) ≡ number_in valued n p.items
    form_gives v n f a k =
        let r : fresh_of b.parts (by_columns b.place (at v)) ≡ fresh_of b.parts valued = fresh_same p.names (intervals p o) b.place (length (front p)) p.items b.parts (by_columns b.place (at v)) valued b.mean (solution_same v f) in
        let d = g.once n k in
        forms_give p.names (intervals p o) b.place (length (front p)) p.items b.parts (at v) n b.mean (solution_bits v f.solution) (subst (Agrees (at v) (length (front p))) (sym r) (solution_met v f).1) (all_after p.names n p.items g.named a) (omega arith)
        ∙ number_same (by_columns b.place (at v)) valued n (solution_same v f)

    legal_numbers : (w : Assignment) (x' y : List Number) → Legal p x u w x' y → (numbers_in valued p.items (places is_state p) ≡ x') × (numbers_in valued p.items (places is_output p) ≡ y)
    legal_numbers w x' y l = one_step p o x u valued w _ x' _ y g q (given_step p x u valued g is_valued) l.step

    state_gives : (v : List Number) → From S x u v → (n : ℕ) → IsIn n (places is_state p) → value (form_for p.items (forms_of b.parts) n) (at v) ≡ number_in valued n p.items
    state_gives v f n i = let k : NameAt p.names n (λ x. is_state x.role ≡ true) = place_is is_state p n i in
        form_gives v n f (name_map (λ x. is_state x.role ≡ true) (λ x. ¬ (x.role ≡ Aux)) p.names n (λ x h e. state_no_aux x.role h e) k) (name_map (λ x. is_state x.role ≡ true) (λ x. is_defined x.role ≡ true) p.names n (λ x h. state_defined x.role h) k)

    output_gives : (v : List Number) → From S x u v → (n : ℕ) → IsIn n (places is_output p) → value (form_for p.items (forms_of b.parts) n) (at v) ≡ number_in valued n p.items
    output_gives v f n i = let k : NameAt p.names n (λ x. is_output x.role ≡ true) = place_is is_output p n i in
        form_gives v n f (name_map (λ x. is_output x.role ≡ true) (λ x. ¬ (x.role ≡ Aux)) p.names n (λ x h e. output_no_aux x.role h e) k) (name_map (λ x. is_output x.role ≡ true) (λ x. is_defined x.role ≡ true) p.names n (λ x h. output_defined x.role h) k)

    next_is : (v : List Number) → From S x u v → map (λ f. value f (at v)) S.next ≡ numbers_in valued p.items (places is_state p)
    next_is v f = ap (map (λ f. value f (at v))) b.next
        ∙ map-map (λ f. value f (at v)) (form_for p.items (forms_of b.parts)) (places is_state p)
        ∙ map_same (places is_state p) (λ n. value (form_for p.items (forms_of b.parts) n) (at v)) (λ n. number_in valued n p.items) (state_gives v f)
        ∙ sym (numbers_map valued p.items (places is_state p))

    outputs_are : (v : List Number) → From S x u v → map (λ (o : SystemOutput). value o.form (at v)) S.outputs ≡ numbers_in valued p.items (places is_output p)
    outputs_are v f =
        let h : ℕ → Number = λ n. value (form_for p.items (forms_of b.parts) n) (at v) in
        ap (map (λ (o : SystemOutput). value o.form (at v))) b.outputs
        ∙ each_map is_output_name (output_with p.items (forms_of b.parts)) (λ (o : SystemOutput). value o.form (at v)) 0 p.names
        ∙ each_places is_output_name (λ n x. value (form_for p.items (forms_of b.parts) n) (at v)) (λ n. value (form_for p.items (forms_of b.parts) n) (at v)) 0 p.names (λ n j x e s t. refl)
        ∙ ap (map (λ n. value (form_for p.items (forms_of b.parts) n) (at v))) (sym (places_each is_output 0 p.names))
        ∙ map_same (places is_output p) (λ n. value (form_for p.items (forms_of b.parts) n) (at v)) (λ n. number_in valued n p.items) (output_gives v f)
        ∙ sym (numbers_map valued p.items (places is_output p))

    -- ---- the boxes of all columns
    boxed : (v : List Number) → From S x u v → (i : ℕ) → i < length S.columns → HoldsAt (λ c. Within c.bounds (at v i)) S.columns i
    boxed v f i l d = go (side_of (front p) (behind p) (count_of b.parts) (column_in b.place) placed i (subst (λ (n : ℕ). i < n) columns_long l))
      where
        t : TakesValues p valued
        t = takes valued is_valued

        go : Side (front p) (behind p) (count_of b.parts) (column_in b.place) i → Within (get_or S.columns i d).bounds (at v i)
        go (of_name n k e) =
            let y : (y : Name) × IsVariable y × Stands p.names n y = name_at IsVariable p.names n (place_variable p n k) in
            rw (e, column_at n d (place_variable p n k) ∙ column_is p (intervals p o) n y.0 y.2, solution_same v f n (place_variable p n k))
            (column_within y.0.role y.0.kind (intervals p o) n y.0 (valued n) y.1 (λ h. (given_box valued t n y.0 y.2 h).0) (λ h. valued_bits valued t n (stands_as IsBooleanVariable p.names n y.0 y.2 (y.1, h))) (within valued t n (place_variable p n k)))
        go (fresh j k e) =
            rw (e, fresh_at j d k, (fresh_is (count_of b.parts) j d k).1) (bit_within (at v (length (front p) + j)) (solution_fresh v f.solution (length (front p) + j) (omega arith) (omega arith)))

    -- ---- a step by texts
    again : by_places p.names (named_by p.names (exact p o x u)) ≡ valued
    again = ap (λ (vs : List Number). at vs) (texts_again p.names (exact p o x u) g.texts (found_long p.items o.names (started p.names x u) ∙ started_count p.names 0 0 x u))

    auxiliaries_same : (w w' : Named) (x' x'' y y' : List Number) → LegalSteps p x u w x' y → LegalSteps p x u w' x'' y' → values w (automaton_of p).auxiliaries ≡ values w' (automaton_of p).auxiliaries
    auxiliaries_same w w' x' x'' y y' l k =
        sym (values_part p is_auxiliary w)
        ∙ map_same (places is_auxiliary p) (by_places p.names w) (by_places p.names w') (λ n i. let h : NameAt p.names n IsVariable = name_map (λ x. is_auxiliary x.role ≡ true) IsVariable p.names n (λ x h. aux_column x.role h) (place_is is_auxiliary p n i) in
        sym (legal_same (by_places p.names w) x' y l n h) ∙ legal_same (by_places p.names w') x'' y' k n h)
        ∙ values_part p is_auxiliary w'

    solution_texts : (v : List Number) (w : Named) (x' y : List Number) → From S x u v → LegalSteps p x u w x' y →
        v ≡ (x ++ u) ++ values w (bools (automaton_of p)) ++ bits_of valued ++ values w (reals (automaton_of p))
    solution_texts v w x' y f l =
        let a : Assignment = by_places p.names w in
        let s : (n : ℕ) → IsIn n (front p) ⊎ IsIn n (behind p) → valued n ≡ a n = λ n i. legal_same a x' y l n (place_variable p n i) in
        let e : v ≡ spread (front p) (behind p) a (bits_of valued) = solution_is v f ∙ spread_same (front p) (behind p) valued a (bits_of valued) s in
        let k : map a (front p) ≡ (x ++ u) ++ map a (of_each is_boolean_auxiliary own_place 0 p.names) =
        map-append a (places is_state p ++ places is_input p) (of_each is_boolean_auxiliary own_place 0 p.names) ∙ ap (λ c. c ++ map a (of_each is_boolean_auxiliary own_place 0 p.names)) (starts x u a l.step.states l.step.inputs) in
        let m : map a (of_each is_boolean_auxiliary own_place 0 p.names) ≡ values w (bools (automaton_of p)) = values_each p.names is_boolean_auxiliary w ∙ ap (values w) (bools_each p) in
        let r : map a (behind p) ≡ values w (reals (automaton_of p)) = values_each p.names is_real_auxiliary w ∙ ap (values w) (reals_each p) in
        e ∙ sym (append_assoc (map a (front p)) (bits_of valued) (map a (behind p)))
        ∙ ap₂ (λ c d. c ++ bits_of valued ++ d) (k ∙ ap (λ c. (x ++ u) ++ c) m) r

    exact_at : ExactAt (automaton_of p) (LegalSteps p) S x u
    exact_at = record {
      solvable = λ w x' y l. (encoded (by_places p.names w), encoded_from (by_places p.names w) (legal_valued (by_places p.names w) x' y l) (legal_met (by_places p.names w) x' y l));
      steps = λ v f. (
        named_by p.names (exact p o x u),
        numbers_in valued p.items (places is_state p),
        numbers_in valued p.items (places is_output p),
        subst (λ (a : Assignment). Legal p x u a (numbers_in valued p.items (places is_state p)) (numbers_in valued p.items (places is_output p))) (sym again) (valued_legal (solution_met v f).0),
      );
      one = λ v v' f f'. solution_is v f ∙ sym (solution_is v' f');
      one_step = λ w w' x' x'' y y' l k. auxiliaries_same w w' x' x'' y y' l k;
      same = λ v w x' y f l. (bits_of valued, solution_texts v w x' y f l);
      boxes = boxed;
      next = λ v w x' y f l. next_is v f ∙ (legal_numbers (by_places p.names w) x' y l).0;
      outputs = λ v w x' y f l. outputs_are v f ∙ (legal_numbers (by_places p.names w) x' y l).1;
    }

  pub exact_system : Exact (automaton_of p) (LegalSteps p) S
  exact_system = record { arranged = arranged p (intervals p o) S b; at_each = exact_at }
