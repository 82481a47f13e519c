-- Solutions of a stacked problem and trajectories of the automaton that its system is exact for.
use Rattle.std.proofs.Common.{◌≡◌, ◌↔◌, ℕ, zero, suc, ◌+◌, ◌≤◌, List, [], ◌∷◌, ◌++◌, length, map, take, drop, filter, Bool, true, false, not, cond, refl, sym, ◌∙◌, ap, ap₂, subst, arith, append_assoc}
use Rattle.std.proofs.Math.Seq.{drop-append_seam}
use Rattle.std.proofs.Math.Seq.{take-length}
use Rattle.std.proofs.lemmas.List.{take-append-drop, take-append-le, length-map, length-append, map-append}
use Rattle.std.proofs.lemmas.List.Elements.{recursion_from_All}
use Rattle.std.specs.List.{AllByRecursion}
use Rattle.hys_number.specs.Number.{Number}
use Rattle.hys_sys.specs.Exact.{Automaton, Boxed, Variable, Named, Steps, AreIn, column_of, variable_of, is_bool as is_boolean, bools, reals, values, Arranged, From, ExactAt, Exact}
use Rattle.hys_sys.specs.declared.system.ColumnRole.{ColumnRole}
use Rattle.hys_sys.specs.declared.system.ColumnRole.TheVariants.{State, Input, D, Z}
use Rattle.hys_sys.specs.declared.system.Column.{Column}
use Rattle.hys_sys.specs.declared.system.System.{System}
use Rattle.hys_stack.specs.declared.request.Request.{Request}
use Rattle.hys_stack.specs.Requests.{state_columns, is_state, AreStarts}
use Rattle.hys_stack.specs.Stacking.{bounds_of, only, step_boxes}
use Rattle.hys_stack.specs.Trajectories.{Stage, first_state, AreLegal, AreWithin, AreOfKinds, KeepsKinds, fresh_count, AreNumbersOf, IsSameStage, AreSameStages}
use Rattle.hys_stack.proofs.Blocks.{InEach, in_each_long, in_each_split, AreBits}
use Rattle.hys_stack.proofs.Chains.{IsOver, IsBlock, IsChain}
use Rattle.hys_stack.proofs.Parts.{states_of, inputs_arent, others_arent, every_behind, first_boxes, starts_are, in_of, kinds_in, long_in, long_kinds, within_are, AreKinds, kinds_split, bits_split, state_kinds, input_kinds, tail_kinds, real_kinds, same_parts, front_of, kinds_at, kinds_from, bits_of_kinds, in_each_from}

-- what is known of the system
pub record IsSetting (A : Automaton) (Step : Steps) (S : System) (r : Request) : Type 0 where
  pub over : IsOver S
  pub exact : Exact A Step S
  pub keeps : KeepsKinds A Step
  pub starts : AreStarts (state_columns S.columns) r.start

-- the numbers of a stage, with those of its fresh columns
abbrev pub block_of : Automaton → Stage → List Number → List Number
block_of A s fresh = (s.state ++ s.input) ++ values s.named (bools A) ++ fresh ++ values s.named (reals A)

-- the stages with the numbers of the columns at each
abbrev pub IsRun : Automaton → Steps → System → List Stage → List Number → List Number → Type 0
IsRun A Step S [] last u = u ≡ last
IsRun A Step S (s ∷ ss) last u = (fresh : List Number) × (rest : List Number) × (length fresh ≡ fresh_count A S) × (u ≡ block_of A s fresh ++ rest)
    × From S s.state s.input (block_of A s fresh)
    × (AreIn A.states s.state × AreIn A.inputs s.input × Step s.state s.input s.named (first_state ss last) s.outputs)
    × IsRun A Step S ss last rest

module _ (A : Automaton) (Step : Steps) (S : System) (r : Request) (g : IsSetting A Step S r) where
  abbrev pub arranged : Arranged A S
  arranged = g.exact.arranged

  abbrev front : List Column
  front = map (column_of State) A.states

  abbrev middle : List Column
  middle = map (column_of Input) A.inputs

  abbrev marked : List Column
  marked = arranged.bool_columns ++ arranged.fresh_columns

  abbrev tail : List Column
  tail = marked ++ arranged.real_columns

  abbrev others : List Column
  others = middle ++ tail

  columns_are : S.columns ≡ front ++ others
  columns_are = arranged.columns
      ∙ ap (λ (z : List Column). z ++ arranged.real_columns) (append_assoc (front ++ middle) arranged.bool_columns arranged.fresh_columns)
      ∙ append_assoc (front ++ middle) marked arranged.real_columns ∙ append_assoc front middle tail

  all_marked : AllByRecursion (λ (c : Column). c.role ≡ D) marked
  all_marked = recursion_from_All (λ (c : Column). c.role ≡ D) marked arranged.d

  others_not_states : AllByRecursion (λ (c : Column). is_state c.role ≡ false) others
  others_not_states = every_behind (λ (c : Column). is_state c.role ≡ false) middle tail (inputs_arent A.inputs)
      (every_behind (λ (c : Column). is_state c.role ≡ false) marked arranged.real_columns (others_arent D marked refl all_marked)
      (others_arent Z arranged.real_columns refl (recursion_from_All (λ (c : Column). c.role ≡ Z) arranged.real_columns arranged.z)))

  pub states_are : state_columns S.columns ≡ front
  states_are = ap state_columns columns_are ∙ states_of A.states others others_not_states

  abbrev pub count : ℕ
  count = length A.states

  pub next_count : length S.next ≡ count
  next_count = g.over.each ∙ ap length states_are ∙ length-map A.states (column_of State)

  start_in : AreIn A.states r.start
  start_in = (starts_are A.states r.start).0 (subst (λ cs. AreStarts cs r.start) states_are g.starts)

  start_long : length r.start ≡ count
  start_long = long_in A.states r.start start_in

  dropped : drop (length r.start) S.columns ≡ others
  dropped = ap (drop (length r.start)) columns_are
      ∙ ap (λ n. drop n (front ++ others)) (start_long ∙ sym (length-map A.states (column_of State))) ∙ drop-append_seam front others

  -- the boxes of a step are those of the columns, and at the first step the states have their start
  first_step : (b : List Number) → InEach (step_boxes S r 0) b ↔ (InEach (bounds_of S.columns) b × (take (length r.start) b ≡ r.start))
  first_step b =
      let both : InEach (map only r.start ++ bounds_of others) b ↔ (InEach (bounds_of (front ++ others)) b × (take (length r.start) b ≡ r.start)) =
      first_boxes front others r.start b (subst (λ cs. AreStarts cs r.start) states_are g.starts) in (
        λ h. let m = both.0 (subst (λ cs. InEach (map only r.start ++ bounds_of cs) b) dropped h) in (subst (λ cs. InEach (bounds_of cs) b) (sym columns_are) m.0, m.1),
        λ h. subst (λ cs. InEach (map only r.start ++ bounds_of cs) b) (sym dropped) (both.1 (subst (λ cs. InEach (bounds_of cs) b) columns_are h.0, h.1)),
      )

  boxes_of : (t : ℕ) (b : List Number) → InEach (step_boxes S r t) b → InEach (bounds_of S.columns) b
  boxes_of zero b h = ((first_step b).0 h).0
  boxes_of (suc t) b h = h

  -- ---- the numbers of one step are a solution
  block_kinds : (b rest x u z : List Number) → IsBlock S b rest → b ≡ (x ++ u) ++ z → AreOfKinds A.states x → length u ≡ length A.inputs → AreKinds S.columns b
  block_kinds b rest x u z h e k l =
      subst (λ cs. AreKinds cs b) (sym columns_are) (subst (AreKinds (front ++ others)) (sym grouped)
      ((kinds_split front others x (u ++ z) long_x).1 (
        state_kinds A.states x k,
        (kinds_split middle tail u z long_u).1 (kinds.1, tail_kinds marked arranged.real_columns z all_marked (λ ys. real_kinds A arranged.real_columns ys arranged.reals_are) bits.1),
      )))
    where
      grouped : b ≡ x ++ (u ++ z)
      grouped = e ∙ append_assoc x u z

      long_x : length x ≡ length front
      long_x = long_kinds A.states x k ∙ sym (length-map A.states (column_of State))

      long_u : length u ≡ length middle
      long_u = l ∙ sym (length-map A.inputs (column_of Input))

      bits : AreBits middle u × AreBits tail z
      bits = bits_split middle tail u z long_u (bits_split front others x (u ++ z) long_x (subst (λ cs. AreBits cs (x ++ (u ++ z))) columns_are (subst (AreBits S.columns) grouped h.bits))).1

      kinds : AreOfKinds A.inputs u × AreKinds middle u
      kinds = input_kinds A.inputs u l bits.0

  inputs_kinds : (b rest x u z : List Number) → IsBlock S b rest → b ≡ (x ++ u) ++ z → AreOfKinds A.states x → length u ≡ length A.inputs → AreOfKinds A.inputs u
  inputs_kinds b rest x u z h e k l =
      let long_x : length x ≡ length front = long_kinds A.states x k ∙ sym (length-map A.states (column_of State)) in
      let long_u : length u ≡ length middle = l ∙ sym (length-map A.inputs (column_of Input)) in
      (input_kinds A.inputs u l (bits_split middle tail u z long_u (bits_split front others x (u ++ z) long_x
      (subst (λ cs. AreBits cs (x ++ (u ++ z))) columns_are (subst (AreBits S.columns) (e ∙ append_assoc x u z) h.bits))).1).0).0

  pub solution_of : (b rest x u z : List Number) → IsBlock S b rest → b ≡ (x ++ u) ++ z → AreOfKinds A.states x → length u ≡ length A.inputs → From S x u b
  solution_of b rest x u z h e k l = record {
    solution = record { long = h.long; rows = h.rows; kinds = kinds_at S.columns b h.long (block_kinds b rest x u z h e k l) };
    rest = z;
    begins = e;
  }

  -- ---- lengths
  filtered_long : (as' : List Variable) → length (filter (λ (a : Variable). is_boolean a.kind) as') + length (filter (λ (a : Variable). not (is_boolean a.kind)) as') ≡ length as'
  filtered_long [] = refl
  filtered_long (a ∷ as') = go (is_boolean a.kind) (filtered_long as')
    where
      go : (b : Bool) → length (filter (λ (x : Variable). is_boolean x.kind) as') + length (filter (λ (x : Variable). not (is_boolean x.kind)) as') ≡ length as' →
          length (cond b (a ∷ filter (λ (x : Variable). is_boolean x.kind) as') (filter (λ (x : Variable). is_boolean x.kind) as'))
          + length (cond (not b) (a ∷ filter (λ (x : Variable). not (is_boolean x.kind)) as') (filter (λ (x : Variable). not (is_boolean x.kind)) as')) ≡ suc (length as')
      go true h = omega arith
      go false h = omega arith

  block_sum : (s : Stage) (fresh : List Number) → length (block_of A s fresh) ≡ (length s.state + length s.input + length (bools A)) + length fresh + length (reals A)
  block_sum s fresh =
      length-append (((s.state ++ s.input) ++ values s.named (bools A)) ++ fresh) (values s.named (reals A))
      ∙ ap₂ ◌+◌ (length-append ((s.state ++ s.input) ++ values s.named (bools A)) fresh
      ∙ ap (λ n. n + length fresh) (length-append (s.state ++ s.input) (values s.named (bools A))
      ∙ ap₂ ◌+◌ (length-append s.state s.input) (length-map (bools A) (λ (a : Variable). s.named a.name)))) (length-map (reals A) (λ (a : Variable). s.named a.name))

  fresh_long : (s : Stage) (fresh : List Number) → AreIn A.states s.state → AreIn A.inputs s.input → length (block_of A s fresh) ≡ length S.columns → length fresh ≡ fresh_count A S
  fresh_long s fresh x u e = omega (arith, e, block_sum s fresh, long_in A.states s.state x, long_in A.inputs s.input u, filtered_long A.auxiliaries)

  named_few : length A.states + length A.inputs + length A.auxiliaries ≤ length S.columns
  named_few =
      let bs : length arranged.bool_columns ≡ length (bools A) = sym (length-map arranged.bool_columns variable_of) ∙ ap length arranged.bools_are in
      let rs : length arranged.real_columns ≡ length (reals A) = sym (length-map arranged.real_columns variable_of) ∙ ap length arranged.reals_are in
      let all : length S.columns ≡ length front + (length middle + ((length arranged.bool_columns + length arranged.fresh_columns) + length arranged.real_columns)) =
      ap length columns_are ∙ length-append front others ∙ ap (λ n. length front + n) (length-append middle tail
      ∙ ap (λ n. length middle + n) (length-append marked arranged.real_columns ∙ ap (λ n. n + length arranged.real_columns) (length-append arranged.bool_columns arranged.fresh_columns))) in
      omega (arith, all, bs, rs, length-map A.states (column_of State), length-map A.inputs (column_of Input), filtered_long A.auxiliaries)

  block_long : (s : Stage) (fresh : List Number) → AreIn A.states s.state → AreIn A.inputs s.input → length fresh ≡ fresh_count A S → length (block_of A s fresh) ≡ length S.columns
  block_long s fresh x u e = omega (arith, e, block_sum s fresh, long_in A.states s.state x, long_in A.inputs s.input u, filtered_long A.auxiliaries, named_few)

  block_grouped : (s : Stage) (fresh : List Number) → block_of A s fresh ≡ (s.state ++ s.input) ++ (values s.named (bools A) ++ (fresh ++ values s.named (reals A)))
  block_grouped s fresh = append_assoc ((s.state ++ s.input) ++ values s.named (bools A)) fresh (values s.named (reals A)) ∙ append_assoc (s.state ++ s.input) (values s.named (bools A)) (fresh ++ values s.named (reals A))

  -- ---- chains are runs
  pub record Found (u : List Number) (n : ℕ) : Type 0 where
    pub stages : List Stage
    pub last : List Number
    pub long : length stages ≡ n
    pub run : IsRun A Step S stages last u
    pub first : first_state stages last ≡ take count u
    pub within : AreWithin A.states last

  last_within : (u : List Number) → InEach (bounds_of (state_columns S.columns)) u → AreWithin A.states u
  last_within u h = (within_are A.states u).0 (subst (λ cs. InEach (bounds_of cs) u) states_are h)

  last_long : (u : List Number) → InEach (bounds_of (state_columns S.columns)) u → length u ≡ count
  last_long u h = in_each_long (bounds_of (state_columns S.columns)) u h ∙ length-map (state_columns S.columns) (λ (c : Column). c.bounds) ∙ ap length states_are ∙ length-map A.states (column_of State)

  taken_all : (u : List Number) → length u ≡ count → take count u ≡ u
  taken_all u l = ap (λ n. take n u) (sym l) ∙ take-length u

  -- the first numbers of a step are in the boxes of states, the next ones in those of inputs
  splitting : (b : List Number) → InEach (bounds_of S.columns) b → InEach (bounds_of front) (take count b) × InEach (bounds_of middle) (take (length A.inputs) (drop count b)) × (b ≡ (take count b ++ take (length A.inputs) (drop count b)) ++ drop (length A.inputs) (drop count b))
  splitting b h = (first.0, second.0, sym (take-append-drop count b) ∙ ap (λ z. take count b ++ z) (sym (take-append-drop (length A.inputs) (drop count b))) ∙ sym (append_assoc (take count b) (take (length A.inputs) (drop count b)) (drop (length A.inputs) (drop count b))))
    where
      long : (role : ColumnRole) (ds : List Boxed) → length (bounds_of (map (column_of role) ds)) ≡ length ds
      long role ds = length-map (map (column_of role) ds) (λ (c : Column). c.bounds) ∙ length-map ds (column_of role)

      first : InEach (bounds_of front) (take count b) × InEach (bounds_of others) (drop count b)
      first = subst (λ n. InEach (bounds_of front) (take n b) × InEach (bounds_of others) (drop n b)) (long State A.states)
          (in_each_split (bounds_of front) (bounds_of others) b (subst (λ is. InEach is b) (map-append (λ (c : Column). c.bounds) front others) (subst (λ cs. InEach (bounds_of cs) b) columns_are h)))

      second : InEach (bounds_of middle) (take (length A.inputs) (drop count b)) × InEach (bounds_of tail) (drop (length A.inputs) (drop count b))
      second = subst (λ n. InEach (bounds_of middle) (take n (drop count b)) × InEach (bounds_of tail) (drop n (drop count b))) (long Input A.inputs)
          (in_each_split (bounds_of middle) (bounds_of tail) (drop count b) (subst (λ is. InEach is (drop count b)) (map-append (λ (c : Column). c.bounds) middle tail) first.1))

  next_kinds : (b rest : List Number) (x u : List Number) (w : Named) (x' y : List Number) → IsBlock S b rest → ExactAt A Step S x u → From S x u b → Step x u w x' y → x' ≡ take count rest
  next_kinds b rest x u w x' y h e f s = sym (e.next b w x' y f s) ∙ h.next ∙ ap (λ n. take n rest) next_count

  module _ (n t : ℕ) (u b rest : List Number) (e : u ≡ b ++ rest) (block : IsBlock S b rest) (inside : InEach (bounds_of S.columns) b) (k : AreOfKinds A.states (take count u)) where
    abbrev x : List Number
    x = take count b

    abbrev u' : List Number
    u' = take (length A.inputs) (drop count b)

    enough : count ≤ length b
    enough = omega (arith, block.long, named_few)

    x_is : take count u ≡ x
    x_is = ap (take count) e ∙ take-append-le count b rest enough

    long_u : length u' ≡ length A.inputs
    long_u = in_each_long (bounds_of middle) u' (splitting b inside).1 ∙ length-map middle (λ (c : Column). c.bounds) ∙ length-map A.inputs (column_of Input)

    kinds_x : AreOfKinds A.states x
    kinds_x = subst (AreOfKinds A.states) x_is k

    from : From S x u' b
    from = solution_of b rest x u' (drop (length A.inputs) (drop count b)) block (splitting b inside).2 kinds_x long_u

    in_x : AreIn A.states x
    in_x = in_of State A.states x (splitting b inside).0 kinds_x

    in_u : AreIn A.inputs u'
    in_u = in_of Input A.inputs u' (splitting b inside).1 (inputs_kinds b rest x u' (drop (length A.inputs) (drop count b)) block (splitting b inside).2 kinds_x long_u)

    exact_here : ExactAt A Step S x u'
    exact_here = g.exact.at_each x u' in_x in_u

    abbrev named : Named
    named = (exact_here.steps b from).0

    abbrev next : List Number
    next = (exact_here.steps b from).1

    abbrev out : List Number
    out = (exact_here.steps b from).2

    legal : Step x u' named next out
    legal = (exact_here.steps b from).3

    next_is : next ≡ take count rest
    next_is = next_kinds b rest x u' named next out block exact_here from legal

    pub rest_kinds : AreOfKinds A.states (take count rest)
    rest_kinds = subst (AreOfKinds A.states) next_is (g.keeps x u' named next out legal)

    same : (fresh : List Number) × (b ≡ (x ++ u') ++ values named (bools A) ++ fresh ++ values named (reals A))
    same = exact_here.same b named next out from legal

    abbrev stage : Stage
    stage = record { state = x; input = u'; named = named; outputs = out }

    pub one_more : Found rest n → Found u (suc n)
    one_more f = record {
      stages = stage ∷ f.stages;
      last = f.last;
      long = ap suc f.long;
      run = (
        same.0,
        rest,
        fresh_long stage same.0 in_x in_u (ap length (sym same.1) ∙ block.long),
        e ∙ ap (λ z. z ++ rest) same.1,
        subst (From S x u') same.1 from,
        (in_x, in_u, subst (λ z. Step x u' named z out) (next_is ∙ sym f.first) legal),
        f.run,
      );
      first = sym x_is;
      within = f.within;
    }

  pub run_of : (n t : ℕ) (u : List Number) → IsChain S r t n u → AreOfKinds A.states (take count u) → Found u n
  run_of zero t u c k = record { stages = []; last = u; long = refl; run = refl; first = sym (taken_all u (last_long u c)); within = last_within u c }
  run_of (suc n) t u (b, rest, e, inside, block, chain) k =
      one_more n t u b rest e block (boxes_of t b inside) k (run_of n (suc t) rest chain (rest_kinds n t u b rest e block (boxes_of t b inside) k))

  -- the first states are the start
  pub chain_start : (n : ℕ) (u : List Number) → 1 ≤ n → IsChain S r 0 n u → take count u ≡ r.start
  chain_start zero u l c = absurd (omega (arith, l))
  chain_start (suc n) u l (b, rest, e, inside, block, chain) =
      ap (take count) e ∙ take-append-le count b rest (omega (arith, block.long, named_few)) ∙ ap (λ m. take m b) (sym start_long) ∙ ((first_step b).0 inside).1

  pub start_kinds : (n : ℕ) (u : List Number) → 1 ≤ n → IsChain S r 0 n u → AreOfKinds A.states (take count u)
  start_kinds n u l c = subst (AreOfKinds A.states) (sym (chain_start n u l c)) (kinds_in A.states r.start start_in)

  -- ---- runs are chains
  pub record Chained (ss : List Stage) (last : List Number) (t : ℕ) : Type 0 where
    pub numbers : List Number
    pub chain : IsChain S r t (length ss) numbers
    pub run : IsRun A Step S ss last numbers
    pub first : take count numbers ≡ first_state ss last

  abbrev pub StartsAt : ℕ → List Stage → List Number → Type 0
  StartsAt zero ss last = first_state ss last ≡ r.start
  StartsAt (suc t) ss last = Unit {0}

  boxes_at : (t : ℕ) (b : List Number) (ss : List Stage) (last : List Number) → InEach (bounds_of S.columns) b → take count b ≡ first_state ss last → StartsAt t ss last → InEach (step_boxes S r t) b
  boxes_at zero b ss last h f s = (first_step b).1 (h, ap (λ n. take n b) start_long ∙ f ∙ s)
  boxes_at (suc t) b ss last h f s = h

  module _ (s : Stage) (ss : List Stage) (last : List Number) (t : ℕ) (legal_here : AreIn A.states s.state × AreIn A.inputs s.input × Step s.state s.input s.named (first_state ss last) s.outputs) (q : StartsAt t (s ∷ ss) last) (rest : Chained ss last (suc t)) where
    abbrev here : ExactAt A Step S s.state s.input
    here = g.exact.at_each s.state s.input legal_here.0 legal_here.1

    abbrev b : List Number
    b = (here.solvable s.named (first_state ss last) s.outputs legal_here.2).0

    from_here : From S s.state s.input b
    from_here = (here.solvable s.named (first_state ss last) s.outputs legal_here.2).1

    same_here : (fresh : List Number) × (b ≡ (s.state ++ s.input) ++ values s.named (bools A) ++ fresh ++ values s.named (reals A))
    same_here = here.same b s.named (first_state ss last) s.outputs from_here legal_here.2

    inside : InEach (bounds_of S.columns) b
    inside = in_each_from S.columns b from_here.solution.long (here.boxes b from_here)

    first_is : take count b ≡ s.state
    first_is = ap (take count) (from_here.begins ∙ append_assoc s.state s.input from_here.rest) ∙ front_of s.state (s.input ++ from_here.rest) count (long_in A.states s.state legal_here.0)

    block : IsBlock S b rest.numbers
    block = record {
      long = from_here.solution.long;
      rows = from_here.solution.rows;
      next = here.next b s.named (first_state ss last) s.outputs from_here legal_here.2 ∙ sym rest.first ∙ ap (λ n. take n rest.numbers) (sym next_count);
      bits = bits_of_kinds S.columns b (kinds_from S.columns b from_here.solution.kinds);
    }

    pub chained : Chained (s ∷ ss) last t
    chained = record {
      numbers = b ++ rest.numbers;
      chain = (b, rest.numbers, refl, boxes_at t b (s ∷ ss) last inside first_is q, block, rest.chain);
      run = (
        same_here.0,
        rest.numbers,
        fresh_long s same_here.0 legal_here.0 legal_here.1 (ap length (sym same_here.1) ∙ from_here.solution.long),
        ap (λ z. z ++ rest.numbers) same_here.1,
        subst (From S s.state s.input) same_here.1 from_here,
        legal_here,
        rest.run,
      );
      first = take-append-le count b rest.numbers (omega (arith, from_here.solution.long, named_few)) ∙ first_is;
    }

  pub chain_from : (ss : List Stage) (last : List Number) (t : ℕ) → AreLegal A Step ss last → AreWithin A.states last → StartsAt t ss last → Chained ss last t
  chain_from [] last t l w s = record {
    numbers = last;
    chain = subst (λ cs. InEach (bounds_of cs) last) (sym states_are) ((within_are A.states last).1 w);
    run = refl;
    first = taken_all last (last_long last (subst (λ cs. InEach (bounds_of cs) last) (sym states_are) ((within_are A.states last).1 w)));
  }
  chain_from (s ∷ ss) last t l w q = chained s ss last t l.0 q (chain_from ss last (suc t) l.1 w tt)

  -- ---- a chain that stands for legal stages is their run
  pub runs_of : (ss : List Stage) (last : List Number) (t : ℕ) (u : List Number) → IsChain S r t (length ss) u → AreLegal A Step ss last → AreNumbersOf A S ss last u → IsRun A Step S ss last u
  runs_of [] last t u c l n = n
  runs_of (s ∷ ss) last t u (b, rest, e, inside, block, chain) l (fresh, rest', long, e', n) =
      (fresh, rest', long, e', subst (From S s.state s.input) parts.0 from, l.0, runs_of ss last (suc t) rest' (subst (IsChain S r (suc t) (length ss)) parts.1 chain) l.1 n)
    where
      parts : (b ≡ block_of A s fresh) × (rest ≡ rest')
      parts = same_parts b (block_of A s fresh) rest rest' (block.long ∙ sym (block_long s fresh l.0.0 l.0.1 long)) (sym e ∙ e')

      from : From S s.state s.input b
      from = solution_of b rest s.state s.input (values s.named (bools A) ++ (fresh ++ values s.named (reals A))) block (parts.0 ∙ block_grouped s fresh)
          (kinds_in A.states s.state l.0.0) (long_in A.inputs s.input l.0.1)

  pub run_legal : (ss : List Stage) (last u : List Number) → IsRun A Step S ss last u → AreLegal A Step ss last
  run_legal [] last u h = tt
  run_legal (s ∷ ss) last u (fresh, rest, long, e, from, legal, more) = (legal, run_legal ss last rest more)

  pub run_numbers : (ss : List Stage) (last u : List Number) → IsRun A Step S ss last u → AreNumbersOf A S ss last u
  run_numbers [] last u h = h
  run_numbers (s ∷ ss) last u (fresh, rest, long, e, from, legal, more) = (fresh, rest, long, e, run_numbers ss last rest more)

  -- ---- there is one of each
  pub run_one : (ss : List Stage) (last u u' : List Number) → IsRun A Step S ss last u → IsRun A Step S ss last u' → u ≡ u'
  run_one [] last u u' h h' = h ∙ sym h'
  run_one (s ∷ ss) last u u' (fresh, rest, long, e, from, legal, more) (fresh', rest', long', e', from', legal', more') =
      e ∙ ap₂ (λ (xs ys : List Number). xs ++ ys) ((g.exact.at_each s.state s.input legal.0 legal.1).one (block_of A s fresh) (block_of A s fresh') from from') (run_one ss last rest rest' more more') ∙ sym e'

  same_stage : (s s' : Stage) (b : List Number) (x' x'' : List Number) → s.state ≡ s'.state → s.input ≡ s'.input → From S s.state s.input b → AreIn A.states s.state → AreIn A.inputs s.input →
      Step s.state s.input s.named x' s.outputs → Step s'.state s'.input s'.named x'' s'.outputs → IsSameStage A s s'
  same_stage s s' b x' x'' ex eu from ix iu l l' = record {
    state = ex;
    input = eu;
    auxiliaries = exact_here.one_step s.named s'.named x' x'' s.outputs s'.outputs l moved;
    outputs = sym (exact_here.outputs b s.named x' s.outputs from l) ∙ exact_here.outputs b s'.named x'' s'.outputs from moved;
  }
    where
      exact_here : ExactAt A Step S s.state s.input
      exact_here = g.exact.at_each s.state s.input ix iu

      moved : Step s.state s.input s'.named x'' s'.outputs
      moved = subst (λ z. Step z s.input s'.named x'' s'.outputs) (sym ex) (subst (λ z. Step s'.state z s'.named x'' s'.outputs) (sym eu) l')

  same_next : (s s' : Stage) (ss ss' : List Stage) (last last' b b' rest rest' : List Number) → b ++ rest ≡ b' ++ rest' → From S s.state s.input b → From S s'.state s'.input b' →
      AreIn A.states s.state × AreIn A.inputs s.input × Step s.state s.input s.named (first_state ss last) s.outputs →
      AreIn A.states s'.state × AreIn A.inputs s'.input × Step s'.state s'.input s'.named (first_state ss' last') s'.outputs →
      IsRun A Step S ss last rest → IsRun A Step S ss' last' rest' → (IsRun A Step S ss last rest → IsRun A Step S ss' last' rest → AreSameStages A ss ss' × (last ≡ last')) →
      (IsSameStage A s s' × AreSameStages A ss ss') × (last ≡ last')
  same_next s s' ss ss' last last' b b' rest rest' e f f' l l' more more' next =
      let parts : (b ≡ b') × (rest ≡ rest') = same_parts b b' rest rest' (f.solution.long ∙ sym f'.solution.long) e in
      let states : (s.state ≡ s'.state) × (s.input ++ f.rest ≡ s'.input ++ f'.rest) =
      same_parts s.state s'.state (s.input ++ f.rest) (s'.input ++ f'.rest) (long_in A.states s.state l.0 ∙ sym (long_in A.states s'.state l'.0))
      (sym (append_assoc s.state s.input f.rest) ∙ sym f.begins ∙ parts.0 ∙ f'.begins ∙ append_assoc s'.state s'.input f'.rest) in
      let inputs : (s.input ≡ s'.input) × (f.rest ≡ f'.rest) = same_parts s.input s'.input f.rest f'.rest (long_in A.inputs s.input l.1 ∙ sym (long_in A.inputs s'.input l'.1)) states.1 in
      let others : AreSameStages A ss ss' × (last ≡ last') = next more (subst (IsRun A Step S ss' last') (sym parts.1) more') in
      ((same_stage s s' b (first_state ss last) (first_state ss' last') states.0 inputs.0 f l.0 l.1 l.2 l'.2, others.0), others.1)

  pub run_same : (ss ss' : List Stage) (last last' u : List Number) → length ss ≡ length ss' → IsRun A Step S ss last u → IsRun A Step S ss' last' u → AreSameStages A ss ss' × (last ≡ last')
  run_same [] [] last last' u l h h' = (tt, sym h ∙ h')
  run_same [] (s' ∷ ss') last last' u l h h' = absurd (omega arith)
  run_same (s ∷ ss) [] last last' u l h h' = absurd (omega arith)
  run_same (s ∷ ss) (s' ∷ ss') last last' u l (fresh, rest, long, e, from, legal, more) (fresh', rest', long', e', from', legal', more') =
      same_next s s' ss ss' last last' (block_of A s fresh) (block_of A s' fresh') rest rest' (sym e ∙ e') from from' legal legal' more more' (run_same ss ss' last last' rest (omega (arith, l)))
