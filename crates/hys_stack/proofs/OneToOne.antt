-- Solutions stand one to one for trajectories, and what follows of least costs.
use Rattle.std.proofs.Common.{◌≡◌, ◌↔◌, ℕ, zero, suc, ◌+◌, ◌<◌, ◌≤◌, List, [], ◌∷◌, ◌++◌, length, map, true, refl, sym, ◌∙◌, ap, ap₂, subst, arith, append_assoc}
use Rattle.std.proofs.Math.Nat.{suc-mul}
use Rattle.std.proofs.lemmas.List.{length-map, length-append}
use Rattle.std.proofs.lemmas.List.Elements.{recursion_from_All}
use Rattle.std.specs.List.{AllByRecursion}
use Rattle.hys_number.specs.Number.{Number}
use Rattle.hys_number.specs.Ops.{◌+ₙ◌, ◌*ₙ◌, ◌≤ₙ◌, whole}
use Rattle.hys_number.proofs.Ring.{by_ring, ◌⊕◌, ◌⊗◌}
use Rattle.hys_number.proofs.Ring.{v as unknown, k as numeral}
use Rattle.hys_lin.specs.Sums.{Assignment, at, value}
use Rattle.hys_lin.specs.Over.{AreTermsOver}
use Rattle.hys_lin.specs.declared.form.Affine.{Affine}
use Rattle.hys_lin.specs.declared.form.Row.{Row}
use Rattle.hys_relax.specs.Node.{StackedSolution}
use Rattle.hys_sys.specs.System.{IsSystem}
use Rattle.hys_sys.specs.Exact.{Automaton, Variable, Steps, AreIn, column_of, variable_of, fresh_name, fresh_variables, bools, reals, values, From, ExactAt, Exact}
use Rattle.hys_sys.specs.declared.system.ColumnRole.TheVariants.{State, Input}
use Rattle.hys_sys.specs.declared.system.Kind2.TheVariants as kind
use Rattle.hys_sys.specs.declared.system.Column.{Column}
use Rattle.hys_sys.specs.declared.system.Output.{Output}
use Rattle.hys_sys.specs.declared.system.System.{System}
use Rattle.hys_stack.specs.declared.request.Request.{Request}
use Rattle.hys_stack.specs.Requests.{is_fresh, AreWeights, IsRequestOf}
use Rattle.hys_stack.specs.Stacking.{offset, weighted, weighted_outputs, step_cost}
use Rattle.hys_stack.specs.Trajectories.{Stage, Trajectory, first_state, IsTrajectory, StandsFor, KeepsKinds, zeros, fresh_count, products, stage_numbers, stage_cost, stages_cost, trajectory_cost}
use Rattle.hys_stack.specs.Laws.{SolutionsAreTrajectories, LeastIsCheapest, BoundBounds, NoneIsNone}
use Rattle.hys_stack.proofs.Blocks.{at_front, at_behind, each_same, value_same}
use Rattle.hys_stack.proofs.Chains.{IsChain, solution_chain}
use Rattle.hys_stack.proofs.Costs.{costs_from, stacked_is}
use Rattle.hys_stack.proofs.Problems.{start_few, states_counted}
use Rattle.hys_stack.proofs.Stacked.{weights_long}
use Rattle.hys_stack.proofs.Parts.{long_in}
use Rattle.hys_stack.proofs.Runs.{IsSetting, IsRun, block_of, Chained, chain_start, start_kinds, run_of, chain_from, runs_of, run_legal, run_numbers, run_one, run_same}

-- ---- costs of lists
weighted_none : (ws : List Number) (n : ℕ) (f : Assignment) → ((i : ℕ) → f (n + i) ≡ whole 0) → weighted ws n f ≡ whole 0
weighted_none [] n f h = refl
weighted_none (w ∷ ws) n f h =
    ap₂ (λ a b. w *ₙ a +ₙ b) (ap f (let q : n ≡ n + 0 = omega arith in q) ∙ h 0) (weighted_none ws (suc n) f (λ i. ap f (let q : suc n + i ≡ n + suc i = omega arith in q) ∙ h (suc i)))
    ∙ by_ring (w ∷ []) (unknown 0 ⊗ numeral 0 ⊕ numeral 0) (numeral 0) refl

weighted_products : (ws u : List Number) (n : ℕ) (f : Assignment) → ((i : ℕ) → f (n + i) ≡ at u i) → weighted ws n f ≡ products ws u
weighted_products [] u n f h = refl
weighted_products (w ∷ ws) [] n f h = weighted_none (w ∷ ws) n f h
weighted_products (w ∷ ws) (a ∷ u) n f h =
    ap₂ (λ x y. w *ₙ x +ₙ y) (ap f (let q : n ≡ n + 0 = omega arith in q) ∙ h 0) (weighted_products ws u (suc n) f (λ i. ap f (let q : suc n + i ≡ n + suc i = omega arith in q) ∙ h (suc i)))

products_front : (ws b rest : List Number) → length ws ≤ length b → products ws (b ++ rest) ≡ products ws b
products_front [] b rest l = refl
products_front (w ∷ ws) [] rest l = absurd (omega (arith, l))
products_front (w ∷ ws) (a ∷ b) rest l = ap (λ z. w *ₙ a +ₙ z) (products_front ws b rest (omega (arith, l)))

outputs_products : (n : ℕ) (ws : List Number) (os : List Output) (f g : Assignment) → ((c : ℕ) → c < n → f c ≡ g c) → AllByRecursion (λ (o : Output). AreTermsOver n o.form.terms) os →
    weighted_outputs ws os f ≡ products ws (map (λ (o : Output). value o.form g) os)
outputs_products n [] [] f g h a = refl
outputs_products n (w ∷ ws) [] f g h a = refl
outputs_products n [] (o ∷ os) f g h a = refl
outputs_products n (w ∷ ws) (o ∷ os) f g h a = ap₂ (λ x y. w *ₙ x +ₙ y) (value_same o.form f g (each_same (λ c. c < n) (λ c. f c ≡ g c) o.form.terms h a.0.below)) (outputs_products n ws os f g h a.1)

-- fresh columns have no weight, whatever their numbers
fresh_free : (fs ds : List Column) (ys ys' zs ws : List Number) → length ys ≡ length fs → length ys' ≡ length fs → AllByRecursion (λ (c : Column). is_fresh c.name ≡ true) fs →
    AreWeights (fs ++ ds) ws → products ws (ys ++ zs) ≡ products ws (ys' ++ zs)
fresh_free [] ds [] [] zs ws l m h a = refl
fresh_free [] ds (y ∷ ys) ys' zs ws l m h a = absurd (omega (arith, l))
fresh_free [] ds [] (y ∷ ys') zs ws l m h a = absurd (omega (arith, m))
fresh_free (c ∷ fs) ds [] ys' zs ws l m h a = absurd (omega (arith, l))
fresh_free (c ∷ fs) ds (y ∷ ys) [] zs ws l m h a = absurd (omega (arith, m))
fresh_free (c ∷ fs) ds (y ∷ ys) (y' ∷ ys') zs [] l m h a = refl
fresh_free (c ∷ fs) ds (y ∷ ys) (y' ∷ ys') zs (w ∷ ws) l m h a =
    let none : w ≡ whole 0 = a.0 h.0 in
    ap₂ (λ x z. x *ₙ y +ₙ z) none (fresh_free fs ds ys ys' zs ws (omega (arith, l)) (omega (arith, m)) h.1 a.1)
    ∙ by_ring (y ∷ y' ∷ products ws (ys' ++ zs) ∷ []) (numeral 0 ⊗ unknown 0 ⊕ unknown 2) (numeral 0 ⊗ unknown 1 ⊕ unknown 2) refl
    ∙ ap (λ x. x *ₙ y' +ₙ products ws (ys' ++ zs)) (sym none)

fresh_behind : (cs fs ds : List Column) (xs ys ys' zs ws : List Number) → length xs ≡ length cs → length ys ≡ length fs → length ys' ≡ length fs → AllByRecursion (λ (c : Column). is_fresh c.name ≡ true) fs →
    AreWeights (cs ++ (fs ++ ds)) ws → products ws (xs ++ (ys ++ zs)) ≡ products ws (xs ++ (ys' ++ zs))
fresh_behind [] fs ds [] ys ys' zs ws e l m h a = fresh_free fs ds ys ys' zs ws l m h a
fresh_behind [] fs ds (x ∷ xs) ys ys' zs ws e l m h a = absurd (omega (arith, e))
fresh_behind (c ∷ cs) fs ds [] ys ys' zs ws e l m h a = absurd (omega (arith, e))
fresh_behind (c ∷ cs) fs ds (x ∷ xs) ys ys' zs [] e l m h a = refl
fresh_behind (c ∷ cs) fs ds (x ∷ xs) ys ys' zs (w ∷ ws) e l m h a = ap (λ z. w *ₙ x +ₙ z) (fresh_behind cs fs ds xs ys ys' zs ws (omega (arith, e)) l m h a.1)

named_fresh : (cs : List Column) (n m : ℕ) → map variable_of cs ≡ fresh_variables n m → AllByRecursion (λ (c : Column). is_fresh c.name ≡ true) cs
named_fresh [] n m e = tt
named_fresh (c ∷ cs) n zero e = absurd (cc)
named_fresh (c ∷ cs) n (suc m) e =
    let q : variable_of c ≡ record { name = fresh_name n; kind = kind.Bool } = cc in let qs : map variable_of cs ≡ fresh_variables (suc n) m = cc in
    (ap (λ (x : Variable). is_fresh x.name) q, named_fresh cs (suc n) m qs)

zeros_long : (n : ℕ) → length (zeros n) ≡ n
zeros_long zero = refl
zeros_long (suc n) = ap suc (zeros_long n)

-- ---- the setting
setting_of : (A : Automaton) (Step : Steps) (S : System) (r : Request) → IsSystem S → IsRequestOf S r → Exact A Step S → KeepsKinds A Step → IsSetting A Step S r
setting_of A Step S r s q e n = record {
  over = record {
    rows = recursion_from_All (λ (x : Row). AreTermsOver (length S.columns) x.terms) S.rows s.rows;
    next = recursion_from_All (λ (x : Affine). AreTermsOver (length S.columns) x.terms) S.next s.next;
    each = s.each ∙ states_counted S.columns;
  };
  exact = e;
  keeps = n;
  starts = q.start;
}

module _ (A : Automaton) (Step : Steps) (S : System) (r : Request) (s : IsSystem S) (q : IsRequestOf S r) (g : IsSetting A Step S r) where
  -- ---- the cost of a run
  abbrev marked_front : List Column
  marked_front = (map (column_of State) A.states ++ map (column_of Input) A.inputs) ++ g.exact.arranged.bool_columns

  columns_parted : S.columns ≡ marked_front ++ (g.exact.arranged.fresh_columns ++ g.exact.arranged.real_columns)
  columns_parted = g.exact.arranged.columns ∙ append_assoc marked_front g.exact.arranged.fresh_columns g.exact.arranged.real_columns

  block_parted : (st : Stage) (fresh : List Number) → block_of A st fresh ≡ ((st.state ++ st.input) ++ values st.named (bools A)) ++ (fresh ++ values st.named (reals A))
  block_parted st fresh = append_assoc ((st.state ++ st.input) ++ values st.named (bools A)) fresh (values st.named (reals A))

  front_long : (st : Stage) → AreIn A.states st.state → AreIn A.inputs st.input → length ((st.state ++ st.input) ++ values st.named (bools A)) ≡ length marked_front
  front_long st x u =
      length-append (st.state ++ st.input) (values st.named (bools A))
      ∙ ap₂ ◌+◌ (length-append st.state st.input ∙ ap₂ ◌+◌ (long_in A.states st.state x ∙ sym (length-map A.states (column_of State))) (long_in A.inputs st.input u ∙ sym (length-map A.inputs (column_of Input))))
      (length-map (bools A) (λ (a : Variable). st.named a.name) ∙ sym (sym (length-map g.exact.arranged.bool_columns variable_of) ∙ ap length g.exact.arranged.bools_are))
      ∙ ap (λ n. n + length g.exact.arranged.bool_columns) (sym (length-append (map (column_of State) A.states) (map (column_of Input) A.inputs)))
      ∙ sym (length-append (map (column_of State) A.states ++ map (column_of Input) A.inputs) g.exact.arranged.bool_columns)

  same_products : (st : Stage) (fresh : List Number) → AreIn A.states st.state → AreIn A.inputs st.input → length fresh ≡ fresh_count A S → length fresh ≡ length g.exact.arranged.fresh_columns →
      products r.step_cost (block_of A st fresh) ≡ products r.step_cost (stage_numbers A S st)
  same_products st fresh x u l m =
      ap (products r.step_cost) (block_parted st fresh)
      ∙ fresh_behind marked_front g.exact.arranged.fresh_columns g.exact.arranged.real_columns ((st.state ++ st.input) ++ values st.named (bools A)) fresh (zeros (fresh_count A S)) (values st.named (reals A)) r.step_cost
      (front_long st x u) m (zeros_long (fresh_count A S) ∙ sym l ∙ m) (named_fresh g.exact.arranged.fresh_columns 1 (length g.exact.arranged.fresh_columns) g.exact.arranged.fresh_are)
      (subst (λ cs. AreWeights cs r.step_cost) columns_parted q.step_cost)
      ∙ ap (products r.step_cost) (sym (block_parted st (zeros (fresh_count A S))))

  fresh_is : (st : Stage) (fresh : List Number) → AreIn A.states st.state → AreIn A.inputs st.input → length (block_of A st fresh) ≡ length S.columns → length fresh ≡ length g.exact.arranged.fresh_columns
  fresh_is st fresh x u e =
      let a = ap length (block_parted st fresh) ∙ length-append ((st.state ++ st.input) ++ values st.named (bools A)) (fresh ++ values st.named (reals A)) in
      let b = length-append fresh (values st.named (reals A)) in
      let c = ap length columns_parted ∙ length-append marked_front (g.exact.arranged.fresh_columns ++ g.exact.arranged.real_columns) in
      let d = length-append g.exact.arranged.fresh_columns g.exact.arranged.real_columns in
      let z = length-map (reals A) (λ (a : Variable). st.named a.name) ∙ sym (sym (length-map g.exact.arranged.real_columns variable_of) ∙ ap length g.exact.arranged.reals_are) in
      omega (arith, a, b, c, d, e, z, front_long st x u)

  outputs_are : (st : Stage) (next b : List Number) (f : Assignment) → ExactAt A Step S st.state st.input → From S st.state st.input b → Step st.state st.input st.named next st.outputs →
      ((c : ℕ) → c < length S.columns → f c ≡ at b c) → weighted_outputs r.output_cost S.outputs f ≡ products r.output_cost st.outputs
  outputs_are st next b f e from l h =
      outputs_products (length S.columns) r.output_cost S.outputs f (at b) h (recursion_from_All (λ (o : Output). AreTermsOver (length S.columns) o.form.terms) S.outputs s.outputs)
      ∙ ap (products r.output_cost) (e.outputs b st.named next st.outputs from l)

  pub run_cost : (ss : List Stage) (last : List Number) (t : ℕ) (u : List Number) (f : Assignment) → IsRun A Step S ss last u → ((i : ℕ) → f (offset S t + i) ≡ at u i) →
      costs_from S r t (length ss) f +ₙ weighted r.final_cost (offset S (t + length ss)) f ≡ stages_cost A S r ss +ₙ products r.final_cost last
  run_cost [] last t u f run h =
      ap (λ z. whole 0 +ₙ z) (ap (λ m. weighted r.final_cost (offset S m) f) (let z : t + 0 ≡ t = omega arith in z) ∙ weighted_products r.final_cost u (offset S t) f h ∙ ap (products r.final_cost) run)
  run_cost (st ∷ ss) last t u f (fresh, rest, long, e, from, legal, more) h =
      ap (λ m. (step_cost S r (offset S t) f +ₙ costs_from S r (suc t) (length ss) f) +ₙ weighted r.final_cost (offset S m) f) (let z : t + suc (length ss) ≡ suc t + length ss = omega arith in z)
      ∙ by_ring (step_cost S r (offset S t) f ∷ costs_from S r (suc t) (length ss) f ∷ weighted r.final_cost (offset S (suc t + length ss)) f ∷ []) (unknown 0 ⊕ unknown 1 ⊕ unknown 2) (unknown 0 ⊕ (unknown 1 ⊕ unknown 2)) refl
      ∙ ap₂ ◌+ₙ◌ here (run_cost ss last (suc t) rest f more behind)
      ∙ by_ring (stage_cost A S r st ∷ stages_cost A S r ss ∷ products r.final_cost last ∷ []) (unknown 0 ⊕ (unknown 1 ⊕ unknown 2)) (unknown 0 ⊕ unknown 1 ⊕ unknown 2) refl
    where
      b : List Number
      b = block_of A st fresh

      front : (i : ℕ) → f (offset S t + i) ≡ at (b ++ rest) i
      front i = h i ∙ ap (λ xs. at xs i) e

      behind : (i : ℕ) → f (offset S (suc t) + i) ≡ at rest i
      behind i = let z : offset S (suc t) + i ≡ offset S t + (length b + i) = omega (arith, suc-mul t (length S.columns), from.solution.long) in
          ap f z ∙ front (length b + i) ∙ at_behind b rest i (length b + i) refl

      few : length r.step_cost ≤ length b
      few = omega (arith, weights_long S.columns r.step_cost q.step_cost, from.solution.long)

      here : step_cost S r (offset S t) f ≡ stage_cost A S r st
      here = ap₂ ◌+ₙ◌
          (weighted_products r.step_cost (b ++ rest) (offset S t) f front ∙ products_front r.step_cost b rest few ∙ same_products st fresh legal.0 legal.1 long (fresh_is st fresh legal.0 legal.1 from.solution.long))
          (outputs_are st (first_state ss last) b (λ c. f (offset S t + c)) (g.exact.at_each st.state st.input legal.0 legal.1) from legal.2
          (λ c l. front c ∙ at_front b rest c (omega (arith, l, from.solution.long))))

pub one_to_one : (A : Automaton) (Step : Steps) → SolutionsAreTrajectories A Step
one_to_one A Step S r p s q stacked e n = record {
  solution = λ T t. let c = made T t in (c.numbers, (solves c.numbers).1 (subst (λ m. IsChain S r 0 m c.numbers) t.long c.chain), run_numbers A Step S r g T.stages T.last c.numbers c.run);
  trajectory = λ u sol.
      let c = (solves u).0 sol in
      let f = run_of A Step S r g r.horizon 0 u c (start_kinds A Step S r g r.horizon u q.some_steps c) in (
        record { stages = f.stages; last = f.last },
        record {
          long = f.long;
          start = f.first ∙ chain_start A Step S r g r.horizon u q.some_steps c;
          legal = run_legal A Step S r g f.stages f.last u f.run;
          ends = f.within;
        },
        run_numbers A Step S r g f.stages f.last u f.run,
      );
  one_solution = λ u u' T sol sol' t h h'. run_one A Step S r g T.stages T.last u u' (run u T sol t h) (run u' T sol' t h');
  one_trajectory = λ u T T' sol t t' h h'.
      let both = run_same A Step S r g T.stages T'.stages T.last T'.last u (t.long ∙ sym t'.long) (run u T sol t h) (run u T' sol t' h') in
      record { stages = both.0; last = both.1 };
  cost = λ u T sol t h. stacked.cost (at u) ∙ stacked_is S r (at u)
      ∙ ap (λ m. costs_from S r 0 m (at u) +ₙ weighted r.final_cost (offset S m) (at u)) (sym t.long)
      ∙ ap (λ m. costs_from S r 0 (length T.stages) (at u) +ₙ weighted r.final_cost (offset S m) (at u)) (let z : length T.stages ≡ 0 + length T.stages = omega arith in z)
      ∙ run_cost A Step S r s q g T.stages T.last 0 u (at u) (run u T sol t h) (λ i. ap (at u) (let z : offset S 0 + i ≡ i = omega arith in z));
}
  where
    g : IsSetting A Step S r
    g = setting_of A Step S r s q e n

    solves : (u : List Number) → StackedSolution p u ↔ IsChain S r 0 r.horizon u
    solves u = solution_chain S r p u g.over (start_few S r q) stacked

    made : (T : Trajectory) → IsTrajectory A Step r T → Chained A Step S r g T.stages T.last 0
    made T t = chain_from A Step S r g T.stages T.last 0 t.legal t.ends t.start

    run : (u : List Number) (T : Trajectory) → StackedSolution p u → IsTrajectory A Step r T → StandsFor A S u T → IsRun A Step S T.stages T.last u
    run u T sol t h = runs_of A Step S r g T.stages T.last 0 u (subst (λ m. IsChain S r 0 m u) (sym t.long) ((solves u).0 sol)) t.legal h

pub bound_bounds : (A : Automaton) (Step : Steps) → BoundBounds A Step
bound_bounds A Step S r p z o h T t = let v = o.solution T t in subst (λ c. z ≤ₙ c) (o.cost v.0 T v.1 t v.2) (h v.0 v.1)

pub none_is_none : (A : Automaton) (Step : Steps) → NoneIsNone A Step
none_is_none A Step S r p o h T t = let v = o.solution T t in h v.0 v.1

pub least_is_cheapest : (A : Automaton) (Step : Steps) → LeastIsCheapest A Step
least_is_cheapest A Step S r p v o s h =
    let found = o.trajectory v s in
    let same : value p.cost (at v) ≡ trajectory_cost A S r found.0 = o.cost v found.0 s found.1 found.2 in (
      found.0,
      found.2,
      record {
        is_one = found.1;
        least = λ T t. subst (λ c. c ≤ₙ trajectory_cost A S r T) same (bound_bounds A Step S r p (value p.cost (at v)) o h T t);
      },
      sym same,
    )
