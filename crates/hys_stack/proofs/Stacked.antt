-- What stacking makes.
use Rattle.std.proofs.Common.{◌≡◌, ℕ, zero, suc, ℤ, pos, negsuc, Bool, true, false, cond, ◌+◌, ◌-◌, ◌*◌, ◌^◌, ◌<◌, ◌≤◌, List, [], ◌∷◌, ◌++◌, length, All, Option, Some, None, Result, Err, refl, sym, ◌∙◌, ap, ap₂, subst, arith}
use Rattle.std.proofs.Math.Nat.{suc-mul, mul-le-mul_right, mul-le-mul_left}
use Rattle.std.proofs.Math.Path.{fun_ext}
use Rattle.std.proofs.lemmas.List.{length-append}
use Rattle.std.proofs.lemmas.List.Elements.{recursion_from_All}
use Rattle.std.specs.Prelude.{nat_eq}
use Rattle.std.specs.List.{AllByRecursion}
use Rattle.hys_number.specs.Number.{Number}
use Rattle.hys_number.specs.Ops.{whole}
use Rattle.hys_number.proofs.Field.{add_zero}
use Rattle.hys_number.proofs.Inverse.{zero_num}
use Rattle.hys_lin.specs.Sums.{Assignment, at, value, EachColumn}
use Rattle.hys_lin.specs.Over.{AreTermsOver}
use Rattle.hys_lin.specs.Scaled.{coefficient, kept, kept_by}
use Rattle.hys_lin.specs.Ranges.{box_at}
use Rattle.hys_lin.specs.Operations.{first_lost}
use Rattle.hys_lin.specs.declared.form.Term.{Term}
use Rattle.hys_lin.specs.declared.form.Interval.{Interval}
use Rattle.hys_lin.specs.declared.form.Affine.{Affine}
use Rattle.hys_lin.specs.declared.lost.Lost.{Lost}
use Rattle.hys_lin.specs.declared.problem.Problem.{Problem}
use Rattle.hys_lin.proofs.Summing.{lost_after, lost_before}
use Rattle.hys_relax.specs.BoundSum.{BoundFits, end_operations, joined_to, summed_constant, summed_coefficient, coefficient_operations}
use Rattle.hys_relax.proofs.Dense.{same_column, own_column, other_column, coefficient_none}
use Rattle.hys_number.proofs.Ring.{by_ring, v, k, minus, ◌⊕◌}
use Rattle.hys_sys.specs.System.{IsSystem}
use Rattle.hys_sys.specs.declared.system.Column.{Column}
use Rattle.hys_sys.specs.declared.system.Output.{Output}
use Rattle.hys_sys.specs.declared.system.System.{System}
use Rattle.hys_stack.specs.declared.request.Request.{Request}
use Rattle.hys_stack.specs.declared.fault.StackFault.{StackFault}
use Rattle.hys_stack.specs.declared.fault.StackFault.TheVariants as stacked
use Rattle.hys_stack.specs.Requests.{AreWeights, IsRequestOf}
use Rattle.hys_stack.specs.Stacking.{each_step, stacked_boxes, stacked_rows, stacked_branch, IsStacked}
use Rattle.std.specs.Result.{result_err}
use Rattle.hys_stack.specs.Numbers.{AnswersFirst, output_operations, add_constants, constant_after, step_coefficients, cost_coefficients, cost_constant, step_operations, plain_operations, request_operations}
use Rattle.hys_stack.specs.Terms.{terms_from}
use Rattle.hys_stack.proofs.Costs.{AreOver, outputs_long, terms_above, terms_over, cost_value}
use Rattle.hys_stack.proofs.Problems.{each_long, boxes_long, states_few, states_counted}

pub weights_long : (cs : List Column) (ws : List Number) → AreWeights cs ws → length ws ≡ length cs
weights_long [] [] h = refl
weights_long [] (w ∷ ws) h = absurd h
weights_long (c ∷ cs) [] h = absurd h
weights_long (c ∷ cs) (w ∷ ws) h = ap suc (weights_long cs ws h.1)

-- ---- what the calls ask
columns_few : (S : System) (r : Request) → IsSystem S → IsRequestOf S r → (r.horizon * length S.columns ≤ 600) × (length S.columns ≤ r.horizon * length S.columns)
columns_few S r s q =
    let a : r.horizon * length S.columns ≤ r.horizon * S.weight = mul-le-mul_left r.horizon s.few_columns in
    let b : 1 * length S.columns ≤ r.horizon * length S.columns = mul-le-mul_right (length S.columns) q.some_steps in
    (omega (arith, a, q.small), omega (arith, b))

pub room : (S : System) (r : Request) → IsSystem S → IsRequestOf S r → (r.horizon + 2) * length S.columns < 2 ^ 32
room S r s q =
    let few = columns_few S r s q in
    let e : (r.horizon + 2) * length S.columns ≡ r.horizon * length S.columns + length S.columns + length S.columns =
    ap (λ n. n * length S.columns) (let z : r.horizon + 2 ≡ suc (suc r.horizon) = omega arith in z) ∙ suc-mul (suc r.horizon) (length S.columns) ∙ ap (λ n. n + length S.columns) (suc-mul r.horizon (length S.columns)) in
    omega (arith, e, few.0, few.1)

pub outputs_over : (S : System) (r : Request) → IsSystem S → IsRequestOf S r → All (λ o. AreTermsOver (length r.step_cost) o.form.terms) S.outputs
outputs_over S r s q = subst (λ n. All (λ (o : Output). AreTermsOver n o.form.terms) S.outputs) (sym (weights_long S.columns r.step_cost q.step_cost)) s.outputs

are_over : (n : ℕ) (os : List Output) → AllByRecursion (λ (o : Output). AreTermsOver n o.form.terms) os → AreOver n os
are_over n [] h = tt
are_over n (o ∷ os) h = (h.0, are_over n os h.1)

pub sums_long : (S : System) (r : Request) → IsRequestOf S r → length (cost_coefficients S r) ≡ length (stacked_boxes S r)
sums_long S r q =
    length-append (each_step 0 r.horizon (step_coefficients S r)) r.final_cost
    ∙ ap₂ ◌+◌ (each_long (step_coefficients S r) (length S.columns) 0 r.horizon (λ t. outputs_long r.output_cost S.outputs r.step_cost ∙ weights_long S.columns r.step_cost q.step_cost)) (q.final_cost ∙ states_counted S.columns)
    ∙ sym (boxes_long S r q)

pub sums_few : (S : System) (r : Request) → IsSystem S → IsRequestOf S r → length (cost_coefficients S r) < 2 ^ 32
sums_few S r s q = let few = columns_few S r s q in omega (arith, sums_long S r q, boxes_long S r q, few.0, few.1, states_few S.columns)

-- ---- what is made
pub is_stacked : (S : System) (r : Request) (p : Problem) → IsSystem S → IsRequestOf S r → p.boxes ≡ stacked_boxes S r → p.rows ≡ stacked_rows S r.horizon → p.branch ≡ stacked_branch S r.horizon →
    p.cost.terms ≡ terms_from 0 (cost_coefficients S r) → p.cost.constant ≡ cost_constant S r → IsStacked S r p
is_stacked S r p s q b rs bs ts c = record {
  boxes = b;
  rows = rs;
  branch = bs;
  terms = subst (λ n. AreTermsOver n p.cost.terms) (sums_long S r q ∙ ap length (sym b)) (subst (AreTermsOver (length (cost_coefficients S r))) (sym ts) (terms_over (cost_coefficients S r)));
  cost = λ f. ap₂ (λ us z. value (record { terms = us; constant = z }) f) ts c
      ∙ cost_value S r f (weights_long S.columns r.step_cost q.step_cost) (are_over (length r.step_cost) S.outputs (recursion_from_All (λ (o : Output). AreTermsOver (length r.step_cost) o.form.terms) S.outputs (outputs_over S r s q)));
}

-- ---- the first number that doesn't fit
pub first_stops : (T U : Type 0) (S : System) (r : Request) (f : StackFault) → AnswersFirst {T = T} (Err f) (step_operations S r r.horizon (whole 0)) → AnswersFirst {T = U} (Err f) (request_operations S r)
first_stops T U S r (stacked.Lost l) h = lost_before (step_operations S r r.horizon (whole 0)) (plain_operations (cost_coefficients S r) (cost_constant S r) (stacked_boxes S r)) l h
first_stops T U S r stacked.Memory h = tt

pub second_stops : (S : System) (r : Request) → first_lost (step_operations S r r.horizon (whole 0)) ≡ None → first_lost (request_operations S r) ≡ first_lost (plain_operations (cost_coefficients S r) (cost_constant S r) (stacked_boxes S r))
second_stops S r h = lost_after (step_operations S r r.horizon (whole 0)) (plain_operations (cost_coefficients S r) (cost_constant S r) (stacked_boxes S r)) h

-- ---- the plain bound
kept_coefficient : (n : ℕ) (w : Number) (rest : List Term) (m : ℕ) → EachColumn (λ c. n < c) rest → coefficient (kept n w ++ rest) m ≡ cond (nat_eq n m) w (coefficient rest m)
kept_coefficient n w rest m h = go w.num refl
  where
    none : (b : Bool) → nat_eq n m ≡ b → w ≡ whole 0 → coefficient rest m ≡ cond b w (coefficient rest m)
    none true e z = ap (coefficient rest) (sym (same_column n m e)) ∙ coefficient_none rest n h ∙ sym z
    none false e z = refl

    go : (z : ℤ) → w.num ≡ z → coefficient (kept_by z (record { column = n; factor = w }) ++ rest) m ≡ cond (nat_eq n m) w (coefficient rest m)
    go (pos zero) e = none (nat_eq n m) refl ((zero_num w).0 e)
    go (pos (suc i)) e = refl
    go (negsuc i) e = refl

terms_coefficient : (ws : List Number) (n j : ℕ) → coefficient (terms_from n ws) (n + j) ≡ at ws j
terms_coefficient [] n j = refl
terms_coefficient (w ∷ ws) n zero =
    kept_coefficient n w (terms_from (suc n) ws) (n + 0) (terms_above n (suc n) ws (omega arith))
    ∙ ap (λ b. cond b w (coefficient (terms_from (suc n) ws) (n + 0))) (subst (λ m. nat_eq n m ≡ true) (let q : n ≡ n + 0 = omega arith in q) (own_column n))
terms_coefficient (w ∷ ws) n (suc j) =
    kept_coefficient n w (terms_from (suc n) ws) (n + suc j) (terms_above n (suc n) ws (omega arith))
    ∙ ap (λ b. cond b w (coefficient (terms_from (suc n) ws) (n + suc j))) (other_column n (n + suc j) (λ e. absurd (omega (arith, e))))
    ∙ ap (coefficient (terms_from (suc n) ws)) (let q : n + suc j ≡ suc n + j = omega arith in q) ∙ terms_coefficient ws (suc n) j

joined_none : (n : ℕ) (f : ℕ → List Lost) → ((j : ℕ) → f j ≡ []) → joined_to n f ≡ []
joined_none zero f h = refl
joined_none (suc n) f h = ap₂ (λ (xs ys : List Lost). xs ++ ys) (joined_none n f h) (h n)

pub bound_fits : (p : Problem) (ws : List Number) (c : Number) → p.cost.terms ≡ terms_from 0 ws → p.cost.constant ≡ c → first_lost (plain_operations ws c p.boxes) ≡ None → BoundFits p [] []
bound_fits p ws c t e h =
    ap (λ (os : List Lost). first_lost ((os ++ []) ++ end_operations (summed_constant p []) (summed_coefficient p []) (box_at p.boxes) (length p.boxes))) (joined_none (length p.boxes) (coefficient_operations p []) (λ j. refl))
    ∙ ap₂ (λ (z : Number) (f : Assignment). first_lost (end_operations z f (box_at p.boxes) (length p.boxes))) constant (fun_ext each)
    ∙ h
  where
    constant : summed_constant p [] ≡ c
    constant = by_ring (p.cost.constant ∷ []) (v 0 ⊕ minus (k 0)) (v 0) refl ∙ e

    each : (j : ℕ) → summed_coefficient p [] j ≡ at ws j
    each j = add_zero (coefficient p.cost.terms j) ∙ ap (λ ts. coefficient ts j) t ∙ ap (coefficient (terms_from 0 ws)) (let q : j ≡ 0 + j = omega arith in q) ∙ terms_coefficient ws 0 j

-- ---- rows
pub behind_few : (S : System) (columns step next : ℕ) (forms : List Affine) → IsSystem S → columns ≡ length S.columns → (step + 2) * columns < 2 ^ 32 → next ≡ step * columns + columns → forms ≡ S.next → next + length forms < 2 ^ 32
behind_few S columns step next forms s e l n f =
    let few : length forms ≤ columns = let a = ap length f ∙ s.each ∙ states_counted S.columns in omega (arith, a, states_few S.columns, e) in
    let z : (step + 2) * columns ≡ step * columns + columns + columns =
    ap (λ m. m * columns) (let y : step + 2 ≡ suc (suc step) = omega arith in y) ∙ suc-mul (suc step) columns ∙ ap (λ m. m + columns) (suc-mul step columns) in
    omega (arith, few, z, l, n)

-- ---- what is answered where a call fails
pub err_is : (T : Type 0) (a : Result T Lost) (l : Lost) (o : Option Lost) → a ≡ Err l → Some l ≡ o → result_err a ≡ o
err_is T a l o e h = ap result_err e ∙ h

-- the operations of the next step, and of those behind it
steps_split : (S : System) (r : Request) (n i : ℕ) (c : Number) → i < n →
    step_operations S r (n - i) c ≡ output_operations r.step_cost c r.output_cost S.outputs ++ step_operations S r (n - (i + 1)) (add_constants r.output_cost S.outputs c)
steps_split S r n i c l = ap (λ m. step_operations S r m c) (let q : n - i ≡ suc (n - (i + 1)) = omega (arith, l) in q)

pub steps_stop : (T U : Type 0) (a : Result T StackFault) (f : StackFault) (S : System) (r : Request) (n i : ℕ) (c : Number) (all : List Lost) → a ≡ Err f → AnswersFirst {T = U} (Err f) (output_operations r.step_cost c r.output_cost S.outputs) → i < n →
    first_lost (step_operations S r (n - i) c) ≡ first_lost all → AnswersFirst a all
steps_stop T U a (stacked.Lost l) S r n i c all e h m q = rw e
    (sym q ∙ ap first_lost (steps_split S r n i c m) ∙ lost_before (output_operations r.step_cost c r.output_cost S.outputs) (step_operations S r (n - (i + 1)) (add_constants r.output_cost S.outputs c)) l h)
steps_stop T U a stacked.Memory S r n i c all e h m q = rw e tt

pub steps_go : (S : System) (r : Request) (n i : ℕ) (c d : Number) (o : Option Lost) → i < n → first_lost (output_operations r.step_cost c r.output_cost S.outputs) ≡ None → d ≡ add_constants r.output_cost S.outputs c →
    first_lost (step_operations S r (n - i) c) ≡ o → first_lost (step_operations S r (n - (i + 1)) d) ≡ o
steps_go S r n i c d o l h e q = ap (λ z. first_lost (step_operations S r (n - (i + 1)) z)) e
    ∙ sym (lost_after (output_operations r.step_cost c r.output_cost S.outputs) (step_operations S r (n - (i + 1)) (add_constants r.output_cost S.outputs c)) h) ∙ ap first_lost (sym (steps_split S r n i c l)) ∙ q

pub constant_goes : (S : System) (r : Request) (n i : ℕ) (c d all : Number) → i < n → d ≡ add_constants r.output_cost S.outputs c → constant_after S r (n - i) c ≡ all → constant_after S r (n - (i + 1)) d ≡ all
constant_goes S r n i c d all l e q = ap (constant_after S r (n - (i + 1))) e ∙ ap (λ m. constant_after S r m c) (let z : suc (n - (i + 1)) ≡ n - i = omega (arith, l) in z) ∙ q

pub first_answer : (T U : Type 0) (a : Result T StackFault) (f : StackFault) (S : System) (r : Request) → a ≡ Err f → AnswersFirst {T = U} (Err f) (step_operations S r r.horizon (whole 0)) → AnswersFirst a (request_operations S r)
first_answer T U a f S r e h = rw e (first_stops U T S r f h)

pub second_answer : (T : Type 0) (a : Result T StackFault) (l : Lost) (S : System) (r : Request) (ws : List Number) (c : Number) (is : List Interval) → a ≡ Err (stacked.Lost l) → first_lost (step_operations S r r.horizon (whole 0)) ≡ None →
    ws ≡ cost_coefficients S r → c ≡ cost_constant S r → is ≡ stacked_boxes S r → Some l ≡ first_lost (plain_operations ws c is) → AnswersFirst a (request_operations S r)
second_answer T a l S r ws c is e h x y z q = rw e (second_stops S r h ∙ ap₂ (λ us d. first_lost (plain_operations us d (stacked_boxes S r))) (sym x) (sym y) ∙ ap (λ js. first_lost (plain_operations ws c js)) (sym z) ∙ sym q)

pub both_answers : (S : System) (r : Request) (ws : List Number) (c : Number) (is : List Interval) → first_lost (step_operations S r r.horizon (whole 0)) ≡ None →
    ws ≡ cost_coefficients S r → c ≡ cost_constant S r → is ≡ stacked_boxes S r → None ≡ first_lost (plain_operations ws c is) → first_lost (request_operations S r) ≡ None
both_answers S r ws c is h x y z q = second_stops S r h ∙ ap₂ (λ us d. first_lost (plain_operations us d (stacked_boxes S r))) (sym x) (sym y) ∙ ap (λ js. first_lost (plain_operations ws c js)) (sym z) ∙ sym q

pub same_long : (S : System) (r : Request) (ws : List Number) (is : List Interval) → IsRequestOf S r → ws ≡ cost_coefficients S r → is ≡ stacked_boxes S r → length ws ≡ length is
same_long S r ws is q x z = ap length x ∙ sums_long S r q ∙ ap length (sym z)

pub few_sums : (S : System) (r : Request) (ws : List Number) → IsSystem S → IsRequestOf S r → ws ≡ cost_coefficients S r → length ws < 2 ^ 32
few_sums S r ws s q x = subst (λ n. n < 2 ^ 32) (ap length (sym x)) (sums_few S r s q)
