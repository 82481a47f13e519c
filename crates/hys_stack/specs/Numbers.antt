-- The numbers of a stacked problem that have to fit, in the order in which they are looked for: those of the cost,
-- and then those of its plain bound.
use Rattle.std.specs.Prelude.{◌≡◌, ℕ, zero, suc, List, [], ◌∷◌, ◌++◌, length, Result, Ok, Err, Some, None}
use Rattle.hys_number.specs.Number.{Number}
use Rattle.hys_number.specs.Ops.{◌+ₙ◌, ◌*ₙ◌, whole}
use Rattle.hys_lin.specs.Sums.{at}
use Rattle.hys_lin.specs.Scaled.{coefficient}
use Rattle.hys_lin.specs.Ranges.{box_at}
use Rattle.hys_lin.specs.Operations.{first_lost, times, plus}
use Rattle.hys_lin.specs.declared.form.Term.{Term}
use Rattle.hys_lin.specs.declared.form.Affine.{Affine}
use Rattle.hys_lin.specs.declared.form.Interval.{Interval}
use Rattle.hys_lin.specs.declared.lost.Lost.{Lost}
use Rattle.hys_lin.specs.declared.lost.LinFault.{LinFault}
use Rattle.hys_lin.specs.declared.lost.LinFault.TheVariants as lin
use Rattle.hys_relax.specs.Bound.{lesser_end, least_product}
use Rattle.hys_relax.specs.BoundSum.{end_operations}
use Rattle.hys_sys.specs.declared.system.Output.{Output}
use Rattle.hys_sys.specs.declared.system.System.{System}
use Rattle.hys_stack.specs.Stacking.{each_step, stacked_boxes}
use Rattle.hys_stack.specs.declared.request.Request.{Request}
use Rattle.hys_stack.specs.declared.fault.StackFault.{StackFault}
use Rattle.hys_stack.specs.declared.fault.StackFault.TheVariants as stacked

abbrev pub of_lin : LinFault → StackFault
of_lin (lin.Lost l) = stacked.Lost l
of_lin lin.Memory = stacked.Memory

-- memory aside, an operation that is shown is the first that is lost, and none is where the answer is Ok
abbrev pub AnswersFirst : {T : Type 0} → Result T StackFault → List Lost → Type 0
AnswersFirst (Ok x) os = first_lost os ≡ None
AnswersFirst (Err (stacked.Lost l)) os = first_lost os ≡ Some l
AnswersFirst (Err stacked.Memory) os = Unit {0}

-- ---- the cost
-- Each sum starts from 0, so the weights of columns and of final states are the first in their columns, and fit.
-- Then for each output in order its weight times each factor of its form is added, column by column, and then its
-- weight times its constant.
abbrev pub term_operations : Number → List Number → List Term → List Lost
term_operations w fs [] = []
term_operations w fs (t ∷ ts) = times w t.factor ∷ plus (at fs t.column) (w *ₙ t.factor) ∷ term_operations w fs ts

-- the coefficients of the columns from k on, with those of a weighted form added
abbrev pub add_form : Number → List Term → ℕ → List Number → List Number
add_form w ts k [] = []
add_form w ts k (a ∷ as') = (a +ₙ w *ₙ coefficient ts k) ∷ add_form w ts (suc k) as'

-- of a form, whose constant comes last
abbrev pub form_operations : Number → List Number → Number → Affine → List Lost
form_operations w fs k f = term_operations w fs f.terms ++ times w f.constant ∷ plus k (w *ₙ f.constant) ∷ []

-- of the outputs, where so far the columns have the coefficients fs, and the constant is k
abbrev pub output_operations : List Number → Number → List Number → List Output → List Lost
output_operations fs k ws [] = []
output_operations fs k [] (o ∷ os) = []
output_operations fs k (w ∷ ws) (o ∷ os) =
    form_operations w fs k o.form ++ output_operations (add_form w o.form.terms 0 fs) (k +ₙ w *ₙ o.form.constant) ws os

-- the coefficients of the columns after the outputs, and the constant
abbrev pub add_outputs : List Number → List Output → List Number → List Number
add_outputs ws [] fs = fs
add_outputs [] (o ∷ os) fs = fs
add_outputs (w ∷ ws) (o ∷ os) fs = add_outputs ws os (add_form w o.form.terms 0 fs)

abbrev pub add_constants : List Number → List Output → Number → Number
add_constants ws [] k = k
add_constants [] (o ∷ os) k = k
add_constants (w ∷ ws) (o ∷ os) k = add_constants ws os (k +ₙ w *ₙ o.form.constant)

-- of the outputs of one step
abbrev pub one_step_operations : System → Request → Number → List Lost
one_step_operations S r k = output_operations r.step_cost k r.output_cost S.outputs

-- of n steps, where the constant so far is k: it goes on from step to step
abbrev pub step_operations : System → Request → ℕ → Number → List Lost
step_operations S r zero k = []
step_operations S r (suc n) k =
    one_step_operations S r k ++ step_operations S r n (add_constants r.output_cost S.outputs k)

abbrev pub constant_after : System → Request → ℕ → Number → Number
constant_after S r zero k = k
constant_after S r (suc n) k = constant_after S r n (add_constants r.output_cost S.outputs k)

-- the constant of the cost, and the coefficient of each stacked column
abbrev pub cost_constant : System → Request → Number
cost_constant S r = constant_after S r r.horizon (whole 0)

abbrev pub step_coefficients : System → Request → ℕ → List Number
step_coefficients S r t = add_outputs r.output_cost S.outputs r.step_cost

abbrev pub cost_coefficients : System → Request → List Number
cost_coefficients S r = each_step 0 r.horizon (step_coefficients S r) ++ r.final_cost

-- ---- the plain bound: from the constant, for each column in order the product of its coefficient with the end of
-- its box that makes it less is added
abbrev pub plain_operations : List Number → Number → List Interval → List Lost
plain_operations fs k boxes = end_operations k (at fs) (box_at boxes) (length boxes)

-- of one of them: the product, and its sum with the bound so far
abbrev pub least_operations : Number → Number → Interval → List Lost
least_operations bound factor box = times factor (lesser_end factor box) ∷ plus bound (least_product factor box) ∷ []

-- all numbers of a request
abbrev pub request_operations : System → Request → List Lost
request_operations S r =
    step_operations S r r.horizon (whole 0) ++ plain_operations (cost_coefficients S r) (cost_constant S r) (stacked_boxes S r)
